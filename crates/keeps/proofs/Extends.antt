-- Extends that change nothing.
use Rattle.std.specs.Prelude.{Err, Ok}
use mathlib.Core.Path.{◌≡◌, refl, ap, ap₂, ◌∙◌}
use mathlib.Core.Bool.{Bool, true, false, cond}
use Prim.Native.Nat.{ℕ, ◌+◌}
use native.Mathlib.Omega.{arith}
use borrow.Author.Tests.{le-leb}
use Rattle.refusal.specs.declared.Refusal.TheVariants as refusals
use Rattle.model.specs.declared.Length.{Length}
use Rattle.model.specs.declared.Length.TheVariants.{Time, Distance, Open}
use Rattle.state.specs.declared.Player.{Player}
use Rattle.standing.specs.Standing.{standing_of}
use Rattle.outcomes.specs.Outcomes.{with_core, with_lap, longer_core, not_longer, extended_by, longer_by, extend_core, extend_by, not_extended}
use Rattle.player.specs.Calls.{extend_now, extend_with}
use Rattle.player.proofs.Laws.{extra-fits}
use Rattle.keeps.specs.Extends.{extended_by_none, IdleExtends}

-- 0 s and 0 m more
longer-none : (p : Player) → longer_by 0 0 p ≡ extended_by_none p
longer-none p =
    let lap = p.core.lap in
    let s : lap.extra_s + 0 ≡ lap.extra_s = omega arith in
    let m : lap.extra_m + 0 ≡ lap.extra_m = omega arith in
    ap₂ (λ (s m : ℕ). record { answer = (Ok tt); player = with_core (with_lap (record { step_ms = lap.step_ms; step_mm = lap.step_mm; extra_s = s; extra_m = m }) p.core) p; extended = true }) s m

module _ (p : Player) (e : standing_of p ≡ true) where
  past-20 : (secs metres : ℕ) → extend_with secs metres p ≡ extend_now secs metres p.core.done p
  unfolding extend_with
  past-20 secs metres = ap (λ (b : Bool). cond b (extend_now secs metres p.core.done p) (not_extended (Err refusals.Standing) p)) e

  finished : (secs metres : ℕ) → p.core.done ≡ true → extend_with secs metres p ≡ not_extended (Ok tt) p
  finished secs metres d = past-20 secs metres ∙ ap (λ (b : Bool). extend_now secs metres b p) d

  open_step : (secs metres : ℕ) → p.core.on.length ≡ Open → extend_with secs metres p ≡ not_extended (Ok tt) p
  unfolding extend_by extend_core
  open_step secs metres o = past-20 secs metres ∙ at p.core.done
    where
      at : (d : Bool) → extend_now secs metres d p ≡ not_extended (Ok tt) p
      at true = refl
      at false = ap (λ (l : Length). extend_by secs metres l p) o

  module _ (d : p.core.done ≡ false) where
    unfinished : (secs metres : ℕ) (l : Length) → p.core.on.length ≡ l → extend_with secs metres p ≡ extend_by secs metres l p
    unfinished secs metres l o =
        past-20 secs metres ∙ ap (λ (b : Bool). extend_now secs metres b p) d ∙ ap (λ (l : Length). extend_by secs metres l p) o

    -- what question 15 lets through adds nothing
    passed : (t : Bool) → t ≡ true → extended_by p (cond t (longer_core 0 0 p.core) (not_longer (Err refusals.Extra) p.core)) ≡ extended_by_none p
    passed t f = ap (λ (t : Bool). extended_by p (cond t (longer_core 0 0 p.core) (not_longer (Err refusals.Extra) p.core))) f ∙ longer-none p

    timed : (time metres : ℕ) → p.core.on.length ≡ Time time → extend_with 0 metres p ≡ extended_by_none p
    unfolding extend_by extend_core
    timed time metres o =
        unfinished 0 metres (Time time) o ∙ passed _ (le-leb (p.core.lap.extra_s + 0) 86400 (omega (arith, (extra-fits p e d).extra-s)))

    distance : (way secs : ℕ) → p.core.on.length ≡ Distance way → extend_with secs 0 p ≡ extended_by_none p
    unfolding extend_by extend_core
    distance way secs o =
        unfinished secs 0 (Distance way) o ∙ passed _ (le-leb (p.core.lap.extra_m + 0) 1000000 (omega (arith, (extra-fits p e d).extra-m)))

pub idle-extends : IdleExtends
idle-extends =
    record {
      finished = λ p secs metres e d. finished p e secs metres d;
      open_step = λ p secs metres e o. open_step p e secs metres o;
      timed = λ p time metres e d o. timed p e d time metres o;
      distance = λ p way secs e d o. distance p e d way secs o;
    }
