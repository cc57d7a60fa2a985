-- The part of an update: there is some of it, it is within the update, and it ends the step or uses the update up.
use mathlib.Core.Path.{◌≡◌, refl, sym, ap, subst}
use mathlib.Core.Logic.{◌⊎◌, inl, inr}
use mathlib.Core.Bool.{Bool, true, false, cond, ◌&&◌}
use mathlib.Core.List.{[]}
use Prim.Native.Nat.{ℕ, ◌+◌, ◌-◌, ◌*◌, ◌/◌, ◌≤◌, ◌<◌}
use native.Mathlib.Nat.{le-div_iff_mul-le, mul-le-mul}
use native.Mathlib.Omega.{arith}
use lib.Dec.{ltb, leb}
use borrow.Author.Tests.{ltb-true, leb-true, leb-false, lt-ltb, le-ltb, le-leb}
use Rattle.common.proofs.Tests.{cond-by}
use Rattle.zones.specs.declared.TrainingProfile.{TrainingProfile}
use Rattle.model.specs.declared.Length.{Length}
use Rattle.model.specs.declared.Length.TheVariants.{Time, Distance, Open}
use Rattle.events.specs.Events.{countdown, events_if}
use Rattle.state.specs.declared.Lap.{Lap}
use Rattle.state.specs.declared.Core.{Core}
use Rattle.state.specs.declared.Part.{Part}
use Rattle.state.specs.State.{duration_ms, distance_mm, part, share_of, until_end}
use Rattle.state.proofs.Laws.{share-down, share_up}
use Rattle.step_end.specs.StepEnd.{countdown_at, countdowns_to, countdowns_of, over_by, is_over}
use Rattle.standing.specs.Standing.{below_end}
use Rattle.rounds.specs.Rounds.{ridden_lap}

-- the step's end by time or by way has come
abbrev pub reached : Length → Lap → Bool
reached (Time secs) lap = leb (duration_ms secs lap) lap.step_ms
reached (Distance metres) lap = leb (distance_mm metres lap) lap.step_mm
reached Open lap = false

pub record PartIs (ms mm : ℕ) (l : Length) (lap : Lap) (t : Part) : Type 0 where
  pub some : 0 < t.ms.0
  pub within-ms : t.ms.0 ≤ ms
  pub within-mm : t.mm.0 ≤ mm
  pub ends : (t.ms.0 ≡ ms) ⊎ (reached l (ridden_lap t.ms.0 t.mm.0 lap) ≡ true)

-- time rounded up is some time
some_time : (ms left mm : ℕ) → 0 < ms → 0 < left → left < mm → 0 < (ms * left + (mm - 1)) / mm
some_time ms left mm p q h =
    let one : 1 * 1 ≤ ms * left = mul-le-mul p q in
    (le-div_iff_mul-le {k = mm} {x = 1} {y = ms * left + (mm - 1)} (omega arith)).1 (omega arith)

share-is : (l : Length) (lap : Lap) (ms mm : ℕ) → 0 < ms → below_end l lap ≡ true → PartIs ms mm l lap (share_of l lap ms mm)
unfolding share_of
share-is (Time secs) lap ms mm p h =
    let below : lap.step_ms < duration_ms secs lap = ltb-true _ _ h in
    cond-by (PartIs ms mm (Time secs) lap) (ltb (duration_ms secs lap - lap.step_ms) ms)
    (λ e.
    let less : duration_ms secs lap - lap.step_ms < ms = ltb-true _ _ e in
    record {
      some = omega arith;
      within-ms = omega arith;
      within-mm = share-down (duration_ms secs lap - lap.step_ms) mm ms (omega arith);
      ends = inr (le-leb (duration_ms secs lap) (lap.step_ms + (duration_ms secs lap - lap.step_ms)) (omega arith));
    })
    (λ e. record { some = p; within-ms = omega arith; within-mm = omega arith; ends = inl refl })
share-is (Distance metres) lap ms mm p h =
    let below : lap.step_mm < distance_mm metres lap = ltb-true _ _ h in
    cond-by (PartIs ms mm (Distance metres) lap) (ltb (distance_mm metres lap - lap.step_mm) mm)
    (λ e.
    let less : distance_mm metres lap - lap.step_mm < mm = ltb-true _ _ e in
    record {
      some = some_time ms (distance_mm metres lap - lap.step_mm) mm p (omega arith) less;
      within-ms = share_up (distance_mm metres lap - lap.step_mm) ms mm less;
      within-mm = omega arith;
      ends = inr (le-leb (distance_mm metres lap) (lap.step_mm + (distance_mm metres lap - lap.step_mm)) (omega arith));
    })
    (λ e. record { some = p; within-ms = omega arith; within-mm = omega arith; ends = inl refl })
share-is Open lap ms mm p h = record { some = p; within-ms = omega arith; within-mm = omega arith; ends = inl refl }

pub part-is : (c : Core) (ms mm : ℕ) → c.done ≡ false → 0 < ms → below_end c.on.length c.lap ≡ true
    → PartIs ms mm c.on.length c.lap (until_end c ms mm)
unfolding until_end
part-is c ms mm d p h =
    subst (λ (b : Bool). PartIs ms mm c.on.length c.lap (cond b (part ms mm) (share_of c.on.length c.lap ms mm))) (sym d)
    (share-is c.on.length c.lap ms mm p h)

-- an end that has come by time or way is the step's
over_by_lem : (l : Length) (p : TrainingProfile) (c : Core) → reached l c.lap ≡ true → over_by l p c ≡ true
over_by_lem (Time secs) p c h = h
over_by_lem (Distance metres) p c h = h
over_by_lem Open p c h = absurd (true-false h)
  where
    true-false : false ≡ true → ⊥
    true-false e = let z : ◌≡◌ {A = ℕ} 0 1 = ap (λ (b : Bool). cond b 1 0) e in omega arith

pub reached-over : (p : TrainingProfile) (c : Core) → reached c.on.length c.lap ≡ true → is_over p c ≡ true
unfolding is_over
reached-over p c h = over_by_lem c.on.length p c h

-- where the end has not come, the step's amounts are below it
below_by : (l : Length) (p : TrainingProfile) (c : Core) → over_by l p c ≡ false → below_end l c.lap ≡ true
below_by (Time secs) p c h = lt-ltb c.lap.step_ms (duration_ms secs c.lap) (leb-false (duration_ms secs c.lap) c.lap.step_ms h)
below_by (Distance metres) p c h = lt-ltb c.lap.step_mm (distance_mm metres c.lap) (leb-false (distance_mm metres c.lap) c.lap.step_mm h)
below_by Open p c h = refl

pub not-over-below : (p : TrainingProfile) (c : Core) → is_over p c ≡ false → below_end c.on.length c.lap ≡ true
unfolding is_over
not-over-below p c h = below_by c.on.length p c h

-- a part that ends its step has no countdown
and-false : (a b : Bool) → b ≡ false → (a && b) ≡ false
and-false true b h = h
and-false false b h = refl

none-due : (secs end before after : ℕ) → end ≤ after → countdown_at secs end before after ≡ []
none-due secs end before after h =
    ap (λ (b : Bool). events_if b (countdown secs))
    (and-false (ltb before (end - secs * 1000) && leb (end - secs * 1000) after) (ltb after end) (le-ltb after end h))

silent-by : (l : Length) (p : TrainingProfile) (c : Core) (before : ℕ) → over_by l p c ≡ true → countdowns_of l c.lap before ≡ []
unfolding countdowns_to
silent-by (Time secs) p c before h =
    let past : duration_ms secs c.lap ≤ c.lap.step_ms = leb-true _ _ h in
    rw (none-due 3 (duration_ms secs c.lap) before c.lap.step_ms past, none-due 2 (duration_ms secs c.lap) before c.lap.step_ms past, none-due 1 (duration_ms secs c.lap) before c.lap.step_ms past)
silent-by (Distance metres) p c before h = refl
silent-by Open p c before h = refl

pub over-silent : (p : TrainingProfile) (c : Core) (before : ℕ) → is_over p c ≡ true → countdowns_of c.on.length c.lap before ≡ []
unfolding is_over
over-silent p c before h = silent-by c.on.length p c before h
