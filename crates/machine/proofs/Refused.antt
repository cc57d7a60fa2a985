-- A refused call leaves the player and gives no events.
use Rattle.std.specs.Prelude.{Err, Ok, Result, ⊤}
use mathlib.Core.Path.{◌≡◌, refl, sym, ◌∙◌}
use mathlib.Core.Bool.{Bool, true, false, cond}
use mathlib.Core.List.{[]}
use Prim.Native.Nat.{ℕ, ◌+◌}
use native.Mathlib.Omega.{arith}
use lib.Dec.{leb, eqb}
use Rattle.refusal.specs.declared.Refusal.{Refusal}
use Rattle.refusal.specs.declared.Refusal.TheVariants as refusals
use Rattle.zones.specs.declared.TrainingProfile.{TrainingProfile}
use Rattle.model.specs.declared.Length.{Length}
use Rattle.model.specs.declared.Length.TheVariants.{Time, Distance, Open}
use Rattle.readings.specs.declared.Sample.{Sample}
use Rattle.state.specs.declared.Player.{Player}
use Rattle.step_end.specs.StepEnd.{next_of}
use Rattle.rounds.specs.Rounds.{Rode, riding, rounds}
use Rattle.standing.specs.Standing.{standing_of}
use Rattle.outcomes.specs.declared.Extended.{Extended}
use Rattle.outcomes.specs.Outcomes.{Called, eventless, totalled, not_extended, longer_core, not_longer, extended_by, extend_core, extend_by}
use Rattle.updates.specs.Updates.{ride_by, ride_now, skip_to, skip_now}
use Rattle.player.specs.Calls.{answered, ride_answer, ride_of, read_answer, read_by, read_of, skip_answer, skip_of, extend_now, extend_with}
use Rattle.machine.specs.Cutting.{read, ride, skip, extend}
use Rattle.machine.specs.Runs.{of_read, of_extend, called}
use Rattle.machine.specs.ThirdDemand.{RefusedStays}

abbrev Stays : Player → Called → Type 0
Stays q c = (c.player ≡ q) × (c.events ≡ [])

taken : (r : Refusal) → ◌≡◌ {A = Result ⊤ Refusal} (Ok tt) (Err r) → ⊥
taken r e = let z : ◌≡◌ {A = ℕ} 0 1 = cc in omega arith

module _ (q : Player) (r : Refusal) where
  answered-stays : (a : Result ⊤ Refusal) (c : Called) → c.answer ≡ Ok tt → (answered a q c).answer ≡ Err r → Stays q (answered a q c)
  answered-stays (Ok tt) c e h = absurd (taken r (sym e ∙ h))
  answered-stays (Err s) c e h = (refl, refl)

  read_stays : (sample : Sample) (a : Result ⊤ Refusal) → (read_by a q sample).answer ≡ Err r → Stays q (of_read (read_by a q sample))
  read_stays sample (Ok tt) h = absurd (taken r h)
  read_stays sample (Err s) h = (refl, refl)

  ride-taken : (idle : Bool) (o : Rode) → (ride_by idle q o).answer ≡ Ok tt
  ride-taken true o = refl
  ride-taken false o = refl

  now-taken : (ms mm : ℕ) (p : TrainingProfile) → (ride_now q ms mm p).answer ≡ Ok tt
  unfolding ride_now
  now-taken ms mm p = ride-taken (eqb ms 0) (rounds q.workout p 97 ms mm (riding (totalled ms mm q.core) q.minute))

  skip-taken : (skip_now q).answer ≡ Ok tt
  unfolding skip_now
  skip-taken = at q.core.done
    where
      at : (t : Bool) → (cond t (eventless (Ok tt) q) (skip_to q (next_of q.workout true q.core))).answer ≡ Ok tt
      at true = refl
      at false = refl

  abbrev Extends : Extended → Type 0
  Extends x = x.answer ≡ Err r → Stays q (of_extend x)

  longer-stays : (t : Bool) (secs metres : ℕ) → Extends (extended_by q (cond t (longer_core secs metres q.core) (not_longer (Err refusals.Extra) q.core)))
  longer-stays true secs metres h = absurd (taken r h)
  longer-stays false secs metres h = (refl, refl)

  extend-by-stays : (secs metres : ℕ) (l : Length) → Extends (extend_by secs metres l q)
  unfolding extend_by extend_core
  extend-by-stays secs metres (Time time) h = longer-stays (leb (q.core.lap.extra_s + secs) 86400) secs 0 h
  extend-by-stays secs metres (Distance way) h = longer-stays (leb (q.core.lap.extra_m + metres) 1000000) 0 metres h
  extend-by-stays secs metres Open h = (refl, refl)

  extend-now-stays : (secs metres : ℕ) (done : Bool) → Extends (extend_now secs metres done q)
  extend-now-stays secs metres true h = (refl, refl)
  extend-now-stays secs metres false h = extend-by-stays secs metres q.core.on.length h

  extend-stays : (secs metres : ℕ) (t : Bool) → Extends (cond t (extend_now secs metres q.core.done q) (not_extended (Err refusals.Standing) q))
  extend-stays secs metres true h = extend-now-stays secs metres q.core.done h
  extend-stays secs metres false h = (refl, refl)

pub refused-stays : RefusedStays
unfolding called read_of ride_of skip_of extend_with
refused-stays p (read sample) q r h = read_stays q r sample (read_answer q sample) h
refused-stays p (ride ms mm kinds values) q r h =
    answered-stays q r (ride_answer q ms mm p kinds values) (ride_now q ms mm p) (now-taken q r ms mm p) h
refused-stays p (skip kinds values) q r h = answered-stays q r (skip_answer q kinds values) (skip_now q) (skip-taken q r) h
refused-stays p (extend secs metres) q r h = extend-stays q r secs metres (standing_of q) h
