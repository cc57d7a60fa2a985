-- Every call keeps the workout, and the last reading is one that was read: a player in memory stays one.
use Rattle.std.specs.Prelude.{Err, Ok, Result, ⊤}
use mathlib.Core.Path.{◌≡◌, refl, sym, ap, ◌∙◌, subst}
use mathlib.Core.Bool.{Bool, true, false, cond}
use Prim.Native.Nat.{ℕ, zero, suc, ◌+◌, ◌-◌}
use lib.Dec.{leb, eqb}
use lib.ListN.{length}
use Rattle.refusal.specs.declared.Refusal.TheVariants as refusals
use Rattle.refusal.specs.declared.Refusal.{Refusal}
use Rattle.zones.specs.declared.TrainingProfile.{TrainingProfile}
use Rattle.model.specs.declared.Length.{Length}
use Rattle.model.specs.declared.Length.TheVariants.{Time, Distance, Open}
use Rattle.model.specs.declared.Workout.{Workout}
use Rattle.readings.specs.declared.Sample.{Sample}
use Rattle.readings.specs.declared.Readings.{Readings}
use Rattle.readings.specs.Readings.{taken}
use Rattle.state.specs.declared.Part.{Part}
use Rattle.state.specs.declared.Player.{Player}
use Rattle.state.specs.State.{read_core, until_end}
use Rattle.step_end.specs.StepEnd.{arrived, next_of}
use Rattle.rounds.specs.Rounds.{Riding, riding, Rode, riding_of, advanced, round_of, stays, accounted, joined, is_stopped, rounds}
use Rattle.standing.specs.Standing.{standing_of}
use Rattle.outcomes.specs.Outcomes.{Called, eventless, totalled, not_extended, not_longer, longer_core, extend_core, extended_by, extend_by}
use Rattle.updates.specs.Updates.{ride_by, ride_now, skip_to, skip_now}
use Rattle.player.specs.Calls.{answered, ride_answer, ride_of, read_answer, read_by, read_of, skip_answer, skip_of, extend_with}
use Rattle.keeps.specs.Keeps.{PowerFits, PlayerFits}
use Rattle.keeps.proofs.Rides.{closed-readings}

-- Riding leaves the readings.

round-readings : (w : Workout) (f : TrainingProfile) (part : Part) (s : Riding) → (round_of w f part s).core.readings ≡ s.core.readings
unfolding round_of advanced
round-readings w f part s = at (eqb part.ms.0 0)
  where
    ridden : Riding
    ridden = advanced w.test f part.ms.0 part.mm.0 s

    at : (idle : Bool) → (cond idle (stays s) (accounted w f s.core.lap.step_ms ridden)).core.readings ≡ s.core.readings
    at true = refl
    at false = closed-readings w f ridden.core

rounds-readings : (w : Workout) (f : TrainingProfile) (n ms mm : ℕ) (s : Riding) → (rounds w f n ms mm s).core.readings ≡ s.core.readings
unfolding rounds
rounds-readings w f zero ms mm s = refl
rounds-readings w f (suc n) ms mm s =
    at (rounds-readings w f n _ _ (riding_of one) ∙ round-readings w f (until_end s.core ms mm) s) (is_stopped s.core.done ms)
  where
    one : Rode
    one = round_of w f (until_end s.core ms mm) s

    rest : Rode
    rest = rounds w f n (ms - (until_end s.core ms mm).ms.0) (mm - (until_end s.core ms mm).mm.0) (riding_of one)

    at : rest.core.readings ≡ s.core.readings → (stopped : Bool) → (cond stopped (stays s) (joined one rest)).core.readings ≡ s.core.readings
    at later true = refl
    at later false = later

-- A player with other numbers, but the workout and the readings of one that fits.
fits_by : (p q : Player) → q.workout ≡ p.workout → q.core.readings ≡ p.core.readings → PlayerFits p → PlayerFits q
fits_by p q w r fits =
    record {
      twelve = ap (λ (v : Workout). length v.steps) w ∙ fits.twelve;
      power = subst (λ (v : Readings). PowerFits v.last_sample) (sym r) fits.power;
    }

module _ (p : Player) (fits : PlayerFits p) where
  answered-fits : (a : Result ⊤ Refusal) (o : Called) → PlayerFits o.player → PlayerFits (answered a p o).player
  answered-fits (Ok tt) o f = f
  answered-fits (Err r) o f = fits

  pub read_fits : (sample : Sample) → PowerFits sample → PlayerFits (read_of p sample).player
  unfolding read_of read_core taken
  read_fits sample power = at (read_answer p sample)
    where
      at : (a : Result ⊤ Refusal) → PlayerFits (read_by a p sample).player
      at (Ok tt) = record { twelve = fits.twelve; power = power }
      at (Err r) = fits

  pub ride-fits : (ms mm : ℕ) (f : TrainingProfile) (kinds values : ℕ) → PlayerFits (ride_of p ms mm f kinds values).player
  unfolding ride_of ride_now
  ride-fits ms mm f kinds values = answered-fits (ride_answer p ms mm f kinds values) (ride_now p ms mm f) (at (eqb ms 0))
    where
      rode : Rode
      rode = rounds p.workout f 97 ms mm (riding (totalled ms mm p.core) p.minute)

      at : (idle : Bool) → PlayerFits (ride_by idle p rode).player
      at true = fits
      at false =
          fits_by p (ride_by false p rode).player refl (rounds-readings p.workout f 97 ms mm (riding (totalled ms mm p.core) p.minute)) fits

  pub skip-fits : (kinds values : ℕ) → PlayerFits (skip_of p kinds values).player
  unfolding skip_of skip_now next_of arrived
  skip-fits kinds values = answered-fits (skip_answer p kinds values) (skip_now p) (at p.core.done)
    where
      at : (done : Bool) → PlayerFits (cond done (eventless (Ok tt) p) (skip_to p (next_of p.workout true p.core))).player
      at true = fits
      at false = fits_by p (skip_to p (next_of p.workout true p.core)).player refl refl fits

  pub extend_fits : (secs metres : ℕ) → PlayerFits (extend_with secs metres p).player
  unfolding extend_with extend_by extend_core
  extend_fits secs metres = at (standing_of p) p.core.done p.core.on.length
    where
      longer : (t : Bool) (secs metres : ℕ) → PlayerFits (extended_by p (cond t (longer_core secs metres p.core) (not_longer (Err refusals.Extra) p.core))).player
      longer true secs metres = fits_by p (extended_by p (longer_core secs metres p.core)).player refl refl fits
      longer false secs metres = fits_by p (extended_by p (not_longer (Err refusals.Extra) p.core)).player refl refl fits

      by : (lasts : Length) → PlayerFits (extended_by p (extend_core secs metres lasts p.core)).player
      by (Time time) = longer (leb (p.core.lap.extra_s + secs) 86400) secs 0
      by (Distance way) = longer (leb (p.core.lap.extra_m + metres) 1000000) 0 metres
      by Open = fits_by p (extended_by p (not_longer (Ok tt) p.core)).player refl refl fits

      at : (stands done : Bool) (lasts : Length)
          → PlayerFits (cond stands (cond done (not_extended (Ok tt) p) (extended_by p (extend_core secs metres lasts p.core))) (not_extended (Err refusals.Standing) p)).player
      at true true lasts = fits
      at true false lasts = by lasts
      at false done lasts = fits
