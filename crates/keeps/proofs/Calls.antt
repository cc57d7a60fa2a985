-- Each call keeps standing.
use Rattle.std.specs.Prelude.{Err, Ok, Result, ⊤}
use mathlib.Core.Path.{◌≡◌, refl, sym, subst}
use mathlib.Core.Bool.{Bool, true, false, cond, ◌&&◌}
use mathlib.Core.List.{List}
use Prim.Native.Nat.{ℕ, ◌+◌, ◌*◌, ◌≤◌, ◌<◌, min}
use native.Mathlib.Omega.{arith}
use lib.Dec.{leb, eqb}
use lib.ListN.{length, length-take}
use borrow.Author.Tests.{ltb-true, leb-true, lt-ltb, le-leb}
use Rattle.common.proofs.Tests.{and_left, and_both}
use Rattle.refusal.specs.declared.Refusal.TheVariants as refusals
use Rattle.refusal.specs.Number.{ask}
use Rattle.refusal.specs.declared.Refusal.{Refusal}
use Rattle.zones.specs.declared.TrainingProfile.{TrainingProfile}
use Rattle.zones.specs.Zones.{profile_ok}
use Rattle.model.specs.declared.Length.{Length}
use Rattle.model.specs.declared.Length.TheVariants.{Time, Distance, Open}
use Rattle.model.specs.declared.Workout.{Workout}
use Rattle.order.specs.Order.{played_len}
use Rattle.validation.specs.Sound.{workout_answer}
use Rattle.validation.proofs.Passes.{passes}
use Rattle.readings.specs.declared.Sample.{Sample}
use Rattle.readings.specs.Readings.{taken}
use Rattle.state.specs.declared.Lap.{Lap}
use Rattle.state.specs.declared.Core.{Core}
use Rattle.state.specs.declared.Player.{Player}
use Rattle.state.specs.State.{extended_lap, read_core}
use Rattle.step_end.specs.StepEnd.{next_of}
use Rattle.standing.specs.Standing.{on_place, below_end, lap_ok, cadence_in, standing_of}
use Rattle.standing.specs.Facts.{Within, Stands}
use Rattle.standing.proofs.Amounts.{amounts-within}
use Rattle.standing.proofs.Known.{known, stands}
use Rattle.rounds.specs.Rounds.{riding, rounds}
use Rattle.rounds.proofs.Keeps.{next-stands}
use Rattle.outcomes.specs.Outcomes.{Called, eventless, player_of, with_core, totalled, with_lap, longer_core, not_longer, extended_by, longer_by, extend_core, extend_by, not_extended, ExtraFits}
use Rattle.updates.specs.Updates.{rode_to, ride_by, ride_now, add_now, skip_to, skip_now, Supposes}
use Rattle.player.specs.Calls.{update_answer, places_ok, ride_of, read_by, read_answer, read_of, add_of, skip_of, extend_now, extend_with}
use Rattle.updates.proofs.Laws.{totalled-stands, read-stands, read-supposes}
use Rattle.player.proofs.Laws.{update-passed, ride-10, ride-refused, ride-taken, skip-14, skip-taken, extra-fits, add-10, add-11, add-refused, add-taken}
use Rattle.keeps.specs.Keeps.{PowerFits, PlayerFits}
use Rattle.keeps.proofs.Notes.{note-here}
use Rattle.keeps.proofs.Rides.{rounds-stand}

-- a workout that passes 5 to 9 plays something
pub plays : (w : Workout) → length w.steps ≡ 12 → workout_answer w ≡ Ok tt → 0 < played_len w
unfolding played_len
plays w twelve e = omega (arith, ltb-true 0 w.step_count (passes w e).some, length-take w.step_count w.steps)

-- the player of a core that stands, whose note is looked up
made-stands : (w : Workout) (c : Core) (m : List ℕ) → 0 < played_len w → Stands 0 0 w c → standing_of (player_of w (riding c m)) ≡ true
made-stands w c m some s = stands (player_of w (riding c m)) (record { core = s; note = note-here 0 0 w c s.within some })

module _ (p : Player) (e : standing_of p ≡ true) where
  pub read_kept : (sample : Sample) → standing_of (read_of p sample).player ≡ true
  unfolding read_of read_answer read_core on_place
  read_kept sample = at (standing_of p) (cadence_in sample.cadence_tenths) refl
    where
      at : (b t : Bool) → cadence_in sample.cadence_tenths ≡ t
          → standing_of (read_by (ask b refusals.Standing (ask t refusals.Cadence (Ok tt))) p sample).player ≡ true
      at true true c =
          stands (with_core (read_core sample p.core) p)
          (record { core = read-stands p.workout p.core sample (known p e).core c; note = (known p e).note })
      at true false c = e
      at false t c = e

  module _ (fits : PlayerFits p) where
    some : 0 < played_len p.workout
    some = plays p.workout fits.twelve (known p e).core.within.valid

    skip-now-kept : standing_of (skip_now p).player ≡ true
    unfolding skip_now
    skip-now-kept = at p.core.done refl
      where
        at : (t : Bool) → p.core.done ≡ t → standing_of (cond t (eventless (Ok tt) p) (skip_to p (next_of p.workout true p.core))).player ≡ true
        at true d = e
        at false d =
            made-stands p.workout (next_of p.workout true p.core).core p.minute some
            (next-stands 0 0 p.workout true p.core (known p e).core.within d)

    pub skip-kept : (k v : ℕ) → standing_of (skip_of p k v).player ≡ true
    skip-kept k v = at (places_ok p.core k v) refl
      where
        at : (t : Bool) → places_ok p.core k v ≡ t → standing_of (skip_of p k v).player ≡ true
        at true g = subst (λ (o : Called). standing_of o.player ≡ true) (skip-taken p k v e g) skip-now-kept
        at false g = subst (λ (o : Called). standing_of o.player ≡ true) (skip-14 p k v e g) e

-- a ride that was taken
rode-kept : (p : Player) (ms mm : ℕ) (f : TrainingProfile) (k v : ℕ) → PlayerFits p → Supposes p.workout p.core ms mm k v
    → standing_of (rode_to p.workout (rounds p.workout f 97 ms mm (riding (totalled ms mm p.core) p.minute))).player ≡ true
rode-kept p ms mm f k v fits s =
    let w = p.workout in
    let r = rounds w f 97 ms mm (riding (totalled ms mm p.core) p.minute) in
    made-stands w r.core r.watts (plays w fits.twelve s.stands.within.valid)
    (rounds-stand w f 97 ms mm (totalled ms mm p.core) p.minute (totalled-stands w p.core ms mm s.stands s.total-ms s.total-mm) s.ms_in s.mm_in fits.power)

module _ (p : Player) (ms mm : ℕ) (f : TrainingProfile) (k v : ℕ) (fits : PlayerFits p) (e : standing_of p ≡ true) where
  now-kept : update_answer p.core ms mm k v ≡ Ok tt → standing_of (ride_now p ms mm f).player ≡ true
  unfolding ride_now
  now-kept u = at (eqb ms 0)
    where
      at : (t : Bool) → standing_of (ride_by t p (rounds p.workout f 97 ms mm (riding (totalled ms mm p.core) p.minute))).player ≡ true
      at true = e
      at false = rode-kept p ms mm f k v fits (update-passed p.workout p.core ms mm k v (known p e).core u)

  pub ride-kept : standing_of (ride_of p ms mm f k v).player ≡ true
  ride-kept = at (profile_ok f) refl (update_answer p.core ms mm k v) refl
    where
      at : (t : Bool) → profile_ok f ≡ t → (a : Result ⊤ Refusal) → update_answer p.core ms mm k v ≡ a → standing_of (ride_of p ms mm f k v).player ≡ true
      at true g (Ok tt) u = subst (λ (o : Called). standing_of o.player ≡ true) (ride-taken p ms mm f k v e g u) (now-kept u)
      at true g (Err r) u = subst (λ (o : Called). standing_of o.player ≡ true) (ride-refused p ms mm f k v r e g u) e
      at false g a u = subst (λ (o : Called). standing_of o.player ≡ true) (ride-10 p ms mm f k v e g) e

  module _ (sample : Sample) (power : PowerFits sample) where
    add-now-kept : cadence_in sample.cadence_tenths ≡ true → update_answer p.core ms mm k v ≡ Ok tt → standing_of (add_now p ms mm sample f).player ≡ true
    unfolding add_now ride_now read_core taken
    add-now-kept c u = at (eqb ms 0)
      where
        at : (t : Bool) → standing_of (cond t (eventless (Ok tt) p) (ride_by t (with_core (read_core sample p.core) p) (rounds p.workout f 97 ms mm (riding (totalled ms mm (read_core sample p.core)) p.minute)))).player ≡ true
        at true = e
        at false =
            rode-kept (with_core (read_core sample p.core) p) ms mm f k v (record { twelve = fits.twelve; power = power })
            (read-supposes p.workout p.core sample ms mm k v (update-passed p.workout p.core ms mm k v (known p e).core u) c)

    pub add_kept : standing_of (add_of p ms mm sample f k v).player ≡ true
    add_kept = at (profile_ok f) refl (cadence_in sample.cadence_tenths) refl (update_answer p.core ms mm k v) refl
      where
        at : (t : Bool) → profile_ok f ≡ t → (c : Bool) → cadence_in sample.cadence_tenths ≡ c → (a : Result ⊤ Refusal) → update_answer p.core ms mm k v ≡ a
            → standing_of (add_of p ms mm sample f k v).player ≡ true
        at true g true c (Ok tt) u = subst (λ (o : Called). standing_of o.player ≡ true) (add-taken p ms mm sample f k v e g c u) (add-now-kept c u)
        at true g true c (Err r) u = subst (λ (o : Called). standing_of o.player ≡ true) (add-refused p ms mm sample f k v r e g c u) e
        at true g false c a u = subst (λ (o : Called). standing_of o.player ≡ true) (add-11 p ms mm sample f k v e g c) e
        at false g c h a u = subst (λ (o : Called). standing_of o.player ≡ true) (add-10 p ms mm sample f k v e g) e

-- other amounts of the step on now
lap-stands : (w : Workout) (c : Core) (lap : Lap) → Stands 0 0 w c → lap.step_ms ≡ c.lap.step_ms → lap.step_mm ≡ c.lap.step_mm
    → lap_ok c.done c.on.length lap ≡ true → Stands 0 0 w (with_lap lap c)
lap-stands w c lap s ms mm ok =
    let h : Within 0 0 w c = s.within in
    record {
      within =
          amounts-within 0 0 c.total_ms.0 c.total_mm.0 lap w c h
          (record {
            targeted = h.targeted;
            step-ms = omega (arith, ms, h.step-ms);
            step-mm = omega (arith, mm, h.step-mm);
            test-ms = h.test-ms;
            low = h.low;
            total-ms = h.total-ms;
            total-mm = h.total-mm;
          });
      lap = ok;
    }

-- more time or way keeps a step below its end
longer-below : (l : Length) (secs metres : ℕ) (lap : Lap) → below_end l lap ≡ true → below_end l (extended_lap secs metres lap) ≡ true
longer-below (Time time) secs metres lap e =
    let h = ltb-true lap.step_ms ((time + lap.extra_s) * 1000) e in
    lt-ltb lap.step_ms ((time + (lap.extra_s + secs)) * 1000) (omega arith)
longer-below (Distance way) secs metres lap e =
    let h = ltb-true lap.step_mm (min (way + lap.extra_m) 4294967295 * 1000) e in
    lt-ltb lap.step_mm (min (way + (lap.extra_m + metres)) 4294967295 * 1000) (omega arith)
longer-below Open secs metres lap e = refl

module _ (p : Player) (e : standing_of p ≡ true) (d : p.core.done ≡ false) where
  longer-kept : (secs metres : ℕ) → p.core.lap.extra_s + secs ≤ 86400 → p.core.lap.extra_m + metres ≤ 1000000 → standing_of (longer_by secs metres p).player ≡ true
  unfolding on_place
  longer-kept secs metres a b =
      let c = p.core in
      let lap = extended_lap secs metres c.lap in
      let k = known p e in
      let below = below_end c.on.length c.lap in
      let s = leb c.lap.extra_s 86400 in
      let m = leb c.lap.extra_m 1000000 in
      let was : (below && s && m) ≡ true = subst (λ (t : Bool). lap_ok t c.on.length c.lap ≡ true) d k.core.lap in
      let ok : lap_ok c.done c.on.length lap ≡ true =
      subst (λ (t : Bool). lap_ok t c.on.length lap ≡ true) (sym d)
      (and_both (and_both (longer-below c.on.length secs metres c.lap (and_left below s (and_left (below && s) m was))) (le-leb lap.extra_s 86400 a)) (le-leb lap.extra_m 1000000 b)) in
      stands (with_core (with_lap lap c) p) (record { core = lap-stands p.workout c lap k.core refl refl ok; note = k.note })

  by-kept : (secs metres : ℕ) → standing_of (extend_by secs metres p.core.on.length p).player ≡ true
  unfolding extend_by extend_core
  by-kept secs metres = at p.core.on.length
    where
      fits : ExtraFits p.core
      fits = extra-fits p e d

      timed : (t : Bool) → leb (p.core.lap.extra_s + secs) 86400 ≡ t → standing_of (extended_by p (cond t (longer_core secs 0 p.core) (not_longer (Err refusals.Extra) p.core))).player ≡ true
      timed true t = longer-kept secs 0 (leb-true (p.core.lap.extra_s + secs) 86400 t) (omega (arith, fits.extra-m))
      timed false t = e

      way : (t : Bool) → leb (p.core.lap.extra_m + metres) 1000000 ≡ t → standing_of (extended_by p (cond t (longer_core 0 metres p.core) (not_longer (Err refusals.Extra) p.core))).player ≡ true
      way true t = longer-kept 0 metres (omega (arith, fits.extra-s)) (leb-true (p.core.lap.extra_m + metres) 1000000 t)
      way false t = e

      at : (l : Length) → standing_of (extend_by secs metres l p).player ≡ true
      at (Time time) = timed (leb (p.core.lap.extra_s + secs) 86400) refl
      at (Distance long) = way (leb (p.core.lap.extra_m + metres) 1000000) refl
      at Open = e

pub extend-kept : (p : Player) (secs metres : ℕ) → standing_of p ≡ true → standing_of (extend_with secs metres p).player ≡ true
unfolding extend_with
extend-kept p secs metres e = at (standing_of p)
  where
    unfinished : (t : Bool) → p.core.done ≡ t → standing_of (extend_now secs metres t p).player ≡ true
    unfinished true d = e
    unfinished false d = by-kept p e d secs metres

    at : (b : Bool) → standing_of (cond b (extend_now secs metres p.core.done p) (not_extended (Err refusals.Standing) p)).player ≡ true
    at true = unfinished p.core.done refl
    at false = e
