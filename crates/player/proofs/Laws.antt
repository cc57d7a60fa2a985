-- The calls with their questions, outcome by outcome.
use Rattle.std.specs.Prelude.{Err, Ok, Result, ⊤}
use mathlib.Core.Path.{◌≡◌, refl, sym, ap, subst, ◌∙◌}
use mathlib.Core.Bool.{Bool, true, false, ◌&&◌}
use Prim.Native.Nat.{ℕ, ◌+◌, ◌≤◌}
use native.Mathlib.Omega.{arith}
use lib.Dec.{leb}
use borrow.Author.Tests.{leb-true}
use Rattle.validation.proofs.Passes.{ask-left, ask-right, passes}
use Rattle.common.proofs.Tests.{and_left, and_right}
use Rattle.refusal.specs.declared.Refusal.{Refusal}
use Rattle.refusal.specs.declared.Refusal.TheVariants as refusals
use Rattle.refusal.specs.Number.{ask}
use Rattle.zones.specs.declared.TrainingProfile.{TrainingProfile}
use Rattle.zones.specs.Zones.{profile_ok}
use Rattle.model.specs.declared.Workout.{Workout}
use Rattle.readings.specs.declared.Sample.{Sample}
use Rattle.state.specs.declared.Core.{Core}
use Rattle.state.specs.declared.Player.{Player}
use Rattle.standing.specs.Standing.{standing_of, below_end, lap_ok, cadence_in}
use Rattle.standing.specs.Facts.{Stands}
use Rattle.standing.proofs.Known.{known}
use Rattle.state.specs.State.{event_places, update_ok}
use Rattle.outcomes.specs.Outcomes.{ExtraFits, eventless}
use Rattle.updates.specs.Updates.{Supposes, add_now, ride_now, skip_now}
use Rattle.player.specs.Calls.{answered, add_answer, add_of, totals_with, places_ok, update_answer, ride_answer, ride_of, skip_answer, skip_of}

-- a player that stands has few steps
pub few-steps : (p : Player) → standing_of p ≡ true → p.core.steps ≤ 96
few-steps p e = let h = (known p e).core.within in omega (arith, h.steps, (passes p.workout h.valid).most)

-- what `update_answer` supposes
pub asked-fits : (p : Player) → standing_of p ≡ true → (p.core.total_ms.0 ≤ 604800000) × (p.core.total_mm.0 ≤ 7000000000) × (p.core.steps ≤ 96)
asked-fits p e = let h = (known p e).core.within in (h.total-ms, h.total-mm, few-steps p e)

-- what passing question 14 says
pub places-enough : (c : Core) (k v : ℕ) → places_ok c k v ≡ true → (event_places c ≤ k) × (event_places c ≤ v)
places-enough c k v e =
    let n : ℕ = event_places c in
    (leb-true n k (and_left (leb n k) (leb n v) e), leb-true n v (and_right (leb n k) (leb n v) e))

-- what passing questions 12 to 14 says
pub update-passed : (w : Workout) (c : Core) (ms mm k v : ℕ) → Stands 0 0 w c → update_answer c ms mm k v ≡ Ok tt → Supposes w c ms mm k v
unfolding update_answer
update-passed w c ms mm k v h e =
    let q14 : Result ⊤ Refusal = ask (places_ok c k v) refusals.EventPlaces (Ok tt) in
    let q13 : Result ⊤ Refusal = ask (totals_with c ms mm) refusals.Totals q14 in
    let e13 : q13 ≡ Ok tt = ask-right (update_ok ms mm) refusals.Update q13 e in
    let e14 : q14 ≡ Ok tt = ask-right (totals_with c ms mm) refusals.Totals q14 e13 in
    let a : update_ok ms mm ≡ true = ask-left (update_ok ms mm) refusals.Update q13 e in
    let b : totals_with c ms mm ≡ true = ask-left (totals_with c ms mm) refusals.Totals q14 e13 in
    let d : places_ok c k v ≡ true = ask-left (places_ok c k v) refusals.EventPlaces (Ok tt) e14 in
    record {
      stands = h;
      ms_in = leb-true ms 86400000 (and_left (leb ms 86400000) (leb mm 1000000000) a);
      mm_in = leb-true mm 1000000000 (and_right (leb ms 86400000) (leb mm 1000000000) a);
      total-ms = leb-true (c.total_ms.0 + ms) 604800000 (and_left (leb (c.total_ms.0 + ms) 604800000) (leb (c.total_mm.0 + mm) 7000000000) b);
      total-mm = leb-true (c.total_mm.0 + mm) 7000000000 (and_right (leb (c.total_ms.0 + ms) 604800000) (leb (c.total_mm.0 + mm) 7000000000) b);
      kinds_in = (places-enough c k v d).0;
      values_in = (places-enough c k v d).1;
    }

module _ (p : Player) (ms mm : ℕ) (f : TrainingProfile) (k v : ℕ) where
  pub ride-20 : standing_of p ≡ false → eventless (Err refusals.Standing) p ≡ ride_of p ms mm f k v
  unfolding ride_of ride_answer
  ride-20 e = sym (ap (λ (b : Bool). answered (ask b refusals.Standing (ask (profile_ok f) refusals.Profile (update_answer p.core ms mm k v))) p (ride_now p ms mm f)) e)

  past-20 : standing_of p ≡ true → ride_of p ms mm f k v ≡ answered (ask (profile_ok f) refusals.Profile (update_answer p.core ms mm k v)) p (ride_now p ms mm f)
  unfolding ride_of ride_answer
  past-20 e = ap (λ (b : Bool). answered (ask b refusals.Standing (ask (profile_ok f) refusals.Profile (update_answer p.core ms mm k v))) p (ride_now p ms mm f)) e

  pub ride-10 : standing_of p ≡ true → profile_ok f ≡ false → eventless (Err refusals.Profile) p ≡ ride_of p ms mm f k v
  ride-10 e g = sym (past-20 e ∙ ap (λ (b : Bool). answered (ask b refusals.Profile (update_answer p.core ms mm k v)) p (ride_now p ms mm f)) g)

  past-10 : standing_of p ≡ true → profile_ok f ≡ true → ride_of p ms mm f k v ≡ answered (update_answer p.core ms mm k v) p (ride_now p ms mm f)
  past-10 e g = past-20 e ∙ ap (λ (b : Bool). answered (ask b refusals.Profile (update_answer p.core ms mm k v)) p (ride_now p ms mm f)) g

  pub ride-refused : (r : Refusal) → standing_of p ≡ true → profile_ok f ≡ true → update_answer p.core ms mm k v ≡ Err r → eventless (Err r) p ≡ ride_of p ms mm f k v
  ride-refused r e g u = sym (past-10 e g ∙ ap (λ (a : Result ⊤ Refusal). answered a p (ride_now p ms mm f)) u)

  pub ride-taken : standing_of p ≡ true → profile_ok f ≡ true → update_answer p.core ms mm k v ≡ Ok tt → ride_now p ms mm f ≡ ride_of p ms mm f k v
  ride-taken e g u = sym (past-10 e g ∙ ap (λ (a : Result ⊤ Refusal). answered a p (ride_now p ms mm f)) u)

-- A skip.

module _ (p : Player) (k v : ℕ) where
  pub skip-20 : standing_of p ≡ false → eventless (Err refusals.Standing) p ≡ skip_of p k v
  unfolding skip_of skip_answer
  skip-20 e = sym (ap (λ (b : Bool). answered (ask b refusals.Standing (ask (places_ok p.core k v) refusals.EventPlaces (Ok tt))) p (skip_now p)) e)

  skip-past : standing_of p ≡ true → skip_of p k v ≡ answered (ask (places_ok p.core k v) refusals.EventPlaces (Ok tt)) p (skip_now p)
  unfolding skip_of skip_answer
  skip-past e = ap (λ (b : Bool). answered (ask b refusals.Standing (ask (places_ok p.core k v) refusals.EventPlaces (Ok tt))) p (skip_now p)) e

  pub skip-14 : standing_of p ≡ true → places_ok p.core k v ≡ false → eventless (Err refusals.EventPlaces) p ≡ skip_of p k v
  skip-14 e g = sym (skip-past e ∙ ap (λ (b : Bool). answered (ask b refusals.EventPlaces (Ok tt)) p (skip_now p)) g)

  pub skip-taken : standing_of p ≡ true → places_ok p.core k v ≡ true → skip_now p ≡ skip_of p k v
  skip-taken e g = sym (skip-past e ∙ ap (λ (b : Bool). answered (ask b refusals.EventPlaces (Ok tt)) p (skip_now p)) g)

-- a skip supposes nothing of an update
pub skip-supposes : (p : Player) (k v : ℕ) → standing_of p ≡ true → places_ok p.core k v ≡ true → Supposes p.workout p.core 0 0 k v
skip-supposes p k v e g =
    let h : Stands 0 0 p.workout p.core = (known p e).core in
    record {
      stands = h;
      ms_in = omega arith;
      mm_in = omega arith;
      total-ms = omega (arith, h.within.total-ms);
      total-mm = omega (arith, h.within.total-mm);
      kinds_in = (places-enough p.core k v g).0;
      values_in = (places-enough p.core k v g).1;
    }

-- what an extend supposes
pub extra-fits : (p : Player) → standing_of p ≡ true → p.core.done ≡ false → ExtraFits p.core
extra-fits p e d =
    let c : Core = p.core in
    let below : Bool = below_end c.on.length c.lap in
    let s : Bool = leb c.lap.extra_s 86400 in
    let m : Bool = leb c.lap.extra_m 1000000 in
    let h : (below && s && m) ≡ true = subst (λ (b : Bool). lap_ok b c.on.length c.lap ≡ true) d (known p e).core.lap in
    record {
      extra-s = leb-true c.lap.extra_s 86400 (and_right below s (and_left (below && s) m h));
      extra-m = leb-true c.lap.extra_m 1000000 (and_right (below && s) m h);
    }

-- Add.

module _ (p : Player) (ms mm : ℕ) (sample : Sample) (f : TrainingProfile) (k v : ℕ) where
  -- the answer after each question
  abbrev after : Bool → Bool → Bool → Result ⊤ Refusal
  after a b c = ask a refusals.Standing (ask b refusals.Profile (ask c refusals.Cadence (update_answer p.core ms mm k v)))

  add_is : (a b c : Bool) → standing_of p ≡ a → profile_ok f ≡ b → cadence_in sample.cadence_tenths ≡ c
      → answered (after a b c) p (add_now p ms mm sample f) ≡ add_of p ms mm sample f k v
  unfolding add_of add_answer
  add_is a b c e g h =
      sym (ap (λ (x : Bool). answered (after x (profile_ok f) (cadence_in sample.cadence_tenths)) p (add_now p ms mm sample f)) e
      ∙ ap (λ (x : Bool). answered (after a x (cadence_in sample.cadence_tenths)) p (add_now p ms mm sample f)) g
      ∙ ap (λ (x : Bool). answered (after a b x) p (add_now p ms mm sample f)) h)

  pub add-20 : standing_of p ≡ false → eventless (Err refusals.Standing) p ≡ add_of p ms mm sample f k v
  add-20 e = add_is false (profile_ok f) (cadence_in sample.cadence_tenths) e refl refl

  pub add-10 : standing_of p ≡ true → profile_ok f ≡ false → eventless (Err refusals.Profile) p ≡ add_of p ms mm sample f k v
  add-10 e g = add_is true false (cadence_in sample.cadence_tenths) e g refl

  pub add-11 : standing_of p ≡ true → profile_ok f ≡ true → cadence_in sample.cadence_tenths ≡ false → eventless (Err refusals.Cadence) p ≡ add_of p ms mm sample f k v
  add-11 e g h = add_is true true false e g h

  pub add-refused : (r : Refusal) → standing_of p ≡ true → profile_ok f ≡ true → cadence_in sample.cadence_tenths ≡ true
      → update_answer p.core ms mm k v ≡ Err r → eventless (Err r) p ≡ add_of p ms mm sample f k v
  add-refused r e g h u = sym (ap (λ (a : Result ⊤ Refusal). answered a p (add_now p ms mm sample f)) u) ∙ add_is true true true e g h

  pub add-taken : standing_of p ≡ true → profile_ok f ≡ true → cadence_in sample.cadence_tenths ≡ true → update_answer p.core ms mm k v ≡ Ok tt
      → add_now p ms mm sample f ≡ add_of p ms mm sample f k v
  add-taken e g h u = sym (ap (λ (a : Result ⊤ Refusal). answered a p (add_now p ms mm sample f)) u) ∙ add_is true true true e g h
