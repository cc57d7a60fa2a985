-- Arrays of exactly the length that question 14 wants.
use Rattle.std.specs.Prelude.{Ok, Result, ⊤}
use mathlib.Core.Path.{◌≡◌, refl, sym, ap, ◌∙◌}
use mathlib.Core.Bool.{Bool, true, false, cond}
use Prim.Native.Nat.{ℕ, ◌+◌, ◌-◌, ◌*◌, ◌≤◌, ◌<◌, min}
use native.Mathlib.Omega.{arith}
use borrow.Author.Tests.{le-leb}
use Rattle.common.proofs.Tests.{and_both}
use Rattle.refusal.specs.declared.Refusal.TheVariants as refusals
use Rattle.refusal.specs.Number.{ask}
use Rattle.refusal.specs.declared.Refusal.{Refusal}
use Rattle.zones.specs.declared.TrainingProfile.{TrainingProfile}
use Rattle.zones.specs.Zones.{profile_ok}
use Rattle.readings.specs.declared.Sample.{Sample}
use Rattle.state.specs.declared.Player.{Player}
use Rattle.state.specs.State.{update_ok}
use Rattle.standing.specs.Standing.{standing_of, cadence_in}
use Rattle.step_end.specs.StepEnd.{Outcome, next_of}
use Rattle.outcomes.specs.Outcomes.{Called, eventless}
use Rattle.updates.specs.Updates.{ride_now, add_now, skip_to, skip_now}
use Rattle.player.specs.Calls.{answered, totals_with, places_ok, update_answer, ride_answer, ride_of, add_answer, add_of, skip_answer, skip_of}
use Rattle.player.proofs.Laws.{few-steps, places-enough, ride-20, add-20, skip-20, skip-14, skip-taken}
use Rattle.keeps.specs.Places.{wanted, SmallArrays}

-- the most that is wanted
most-wanted : (p : Player) → standing_of p ≡ true → wanted p ≤ 193
most-wanted p e = at p.core.done
  where
    at : (done : Bool) → cond done 0 (2 * (p.core.steps - p.core.position) + 1) ≤ 193
    at true = omega arith
    at false = omega (arith, few-steps p e)

pub enough : (p : Player) (k v : ℕ) → wanted p ≤ k → wanted p ≤ v → places_ok p.core k v ≡ true
enough p k v a b = and_both (le-leb (wanted p) k a) (le-leb (wanted p) v b)

pub passes-193 : (p : Player) → standing_of p ≡ true → places_ok p.core 193 193 ≡ true
passes-193 p e = enough p 193 193 (most-wanted p e) (most-wanted p e)

-- Question 14 passes both, and nothing else of a call knows the arrays' lengths.
same_by : {A : Type 0} (p : Player) (o : ℕ → A) (f : Bool → A) → (standing_of p ≡ false → o (wanted p) ≡ o 193)
    → ((n : ℕ) → o n ≡ f (places_ok p.core n n)) → o (wanted p) ≡ o 193
same_by {A} p o f refused asks = at (standing_of p) refl
  where
    at : (t : Bool) → standing_of p ≡ t → o (wanted p) ≡ o 193
    at false e = refused e
    at true e =
        asks (wanted p)
        ∙ ap f (enough p (wanted p) (wanted p) (omega arith) (omega arith) ∙ sym (passes-193 p e))
        ∙ sym (asks 193)

abbrev update_by : Player → ℕ → ℕ → Bool → Result ⊤ Refusal
update_by p ms mm places = ask (update_ok ms mm) refusals.Update (ask (totals_with p.core ms mm) refusals.Totals (ask places refusals.EventPlaces (Ok tt)))

ride-same : (p : Player) (ms mm : ℕ) (f : TrainingProfile) → ride_of p ms mm f (wanted p) (wanted p) ≡ ride_of p ms mm f 193 193
ride-same p ms mm f =
    same_by p (λ n. ride_of p ms mm f n n)
    (λ places. answered (ask (standing_of p) refusals.Standing (ask (profile_ok f) refusals.Profile (update_by p ms mm places))) p (ride_now p ms mm f))
    (λ e. sym (ride-20 p ms mm f (wanted p) (wanted p) e) ∙ ride-20 p ms mm f 193 193 e)
    (λ n. unfold ride_of ride_answer update_answer in refl)

add_same : (p : Player) (ms mm : ℕ) (sample : Sample) (f : TrainingProfile) → add_of p ms mm sample f (wanted p) (wanted p) ≡ add_of p ms mm sample f 193 193
add_same p ms mm sample f =
    same_by p (λ n. add_of p ms mm sample f n n)
    (λ places. answered (ask (standing_of p) refusals.Standing (ask (profile_ok f) refusals.Profile (ask (cadence_in sample.cadence_tenths) refusals.Cadence (update_by p ms mm places)))) p (add_now p ms mm sample f))
    (λ e. sym (add-20 p ms mm sample f (wanted p) (wanted p) e) ∙ add-20 p ms mm sample f 193 193 e)
    (λ n. unfold add_of add_answer update_answer in refl)

skip-same : (p : Player) → skip_of p (wanted p) (wanted p) ≡ skip_of p 193 193
skip-same p =
    same_by p (λ n. skip_of p n n) (λ places. answered (ask (standing_of p) refusals.Standing (ask places refusals.EventPlaces (Ok tt))) p (skip_now p))
    (λ e. sym (skip-20 p (wanted p) (wanted p) e) ∙ skip-20 p 193 193 e)
    (λ n. unfold skip_of skip_answer in refl)

too_few : (p : Player) (k v : ℕ) → min k v < wanted p → places_ok p.core k v ≡ false
too_few p k v h = at (places_ok p.core k v) refl
  where
    at : (t : Bool) → places_ok p.core k v ≡ t → places_ok p.core k v ≡ false
    at false e = e
    at true e = let a = places-enough p.core k v e in absurd (omega (arith, h, a.0, a.1))

exact-taken : (p : Player) → standing_of p ≡ true → (skip_of p (wanted p) (wanted p)).answer ≡ Ok tt
unfolding skip_now
exact-taken p e =
    sym (ap (λ (o : Called). o.answer) (skip-taken p (wanted p) (wanted p) e (enough p (wanted p) (wanted p) (omega arith) (omega arith))))
    ∙ at p.core.done (next_of p.workout true p.core)
  where
    at : (done : Bool) (o : Outcome) → (cond done (eventless (Ok tt) p) (skip_to p o)).answer ≡ Ok tt
    at true o = refl
    at false o = refl

pub small-arrays : SmallArrays
small-arrays =
    record {
      ride = ride-same;
      add = add_same;
      skip = skip-same;
      passed = passes-193;
      fewer = λ p k v e h. sym (skip-14 p k v e (too_few p k v h));
      taken = exact-taken;
    }
