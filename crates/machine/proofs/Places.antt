-- Question 14 while the machine rides on: it never wants more places than before.
use Rattle.std.specs.Prelude.{Option, None, Some}
use mathlib.Core.Path.{◌≡◌, refl, ap}
use mathlib.Core.Bool.{Bool, true, false, cond, ◌&&◌}
use Prim.Native.Nat.{ℕ, zero, suc, ◌+◌, ◌-◌, ◌*◌, ◌≤◌}
use native.Mathlib.Omega.{arith}
use lib.Dec.{leb}
use borrow.Author.Tests.{leb-true, le-leb}
use Rattle.common.proofs.Tests.{and_left, and_right, and_both}
use Rattle.zones.specs.declared.TrainingProfile.{TrainingProfile}
use Rattle.model.specs.declared.Step.{Step}
use Rattle.model.specs.declared.Workout.{Workout}
use Rattle.order.specs.Order.{played_len}
use Rattle.keeps.proofs.Few.{at_most}
use Rattle.machine.specs.Machine.{Machine, is_none, step_at, is_finished, ended, ridden, ends_now, closed, millisecond_in, millisecond, milliseconds}
use Rattle.machine.specs.Runs.{places_ok}

-- arrays that are long enough are long enough for less
enough-later : (a b k v : ℕ) → a ≤ b → (leb b k && leb b v) ≡ true → (leb a k && leb a v) ≡ true
enough-later a b k v h e =
    and_both (le-leb a k (omega (arith, leb-true b k (and_left (leb b k) (leb b v) e)))) (le-leb a v (omega (arith, leb-true b v (and_right (leb b k) (leb b v) e))))

module _ (w : Workout) (p : TrainingProfile) where
  -- the places wanted at a position
  abbrev wanted_at : ℕ → ℕ
  wanted_at i = cond (is_none (step_at w i)) 0 (2 * (played_len w - i) + 1)

  wanted-next : (i : ℕ) (s : Step) → step_at w i ≡ Some s → wanted_at (i + 1) ≤ wanted_at i
  wanted-next i s e =
      let here : wanted_at i ≡ 2 * (played_len w - i) + 1 = ap (λ (o : Option Step). cond (is_none o) 0 (2 * (played_len w - i) + 1)) e in
      omega (arith, here, at_most (is_none (step_at w (i + 1))) (2 * (played_len w - (i + 1)) + 1))

  closed-wants : (t : Bool) (s : Step) (m : Machine) → step_at w m.step.position ≡ Some s
      → wanted_at (cond t (ended w s false m) m).step.position ≤ wanted_at m.step.position
  unfolding ended
  closed-wants true s m e = wanted-next m.step.position s e
  closed-wants false s m e = omega arith

  in-wants : (o : Option Step) (m : Machine) → step_at w m.step.position ≡ o → wanted_at (millisecond_in w p o m).step.position ≤ wanted_at m.step.position
  unfolding millisecond_in closed ridden
  in-wants None m e = omega arith
  in-wants (Some s) m e = closed-wants (ends_now s.length m.step.extra (m.step.time + 1)) s (ridden w p s m) e

  wants-later : (n : ℕ) (m : Machine) → wanted_at (milliseconds w p n m).step.position ≤ wanted_at m.step.position
  unfolding milliseconds millisecond
  wants-later zero m = omega arith
  wants-later (suc n) m = omega (arith, wants-later n (millisecond_in w p (step_at w m.step.position) m), in-wants (step_at w m.step.position) m refl)

  pub places-later : (n kinds values : ℕ) (m : Machine) → places_ok w m kinds values ≡ true → places_ok w (milliseconds w p n m) kinds values ≡ true
  unfolding is_finished
  places-later n kinds values m h =
      enough-later (wanted_at (milliseconds w p n m).step.position) (wanted_at m.step.position) kinds values (wants-later n m) h
