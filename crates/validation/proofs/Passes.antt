-- What questions 5 to 9 say of a workout that passes them, and of the steps that it plays.
use Rattle.std.specs.Prelude.{None, Ok, Option, Result, Some, ⊤, is_some}
use mathlib.Core.Path.{◌≡◌, refl, ap}
use mathlib.Core.Bool.{Bool, true, false, cond}
use mathlib.Core.List.{List}
use Prim.Native.Nat.{ℕ, ◌≤◌}
use native.Mathlib.Omega.{arith}
use lib.Dec.{ltb, leb}
use lib.ListN.{length, get_or}
use borrow.Author.Tests.{leb-true, ltb-true}
use Rattle.common.specs.Lists.{all}
use Rattle.common.proofs.Tests.{and_left}
use Rattle.common.proofs.Lists.{all-get}
use Rattle.refusal.specs.declared.Refusal.{Refusal}
use Rattle.refusal.specs.declared.Refusal.TheVariants as refusals
use Rattle.refusal.specs.declared.Invalid.TheVariants as invalids
use Rattle.refusal.specs.Number.{ask}
use Rattle.model.specs.declared.Step.{Step}
use Rattle.model.specs.declared.Workout.{Workout}
use Rattle.model.specs.Workout.{no_step, steps_of, blocks_of}
use Rattle.form.specs.Form.{is_open, form_ok}
use Rattle.blocks.specs.Blocks.{blocks_sound}
use Rattle.order.specs.declared.Played.{Played}
use Rattle.order.specs.declared.Place.{Place}
use Rattle.order.specs.Order.{order_of, nth, nothing, step_at, played_by, played_of, played_len, played_in}
use Rattle.validation.specs.Sound.{length_ok, target_ok, step_ok, steps_sound, valid_answer, workout_answer}

-- a question that was asked and passed
pub ask-passed : (t : Bool) (r : Refusal) (rest : Result ⊤ Refusal) → ask t r rest ≡ Ok tt → (t ≡ true) × (rest ≡ Ok tt)
ask-passed true r rest e = (refl, e)
ask-passed false r rest e = let z : ◌≡◌ {A = ℕ} 0 1 = cc in absurd (omega arith)

module _ (t : Bool) (r : Refusal) (rest : Result ⊤ Refusal) (e : ask t r rest ≡ Ok tt) where
  pub ask-left : t ≡ true
  ask-left = (ask-passed t r rest e).0

  pub ask-right : rest ≡ Ok tt
  ask-right = (ask-passed t r rest e).1

pub record Passes (w : Workout) : Type 0 where
  pub form : form_ok w ≡ true
  pub some : ltb 0 w.step_count ≡ true
  pub blocks : blocks_sound (length (steps_of w)) (blocks_of w) ≡ true
  pub steps : steps_sound (steps_of w) ≡ true
  pub most : played_len w ≤ 96

pub passes : (w : Workout) → workout_answer w ≡ Ok tt → Passes w
unfolding workout_answer valid_answer
passes w e =
    let five = ask-passed (form_ok w) refusals.Field _ e in
    let six = ask-passed (ltb 0 w.step_count) (refusals.Invalid invalids.NoSteps) _ five.1 in
    let seven = ask-passed (blocks_sound (length (steps_of w)) (blocks_of w)) (refusals.Invalid invalids.Block) _ six.1 in
    let eight = ask-passed (steps_sound (steps_of w)) (refusals.Invalid invalids.Step) _ seven.1 in
    let nine = ask-passed (leb (played_len w) 96) (refusals.Invalid invalids.TooLong) (Ok tt) eight.1 in
    record { form = five.0; some = six.0; blocks = seven.0; steps = eight.0; most = leb-true (played_len w) 96 nine.0 }

-- a played step is one of the workout's
by-sound : (steps : List Step) (o : Option Place) → all step_ok steps ≡ true → is_some (played_by steps o) ≡ true → step_ok (played_in (played_by steps o)).step ≡ true
unfolding step_at
by-sound steps None a t = absurd (apart t)
  where
    apart : false ≡ true → ⊥
    apart e = let z : ◌≡◌ {A = ℕ} 0 1 = ap (λ (b : Bool). cond b 1 0) e in omega arith
by-sound steps (Some p) a t =
    at (ltb p.index (length steps)) refl t
  where
    made : Option Played
    made = Some (record { index = p.index; repetition = p.repetition; of = p.of; step = get_or steps p.index no_step })

    at : (b : Bool) → ltb p.index (length steps) ≡ b → is_some (cond b made nothing) ≡ true → step_ok (played_in (cond b made nothing)).step ≡ true
    at true e t = all-get step_ok steps p.index no_step (ltb-true _ _ e) a
    at false e t = absurd (let z : ◌≡◌ {A = ℕ} 0 1 = ap (λ (b : Bool). cond b 1 0) t in omega arith)

pub played-sound : (w : Workout) (i : ℕ) → Passes w → is_some (played_of w i) ≡ true → length_ok (played_in (played_of w i)).step.length ≡ true
unfolding played_of step_ok
played-sound w i v t =
    let s : Step = (played_in (played_of w i)).step in
    and_left (length_ok s.length) (target_ok s.target (is_open s.length)) (by-sound (steps_of w) (nth (order_of w) i) v.steps t)
