-- Which of the questions 6 to 9 decides.
use Rattle.std.specs.Prelude.{Err, Ok}
use mathlib.Core.Path.{◌≡◌, sym}
use mathlib.Core.Bool.{true, false}
use Prim.Native.Nat.{◌≤◌, ◌<◌}
use native.Mathlib.Omega.{arith}
use lib.ListN.{length}
use borrow.Author.Tests.{lt-ltb, le-ltb, le-leb, lt-leb}
use Rattle.refusal.specs.declared.Invalid.TheVariants as invalids
use Rattle.refusal.specs.declared.Refusal.TheVariants as refusals
use Rattle.model.specs.declared.Workout.{Workout}
use Rattle.model.specs.Workout.{steps_of, blocks_of}
use Rattle.blocks.specs.Blocks.{blocks_sound}
use Rattle.order.specs.Order.{played_len}
use Rattle.validation.specs.Sound.{steps_sound, valid_answer}

module _ (w : Workout) where
  pub no_steps : w.step_count ≡ 0 → Err (refusals.Invalid invalids.NoSteps) ≡ valid_answer w
  unfolding valid_answer
  no_steps h = sym (simp (le-ltb 0 w.step_count (omega arith)))

  module _ (some : 0 < w.step_count) where
    pub block-fault : blocks_sound (length (steps_of w)) (blocks_of w) ≡ false → Err (refusals.Invalid invalids.Block) ≡ valid_answer w
    unfolding valid_answer
    block-fault b = sym (simp (lt-ltb 0 w.step_count some, b))

    module _ (b : blocks_sound (length (steps_of w)) (blocks_of w) ≡ true) where
      pub step-fault : steps_sound (steps_of w) ≡ false → Err (refusals.Invalid invalids.Step) ≡ valid_answer w
      unfolding valid_answer
      step-fault s = sym (simp (lt-ltb 0 w.step_count some, b, s))

      pub too_long : steps_sound (steps_of w) ≡ true → 96 < played_len w → Err (refusals.Invalid invalids.TooLong) ≡ valid_answer w
      unfolding valid_answer
      too_long s l = sym (simp (lt-ltb 0 w.step_count some, b, s, lt-leb (played_len w) 96 l))

      pub accepted : steps_sound (steps_of w) ≡ true → played_len w ≤ 96 → Ok tt ≡ valid_answer w
      unfolding valid_answer
      accepted s l = sym (simp (lt-ltb 0 w.step_count some, b, s, le-leb (played_len w) 96 l))
