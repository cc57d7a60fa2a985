-- `compare_files::body_word` gives a word of a step, or past the steps one of the rest.
use mathlib.Core.Path.{◌≡◌, ◌∙◌, ap}
use Prim.Native.Nat.{◌/◌, ◌%◌}
use native.Mathlib.Omega.{arith}
use lib.ListN.{length}
use borrow.Author.Tests.{lt-ltb, le-ltb}
use Rattle.common.proofs.Lists.{get_d_any}
use Rattle.model.specs.Workout.{no_step}
use Rattle.model.specs.declared.Step.{Step}
use Rattle.compare_files.specs.Files.{body_word, step_word}
use borrow.Author.Rules.{rules}
use Rattle.compare_files.proofs.body_word.Goals as goal

pub returns-then-place-n : goal.returns-then-place-n
unfolding body_word
returns-then-place-n c = let a = c.args in
    let long : length a.workout.steps ≡ 12 = search rules in
    simp (← c.least.ensures, lt-ltb _ _ c.if-place-n.true)
    (c.step_word.ensures ∙ ap (λ (s : Step). step_word s (a.place % 13)) (get_d_any a.workout.steps (a.place / 13) _ no_step (omega arith)))

pub returns-else-place-n : goal.returns-else-place-n
unfolding body_word
returns-else-place-n c = simp (← c.least.ensures, le-ltb _ _ c.if-place-n.false) c.rest_word.ensures
