-- `step_is`: the step and its note are equal exactly where the definition finds their numbers the same.
use Rattle.std.proofs.Common.{rules}
use mathlib.Core.Bool.{◌&&◌}
use mathlib.Core.Path.{◌≡◌, ap, ap₂, ◌∙◌}
use lib.ListN.{length}
use Rattle.standing.specs.Standing.{same_step}
use Rattle.standing.proofs.Same.{step-test, name-test}
use Rattle.standing.proofs.step_is.Goals as goal

pub returns : goal.returns
returns c =
    let a = c.args in
    let note = a.played.step.note in
    let long : length a.note.bytes ≡ length note.bytes = search rules in
    ap₂ (λ s t. s && t)
    (step-test a.on c.step_now.result c.eq.result c.eq.ensures ∙ ap (same_step a.on) c.step_now.ensures)
    (name-test a.note note c.eq-2.result long (λ e. search rules) (λ e. search rules))
