-- `played_at`: the place at the position, if there is one, and the step at it.
use Rattle.std.specs.Prelude.{None, Some}
use mathlib.Core.Path.{◌≡◌, ◌∙◌, sym}
use lib.ListN.{length}
use Rattle.order.proofs.Planned.{played-lookup}
use borrow.Author.Rules.{rules}
use Rattle.order.proofs.played_at.Goals as goal

pub returns-in_err-place : goal.returns-in_err-place
returns-in_err-place c = let a = c.args in
    let long : length a.workout.steps ≡ 12 = search rules in
    rw c.from_residual.ensures (played-lookup a.workout c.min-steps.result a.position None long c.min-steps.ensures (sym c.in_err-place.was ∙ c.place_at.ensures))

pub returns : goal.returns
returns c = let a = c.args in
    let long : length a.workout.steps ≡ 12 = search rules in
    c.step_at.ensures ∙ played-lookup a.workout c.min-steps.result a.position (Some c.in_ok-place.place) long c.min-steps.ensures (sym c.in_ok-place.was ∙ c.place_at.ensures)
