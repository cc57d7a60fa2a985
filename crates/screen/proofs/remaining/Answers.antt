-- `remaining`: none where a step ahead isn't timed or the workout is done.
use mathlib.Core.Bool.{Bool, ◌||◌}
use mathlib.Core.Path.{sym, ap, ◌∙◌}
use Rattle.screen.specs.Screen.{remaining_of}
use Rattle.screen.proofs.remaining.Goals as goal

pub returns-then-over : goal.returns-then-over
unfolding remaining_of
returns-then-over c = simp (ap (λ (t : Bool). c.args.core.done || t) (sym c.has_untimed_steps.ensures) ∙ c.if-over.true)

pub returns : goal.returns
unfolding remaining_of
returns c = simp (ap (λ (t : Bool). c.args.core.done || t) (sym c.has_untimed_steps.ensures) ∙ c.if-over.false, c.remaining_in.ensures, c.planned_from.ensures.0)
