-- `note_at`: within the steps the default is never read; past them there is no note.
use Rattle.common.proofs.Lists.{get_d_any}
use Rattle.model.specs.Workout.{no_step}
use Rattle.model.specs.declared.Step.{Step}
use lib.ListN.{get_or-eq_default}
use native.Mathlib.Omega.{arith}
use mathlib.Core.Path.{sym, ap, ◌∙◌}
use Rattle.outcomes.proofs.note_at.Goals as goal

pub returns-then-i-lt12 : goal.returns-then-i-lt12
returns-then-i-lt12 c = ap (λ (s : Step). s.note) (get_d_any c.args.steps c.args.index _ no_step (omega arith))

pub returns : goal.returns
returns c = c.empty.ensures ∙ sym (ap (λ (s : Step). s.note) (get_or-eq_default c.args.steps no_step (omega arith)))
