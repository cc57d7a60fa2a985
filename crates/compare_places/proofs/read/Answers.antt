-- `compare_places::read` plays one `read`, from what it ensures.
use mathlib.Core.Path.{◌∙◌, ap}
use Rattle.outcomes.specs.Outcomes.{eventless_update}
use Rattle.outcomes.specs.declared.Update.{Update}
use Rattle.player.specs.Calls.{read_of}
use Rattle.compare_places.proofs.read.Goals as goal

pub returns : goal.returns
returns c = let a = c.args in
    c.plain.ensures
    ∙ ap (λ (u : Update). eventless_update u.answer u.player) (c.read-taken.ensures ∙ ap (read_of a.player) c.sample_of.ensures)
