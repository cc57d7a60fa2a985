-- `compare_player::read` plays one `read`, from what it ensures.
use mathlib.Core.Path.{◌∙◌, ap}
use Rattle.player.specs.Calls.{read_of}
use Rattle.outcomes.specs.declared.Update.{Update}
use Rattle.compare_player.specs.Calls.{turn_of}
use Rattle.compare_player.proofs.read.Goals as goal

pub returns : goal.returns
returns c = let a = c.args in c.turn_of.ensures ∙ ap (λ (u : Update). turn_of u 7) (c.read.ensures ∙ ap (read_of a.player) c.sample_of.ensures)
