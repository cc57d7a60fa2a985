-- `compare_player::extend` plays one `extend`, from what it ensures.
use mathlib.Core.Path.{◌∙◌, ap}
use Rattle.compare_player.specs.Calls.{extended_turn}
use Rattle.compare_player.proofs.extend.Goals as goal

pub returns : goal.returns
returns c = c.extended_turn.ensures ∙ ap extended_turn c.extend.ensures
