-- `compare_player::set` sets a field of the player, from what `set_field` ensures.
use mathlib.Core.Path.{ap}
use Rattle.state.specs.declared.Player.{Player}
use Rattle.compare_player.specs.Calls.{no_events}
use Rattle.compare_player.specs.declared.Turn.{Turn}
use Rattle.compare_player.proofs.set.Goals as goal

pub returns : goal.returns
returns c = ap (λ (p : Player). let t : Turn = record { player = p; given = no_events 0 } in t) c.set_field-after.ensures
