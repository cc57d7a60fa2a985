-- `playing_order`: the statement is proved in Within.antt.
use Rattle.order.proofs.Within.{playing-order}
use Rattle.order.proofs.playing_order.Goals as goal

pub returns : goal.returns
returns c = playing-order
