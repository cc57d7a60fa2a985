-- `machine::pieces_at_once` meets its contract, which is the statement.
use Rattle.machine.proofs.Pieces.{pieces-at-once}
use Rattle.machine.proofs.pieces_at_once.Goals as goal

pub returns : goal.returns
returns c = pieces-at-once
