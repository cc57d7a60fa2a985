-- `history::record_size` meets its contract, which is the statement.
use Rattle.history.proofs.Bytes.{record-size}
use Rattle.history.proofs.record_size.Goals as goal

pub returns : goal.returns
returns c = record-size
