-- `history::written_is_read` meets its contract, which is the statement.
use Rattle.history.proofs.RoundTrip.{written-is-read}
use Rattle.history.proofs.written_is_read.Goals as goal

pub returns : goal.returns
returns c = written-is-read
