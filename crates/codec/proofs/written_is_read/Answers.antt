-- `codec::written_is_read` meets its contract, which is the statement.
use Rattle.codec.proofs.File.{written-is-read}
use Rattle.codec.proofs.written_is_read.Goals as goal

pub returns : goal.returns
returns c = written-is-read
