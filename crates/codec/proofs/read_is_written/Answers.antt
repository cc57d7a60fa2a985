-- `codec::read_is_written` meets its contract, which is the statement.
use Rattle.codec.proofs.Fillers.{read-is-written}
use Rattle.codec.proofs.read_is_written.Goals as goal

pub returns : goal.returns
returns c = read-is-written
