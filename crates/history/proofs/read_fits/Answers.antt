-- `history::read_fits` meets its contract, which is the statement.
use Rattle.history.proofs.RoundTrip.{read_again}
use Rattle.history.proofs.read_fits.Goals as goal

pub returns : goal.returns
returns c = read_again
