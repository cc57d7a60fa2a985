-- `keeps::small_arrays` meets its contract, which is the statement.
use Rattle.keeps.proofs.Places.{small-arrays}
use Rattle.keeps.proofs.small_arrays.Goals as goal

pub returns : goal.returns
returns c = small-arrays
