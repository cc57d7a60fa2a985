-- The statement is the two laws.
use Rattle.le.proofs.Laws.{number_bytes, bytes_number}
use Rattle.le.proofs.inverse_laws.Goals as goal

pub returns : goal.returns
returns c = record { number_bytes = number_bytes; bytes_number = bytes_number }
