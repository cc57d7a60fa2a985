-- `compare_files::written_number` gives the length written or the refusal's number.
use mathlib.Core.Path.{sym, ap}
use Rattle.compare_files.specs.Files.{written_number}
use Rattle.compare_files.proofs.written_number.Goals as goal

pub returns-in-Ok : goal.returns-in-Ok
returns-in-Ok c = sym (ap written_number c.in-Ok.is)

pub returns-in-Err : goal.returns-in-Err
returns-in-Err c = simp (c.in-Err.is, c.number.ensures)
