-- `history::no_record` meets its contract: zeros, no name, nothing present.
use Rattle.history.proofs.no_record.Goals as goal

pub returns : goal.returns
returns c = simp (c.empty.ensures, c.no_summary.ensures)
