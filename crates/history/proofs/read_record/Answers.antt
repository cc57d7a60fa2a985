-- `history::read_record` meets its contract: each field from its place.
use Rattle.history.specs.Decode.{record_in}
use Rattle.history.proofs.read_record.Goals as goal

pub returns : goal.returns
unfolding record_in
returns c = simp (c.read_summary.ensures, c.read_name.ensures, c.then_some.ensures, c.get_u64.ensures, c.is_set.ensures, c.flags_of.ensures, c.get_u32.ensures)
