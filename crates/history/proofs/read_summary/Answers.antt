-- `history::read_summary` meets its contract: each number from its place.
use Rattle.history.specs.Decode.{summary_in}
use Rattle.history.proofs.read_summary.Goals as goal

pub returns : goal.returns
unfolding summary_in
returns c = simp (c.is_set-2.ensures, c.get_u16-4.ensures, c.get_u16-3.ensures, c.get_u16-2.ensures, c.then_some.ensures, c.get_u16.ensures, c.is_set.ensures, c.read_unread.ensures, c.get_u32-4.ensures, c.get_u32-3.ensures, c.get_u32-2.ensures, c.get_u32.ensures, c.flags_of-flags.ensures)
