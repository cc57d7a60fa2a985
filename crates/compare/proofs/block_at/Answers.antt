-- `compare::block_at` gives the block of three words.
use Rattle.compare.specs.Input.{block_at}
use Rattle.compare.proofs.block_at.Goals as goal

pub returns : goal.returns
unfolding block_at
returns c = simp (c.u8_at-3.ensures, c.u8_at-2.ensures, c.u8_at.ensures)
