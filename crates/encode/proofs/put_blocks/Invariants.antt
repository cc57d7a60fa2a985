-- `encode::put_blocks` meets its contract: the blocks so far stand behind the place, and the next has room.
use Rattle.encode.specs.Encode.{block_bytes}
use Rattle.encode.proofs.Many.{Wrote}
use Rattle.encode.proofs.put_blocks.Given as goal

abbrev pub invariant-loop-block : goal.invariant-loop-block
invariant-loop-block l = Wrote block_bytes l.block-items l.initial.out l.at l.block-index l.place l.out
