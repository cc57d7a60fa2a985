-- `encode::put_blocks` meets its contract: the blocks so far stand behind the place, and the next has room.
use native.Mathlib.Omega.{arith}
use lib.ListN.{take}
use Rattle.model.specs.Workout.{no_block}
use Rattle.encode.specs.Encode.{block_bytes}
use Rattle.encode.proofs.Many.{wrote_none, wrote-more, room}
use Rattle.encode.proofs.put_blocks.Goals as goal

pub loop-block-init : goal.loop-block-init
loop-block-init c = let a = c.args in wrote_none block_bytes (take a.n a.blocks) a.out.now a.at

pub put_block-requires : goal.put_block-requires
put_block-requires c =
    let a = c.args in
    let l = c.loop-block in
    let p = c.requires in
    room block_bytes (take a.n a.blocks) a.out.now a.at l.block-index l.place l.out no_block c.loop-block-test.true p.1 l.invariant

pub loop-block-preserved : goal.loop-block-preserved
loop-block-preserved c =
    let a = c.args in
    let l = c.loop-block in
    let p = c.requires in
    wrote-more block_bytes (take a.n a.blocks) a.out.now a.at l.block-index l.place l.out _ no_block c.loop-block-test.true (omega arith) l.invariant c.put_block.auto.out c.put_block.ensures
