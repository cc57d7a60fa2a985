-- `decode::read_blocks`: the array holds the blocks read so far, and the rest is still to be read.
use native.Mathlib.Omega.{arith}
use mathlib.Core.Path.{sym, ap, ◌∙◌}
use Rattle.std.proofs.lemmas.Result.{err_from_is_err_and}
use Rattle.decode.specs.Decode.{read_block, block_at}
use Rattle.model.specs.Workout.{no_block}
use Rattle.cursor.proofs.Answers.{given, refusal}
use Rattle.cursor.proofs.Many.{progress_start, progress_step, progress-stop, progress-end}
use Rattle.decode.proofs.Parts.{filled-read}
use Rattle.decode.specs.Decode.{filled_by}
use Rattle.decode.proofs.read_blocks.Goals as goal

pub loop-i-init : goal.loop-i-init
loop-i-init c = let a = c.args in progress_start read_block a.bytes.now a.n a.cursor.at 8 no_block

pub returns-in_err-block : goal.returns-in_err-block
unfolding block_at
returns-in_err-block c = let a = c.args in
    let s = a.bytes.now in
    let l = c.loop-i in
    let r = c.in_err-block.field-0.0 in
    let p = err_from_is_err_and c.from_residual.result c.from_residual.ensures.1 in
    rw (p.1, p.2) (ap (filled_by 8 no_block a.cursor.at) (progress-stop read_block s a.n a.cursor.at 8 no_block l.i l.at.at l.blocks l.invariant r (omega arith)
    (refusal read_block s l.at.at r (sym c.read_block.ensures ∙ c.in_err-block.was))))

pub loop-i-preserved : goal.loop-i-preserved
unfolding block_at
loop-i-preserved c = let a = c.args in
    let s = a.bytes.now in
    let l = c.loop-i in
    let x = c.in_ok-block.block in
    let next = c.in_ok-block.next in
    let g = given read_block s l.at.at x next (sym c.read_block.ensures ∙ c.in_ok-block.was) in
    rw g.after (progress_step read_block s a.n a.cursor.at 8 no_block l.i l.at.at l.blocks l.invariant x g.size (omega arith) (omega arith) g.reads)

pub returns : goal.returns
returns c = let a = c.args in
    let s = a.bytes.now in
    let l = c.loop-i in
    let p = l.invariant in
    filled-read 8 a.cursor.at l.at.at l.i no_block l.blocks p.done p.used p.count p.filled p.place
    ∙ ap (filled_by 8 no_block a.cursor.at) (progress-end read_block s a.n a.cursor.at 8 no_block l.i l.at.at l.blocks p (omega arith))
