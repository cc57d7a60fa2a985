-- `compare_files::compare_file` fills the places lent. The invariant: the first i hold their words, the others what they held.
use mathlib.Core.Path.{◌≡◌, ◌∙◌, refl, ap}
use Prim.Native.Nat.{min}
use native.Mathlib.Omega.{arith}
use lib.ListN.{length}
use Rattle.common.specs.Lists.{range}
use Rattle.decode.specs.declared.Decoded.{Decoded}
use Rattle.compare_files.proofs.Answer.{filled_next}
use Rattle.compare_files.specs.Files.{filled, file_word}
use Rattle.compare_files.proofs.compare_file.Goals as goal

pub loop-i-init : goal.loop-i-init
unfolding range
loop-i-init c = refl

pub loop-i-preserved : goal.loop-i-preserved
loop-i-preserved c = let d = c.args.answer.now in
    let at = c.loop-i in
    let read = c.decode-read.result in
    rw (c.file_word.ensures, at.invariant) (filled_next (file_word read) d at.i (omega (arith, c.least-n.ensures)))

pub returns : goal.returns
returns c = let d = c.args.answer.now in
    let all : c.loop-i.i ≡ min (length d) 280 = omega (arith, c.least-n.ensures) in
    c.loop-i.invariant
    ∙ ap (filled (file_word c.decode-read.result) d) all
    ∙ ap (λ (r : Decoded). filled (file_word r) d (min (length d) 280)) c.decode-read.ensures
