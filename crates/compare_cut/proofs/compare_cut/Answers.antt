-- `compare_cut::compare_cut` fills the places lent. The invariant: the first i hold their words, and the player is that after i / 13 calls.
use mathlib.Core.Path.{◌≡◌, ◌∙◌, refl, ap}
use Prim.Native.Nat.{min}
use native.Mathlib.Omega.{arith}
use lib.ListN.{length}
use Rattle.common.specs.Lists.{range}
use Rattle.compare_files.proofs.Answer.{filled_next}
use Rattle.compare_files.specs.Files.{filled}
use Rattle.compare_cut.proofs.Laws.{cut-next, word_after_lem}
use Rattle.compare_cut.specs.Cuts.{cut_after, next_cut, word_after}
use Rattle.compare_player.specs.declared.Seen.{Seen}
use Rattle.compare_cut.proofs.compare_cut.Goals as goal

pub loop-i-init : goal.loop-i-init
unfolding range cut_after
loop-i-init c = (refl, c.begin-seen.ensures)

pub loop-i-preserved : goal.loop-i-preserved
loop-i-preserved c = let a = c.args in
    let d = a.answer.now in
    let at = c.loop-i in
    let word = c.cut_word.ensures ∙ word_after_lem a.file.now a.calls.now at.i at.seen at.invariant.1 in
    let more = filled_next (word_after a.file.now a.calls.now) d at.i (omega (arith, c.least-n.ensures)) in
    let seen = c.next_cut-seen.ensures ∙ ap (λ (s : Seen). next_cut a.calls.now s at.i) at.invariant.1 ∙ cut-next a.file.now a.calls.now at.i in
    (rw (word, at.invariant.0) more, seen)

pub returns : goal.returns
returns c = let a = c.args in
    let d = a.answer.now in
    let all : c.loop-i.i ≡ min (length d) 137000 = omega (arith, c.least-n.ensures) in
    c.loop-i.invariant.0 ∙ ap (filled (word_after a.file.now a.calls.now) d) all
