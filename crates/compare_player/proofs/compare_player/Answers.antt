-- `compare_player::compare_player` fills the places lent. The invariant: the first i hold their words, and the player is that after i / 80 calls.
use mathlib.Core.Path.{◌≡◌, ◌∙◌, refl, ap}
use Prim.Native.Nat.{min}
use native.Mathlib.Omega.{arith}
use lib.ListN.{length}
use Rattle.common.specs.Lists.{range}
use Rattle.compare_files.proofs.Answer.{filled_next}
use Rattle.compare_files.specs.Files.{filled}
use Rattle.compare_player.proofs.Laws.{seen_next, word_after_lem}
use Rattle.compare_player.specs.Calls.{seen_after, next_seen, word_after}
use Rattle.compare_player.specs.declared.Seen.{Seen}
use Rattle.compare_player.proofs.compare_player.Goals as goal

pub loop-i-init : goal.loop-i-init
unfolding range seen_after
loop-i-init c = (refl, c.begin-seen.ensures)

pub loop-i-preserved : goal.loop-i-preserved
loop-i-preserved c = let a = c.args in
    let d = a.answer.now in
    let at = c.loop-i in
    let word = c.seen_word.ensures ∙ word_after_lem a.file.now a.calls.now at.i at.seen at.invariant.1 in
    let more = filled_next (word_after a.file.now a.calls.now) d at.i (omega (arith, c.least-n.ensures)) in
    let seen = c.next_seen-seen.ensures ∙ ap (λ (s : Seen). next_seen a.calls.now s at.i) at.invariant.1 ∙ seen_next a.file.now a.calls.now at.i in
    (rw (word, at.invariant.0) more, seen)

pub returns : goal.returns
returns c = let a = c.args in
    let d = a.answer.now in
    let all : c.loop-i.i ≡ min (length d) 1000000 = omega (arith, c.least-n.ensures) in
    c.loop-i.invariant.0 ∙ ap (filled (word_after a.file.now a.calls.now) d) all
