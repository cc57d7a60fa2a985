-- `compare_places::fill` fills the places lent. The invariant: the first i hold their words.
use mathlib.Core.Path.{◌≡◌, ◌∙◌, refl, ap}
use Prim.Native.Nat.{min}
use native.Mathlib.Omega.{arith}
use lib.ListN.{length}
use Rattle.common.specs.Lists.{range}
use Rattle.compare_files.proofs.Answer.{filled_next}
use Rattle.compare_files.specs.Files.{filled}
use Rattle.compare_places.specs.Places.{place_word}
use Rattle.compare_places.proofs.fill.Goals as goal

pub loop-i-init : goal.loop-i-init
unfolding range
loop-i-init c = refl

pub loop-i-preserved : goal.loop-i-preserved
loop-i-preserved c = let a = c.args in
    let d = a.answer.now in
    let at = c.loop-i in
    let more = filled_next (place_word a.told a.seen) d at.i (omega (arith, c.least-n.ensures)) in
    rw (c.place_word.ensures, at.invariant) more

pub returns : goal.returns
returns c = let a = c.args in
    let d = a.answer.now in
    let all : c.loop-i.i ≡ min (length d) 82 = omega (arith, c.least-n.ensures) in
    c.loop-i.invariant ∙ ap (filled (place_word a.told a.seen) d) all
