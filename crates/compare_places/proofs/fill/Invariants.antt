-- `compare_places::fill` fills the places lent. The invariant: the first i hold their words.
use mathlib.Core.Path.{◌≡◌}
use Rattle.compare_files.specs.Files.{filled}
use Rattle.compare_places.specs.Places.{place_word}
use Rattle.compare_places.proofs.fill.Given as goal

abbrev pub invariant-loop-i : goal.invariant-loop-i
invariant-loop-i l = l.answer ≡ filled (place_word l.told l.seen) l.initial.answer l.i
