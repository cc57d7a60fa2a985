-- `compare_cut::compare_cut` fills the places lent. The invariant: the first i hold their words, and the player is that after i / 13 calls.
use mathlib.Core.Path.{◌≡◌}
use Prim.Native.Nat.{◌/◌}
use Rattle.compare_files.specs.Files.{filled}
use Rattle.compare_cut.specs.Cuts.{cut_after, word_after}
use Rattle.compare_cut.proofs.compare_cut.Given as goal

abbrev pub invariant-loop-i : goal.invariant-loop-i
invariant-loop-i l = (l.answer ≡ filled (word_after l.file l.calls) l.initial.answer l.i) × (l.seen ≡ cut_after l.file l.calls (l.i / 13))
