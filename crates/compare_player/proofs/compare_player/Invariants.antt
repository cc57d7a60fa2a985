-- `compare_player::compare_player` fills the places lent. The invariant: the first i hold their words, and the player is that after i / 80 calls.
use mathlib.Core.Path.{◌≡◌}
use Prim.Native.Nat.{◌/◌}
use Rattle.compare_files.specs.Files.{filled}
use Rattle.compare_player.specs.Calls.{seen_after, word_after}
use Rattle.compare_player.proofs.compare_player.Given as goal

abbrev pub invariant-loop-i : goal.invariant-loop-i
invariant-loop-i l = (l.answer ≡ filled (word_after l.file l.calls) l.initial.answer l.i) × (l.seen ≡ seen_after l.file l.calls (l.i / 80))
