-- `compare_player::seen_at` plays the first k calls. The invariant: the player is that after i calls.
use mathlib.Core.Path.{◌≡◌}
use Rattle.compare_player.specs.Calls.{seen_after}
use Rattle.compare_player.proofs.seen_at.Given as goal

abbrev pub invariant-loop-i : goal.invariant-loop-i
invariant-loop-i l = l.seen ≡ seen_after l.file l.calls l.i
