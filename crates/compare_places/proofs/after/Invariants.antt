-- `compare_places::after` plays the first calls. The invariant: the player is that after i calls.
use mathlib.Core.Path.{◌≡◌}
use Rattle.compare_places.specs.Places.{player_after}
use Rattle.compare_places.proofs.after.Given as goal

abbrev pub invariant-loop-i : goal.invariant-loop-i
invariant-loop-i l = l.player ≡ player_after l.file l.calls l.exact l.i
