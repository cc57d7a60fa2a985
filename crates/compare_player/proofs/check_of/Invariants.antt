-- `compare_player::check_of` mixes event by event. The invariant: what was mixed and what is left come to the whole check word.
use mathlib.Core.Path.{◌≡◌}
use Prim.Native.Nat.{◌<◌, ◌-◌}
use Rattle.compare_player.specs.Calls.{check_from}
use Rattle.compare_player.proofs.check_of.Given as goal

abbrev pub invariant-loop-i : goal.invariant-loop-i
invariant-loop-i l =
    (l.check < 1000000007) × (check_from l.kinds l.values l.i (l.n - l.i) l.check ≡ check_from l.kinds l.values 0 l.n 7)
