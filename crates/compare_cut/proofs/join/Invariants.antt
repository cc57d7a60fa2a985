-- `compare_cut::join` joins event by event. The invariant: what was joined and what is left come to the whole check word.
use mathlib.Core.Path.{◌≡◌}
use Prim.Native.Nat.{◌<◌, ◌-◌, ◌%◌}
use Rattle.compare_cut.specs.Cuts.{joined_from}
use Rattle.compare_cut.proofs.join.Given as goal

abbrev pub invariant-loop-i : goal.invariant-loop-i
invariant-loop-i l =
    (l.joined < 1000000007) × (joined_from l.kinds l.values l.i (l.n - l.i) l.joined ≡ joined_from l.kinds l.values 0 l.n (l.check % 1000000007))
