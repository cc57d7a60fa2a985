-- `first_fault`: what is left has the first fault of all.
use mathlib.Core.Path.{◌≡◌}
use Prim.Native.Nat.{◌-◌}
use Rattle.sheet.specs.Sheet.{fault_from}
use Rattle.sheet.proofs.first_fault.Given as goal

abbrev pub invariant-loop-i : goal.invariant-loop-i
invariant-loop-i l = fault_from l.sheet l.n l.i (l.n - l.i) ≡ fault_from l.sheet l.n 0 l.n
