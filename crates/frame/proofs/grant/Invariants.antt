-- `grant`: the bikes from i on answer as all do, and the wants of those before i are filled in.
use mathlib.Core.Path.{◌≡◌}
use mathlib.Core.List.{◌++◌, map}
use Prim.Native.Nat.{◌-◌}
use lib.ListN.{take, drop, replicate}
use Rattle.frame.specs.Frame.{want_of, bikes_answer}
use Rattle.frame.proofs.grant.Given as goal

abbrev pub invariant-loop-i : goal.invariant-loop-i
invariant-loop-i l = (bikes_answer (drop l.i l.fn.bikes) ≡ bikes_answer l.fn.bikes) × (l.wants ≡ map want_of (take l.i l.fn.bikes) ++ replicate (4 - l.i) 0)
