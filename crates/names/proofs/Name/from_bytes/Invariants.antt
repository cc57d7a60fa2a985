-- `Name::from_bytes`: the first i bytes are the text's as they can be drawn, the others 0.
use mathlib.Core.List.{◌++◌, map}
use mathlib.Core.Path.{◌≡◌}
use Prim.Native.Nat.{◌-◌}
use lib.ListN.{take, replicate}
use Rattle.names.specs.Names.{drawn}
use Rattle.names.proofs.Name.from_bytes.Given as goal

abbrev pub invariant-loop-i : goal.invariant-loop-i
invariant-loop-i l = l.bytes ≡ map drawn (take l.i l.byte-items) ++ replicate (20 - l.i) 0
