-- How many bytes a name and a step take.
use mathlib.Core.Path.{◌≡◌}
use Prim.Native.Nat.{◌+◌, ◌≤◌}
use native.Mathlib.Omega.{arith}
use lib.ListN.{length, length-append, length-take}
use Rattle.le.specs.Le.{bytes_of}
use Rattle.names.specs.declared.Name.{Name}
use Rattle.cursor.specs.Names.{name_bytes}
use Rattle.model.specs.declared.Step.{Step}
use Rattle.steps.specs.Bytes.{fixed_bytes, step_bytes}

-- of 20 bytes, a name takes its length byte and as many as it says
pub name-size : (n : Name) → n.len ≤ 20 → length n.bytes ≡ 20 → length (name_bytes n) ≡ 1 + n.len
unfolding name_bytes
name-size n h l = omega (arith, length-take n.len n.bytes)

pub step-length : (s : Step) → length (step_bytes s) ≡ 14 + length (name_bytes s.note)
unfolding step_bytes fixed_bytes bytes_of
step-length s = omega (arith, length-append (fixed_bytes s.intensity s.length s.target) (name_bytes s.note))
