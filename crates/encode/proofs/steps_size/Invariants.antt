-- `encode::steps_size` meets its contract: the bytes of the steps so far.
use lib.ListN.{length, take}
use mathlib.Core.List.{flat_map}
use Prim.Native.Nat.{◌*◌, ◌≤◌}
use mathlib.Core.Path.{◌≡◌}
use Rattle.steps.specs.Bytes.{step_bytes}
use Rattle.encode.proofs.steps_size.Given as goal

abbrev pub invariant-loop-step : goal.invariant-loop-step
invariant-loop-step l = (l.size ≡ length (flat_map step_bytes (take l.step-index l.step-items))) × (l.size ≤ 35 * l.step-index)
