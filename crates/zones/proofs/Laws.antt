-- A law of ranges.
use Prim.Native.Nat.{ℕ, ◌≤◌}
use native.Mathlib.Omega.{arith}
use Rattle.zones.specs.declared.TrainingProfile.{TrainingProfile}
use Rattle.zones.specs.Zones.{heart_range}

-- the next zone begins at 1 or above
pub heart-next : (p : TrainingProfile) (zone : ℕ) → 1 ≤ (heart_range p zone).next
unfolding heart_range
heart-next p zone = omega arith
