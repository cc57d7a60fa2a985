-- Laws of the tests' numbers.
use mathlib.Core.Path.{◌≡◌, ap, ◌∙◌}
use Prim.Native.Nat.{ℕ, suc, ◌+◌, ◌-◌, ◌*◌, ◌/◌, ◌≤◌, ◌<◌}
use native.Mathlib.Nat.{div-lt_iff_lt-mul, div-zero, mul-le-mul_right}
use native.Mathlib.Omega.{arith}
use lib.ListN.{length, length-set}
use Rattle.state.specs.State.{SmallEnergy}
use Rattle.measure.specs.Measure.{Minute, Meter, pushed, pushes, ramp_part}

-- a mean of 16-bit watts has 16 bits
pub mean-small : (mj ms : ℕ) → 0 < ms → mj ≤ 65535 * ms → (mj + ms / 2) / ms ≤ 65535
mean-small mj ms p h =
    let x : (mj + ms / 2) / ms < 65536 = (div-lt_iff_lt-mul {k = ms} {x = mj + ms / 2} {y = 65536} p).1 (omega arith) in
    omega arith

-- the mean of no time counts for nothing
pub no-mean : (mj ms : ℕ) → ms ≡ 0 → ((mj + ms / 2) / ms * 95 + 50) / 100 ≡ 0
no-mean mj ms e = ap (λ (n : ℕ). ((mj + n / 2) / n * 95 + 50) / 100) e ∙ ap (λ (n : ℕ). (n * 95 + 50) / 100) (div-zero (mj + 0 / 2))

-- a place of the minute is followed by another
pub place-next : (m : Minute) (w : ℕ) → (pushed 60 w m).ring.minute_at < 60
unfolding pushed
place-next m w = omega arith

-- one second of several
pub pushes-step : (n i w : ℕ) (m : Minute) → i < n → pushes 60 (n - i) w m ≡ pushes 60 (n - (i + 1)) w (pushed 60 w m)
unfolding pushes
pushes-step n i w m h =
    let left : n - i ≡ suc (n - (i + 1)) = omega arith in
    ap (λ (k : ℕ). pushes 60 k w m) left

-- no second is left
pub pushes-end : (n i w : ℕ) (m : Minute) → n ≤ i → pushes 60 (n - i) w m ≡ m
unfolding pushes
pushes-end n i w m h =
    let left : n - i ≡ 0 = omega arith in
    ap (λ (k : ℕ). pushes 60 k w m) left

-- a minute keeps its places
pub places-kept : (m : Minute) (w : ℕ) → length (pushed 60 w m).watts ≡ length m.watts
unfolding pushed
places-kept m w = length-set m.watts m.ring.minute_at w

-- energy is of 16-bit readings, for as long as it was measured
pub energy-more : (mj w t ms : ℕ) → mj ≤ 65535 * t → w ≤ 65535 → mj + w * ms ≤ 65535 * (t + ms)
energy-more mj w t ms h k = omega (arith, mul-le-mul_right ms k)

-- the ramp's minutes leave the energy
pub ramp-energy : (w ms low : ℕ) (m : Meter) → SmallEnergy m.measured
    → SmallEnergy (ramp_part w ms low m).measured
unfolding ramp_part
ramp-energy w ms low m h = h
