-- Laws of shares.
use Prim.Native.Nat.{ℕ, ◌+◌, ◌-◌, ◌*◌, ◌/◌, ◌≤◌, ◌<◌}
use native.Mathlib.Nat.{mul-le-mul_left, mul_comm, le_of_lt, div-le_of_le-mul, div-lt_iff_lt-mul, add-mul}
use native.Mathlib.Omega.{arith}

-- a share of b, rounded down, is at most b
pub share-down : (a b n : ℕ) → a ≤ n → b * a / n ≤ b
share-down a b n h = div-le_of_le-mul n (rw (mul_comm n b) (mul-le-mul_left b h))

-- and so is one rounded up
pub share_up : (a b n : ℕ) → a < n → (b * a + (n - 1)) / n ≤ b
share_up a b n h =
    let x : (b * a + (n - 1)) / n < b + 1 =
    (div-lt_iff_lt-mul {k = n} {x = b * a + (n - 1)} {y = b + 1} (omega arith)).1 (omega (arith, mul-le-mul_left b (le_of_lt h), add-mul b 1 n)) in
    omega arith
