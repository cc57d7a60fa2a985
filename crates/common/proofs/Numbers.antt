-- Bounds of products.
use mathlib.Core.Path.{◌≡◌}
use Prim.Native.Nat.{ℕ, zero, suc, ◌*◌, ◌≤◌, ◌<◌}
use native.Mathlib.Nat.{mul-le-mul, zero-mul}
use native.Mathlib.Omega.{arith}

-- the product of two bounded numbers
pub product : (a b m n : ℕ) → a ≤ m → b ≤ n → a * b ≤ m * n
product a b m n p q = mul-le-mul p q

-- a product above some number has a first factor above 0
pub factor-positive : (a b k : ℕ) → k < a * b → 0 < a
factor-positive zero b k h = absurd (omega (arith, zero-mul b))
factor-positive (suc a) b k h = omega arith

-- a number that is at least n and is not n is above it
pub past : (n k : ℕ) → n ≤ k → (k ≡ n → ⊥) → suc n ≤ k
past n k h f = omega arith
