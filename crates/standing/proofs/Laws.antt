-- Laws of the test of standing.
use Rattle.std.specs.Prelude.{Err, Ok, Result, ⊤}
use Rattle.std.specs.Result.{is_err}
use mathlib.Core.Path.{◌≡◌, sym, ap, ◌∙◌}
use mathlib.Core.Bool.{true, false}
use Prim.Native.Nat.{ℕ, ◌+◌, ◌-◌, ◌≤◌, ◌<◌}
use native.Mathlib.Omega.{arith}
use lib.Dec.{leb}
use borrow.Author.Tests.{le-leb, lt-leb}
use Rattle.refusal.specs.declared.Refusal.{Refusal}
use Rattle.standing.specs.Standing.{accepted}

-- a sum that is more than a number isn't that number
pub sum-is-more : (a b c n : ℕ) → n < a + b + c → a + b + c ≡ n → ⊥
sum-is-more a b c n h e = omega arith

-- a sum of two against a total, by the second and then by what it leaves of the total
module _ (a b total : ℕ) where
  pub second_above : total < b → leb (a + b) total ≡ false
  second_above h = lt-leb (a + b) total (omega (arith, h))

  pub first_above : b ≤ total → total - b < a → leb (a + b) total ≡ false
  first_above h g = lt-leb (a + b) total (omega (arith, h, g))

  pub both-within : b ≤ total → a ≤ total - b → leb (a + b) total ≡ true
  both-within h g = le-leb (a + b) total (omega (arith, h, g))

-- an answer that is no error is accepted
pub not-refused : (r : Result ⊤ Refusal) {a : Result ⊤ Refusal} → is_err r ≡ false → r ≡ a → accepted a ≡ true
not-refused (Ok tt) e f = ap accepted (sym f)
not-refused (Err x) e f = ap accepted (sym f) ∙ sym e
