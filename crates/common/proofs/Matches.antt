-- What the last arm of a `match` on a number knows, and a list's element past its end.
use mathlib.Core.Path.{◌≡◌, sym}
use mathlib.Core.List.{List, [], ◌∷◌}
use Prim.Native.Nat.{ℕ, zero, suc, ◌≤◌}
use native.Mathlib.Omega.{arith}
use lib.ListN.{length, get_or, get_or-eq_default}
use types.Run.{OneOf}

pub past : {A : Type 0} (xs : List A) (k : ℕ) (d : A) → length xs ≤ k → d ≡ get_or xs k d
past xs k d h = sym (get_or-eq_default xs d {n = k} h)

-- after arms for 0 to n - 1
abbrev pub NoneBelow : ℕ → ℕ → Type 0
NoneBelow zero k = Unit
NoneBelow (suc n) k = NoneBelow n k × (OneOf (n ∷ []) k → ⊥)

pub at_least : (n k : ℕ) → NoneBelow n k → n ≤ k
at_least zero k r = omega arith
at_least (suc n) k r = next n k (at_least n k r.0) r.1
  where
    next : (n k : ℕ) → n ≤ k → (k ≡ n → ⊥) → suc n ≤ k
    next n k h d = omega arith
