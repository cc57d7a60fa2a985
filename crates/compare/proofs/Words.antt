-- Words of an answer at a place: behind the first.
use mathlib.Core.Path.{◌≡◌, ap}
use mathlib.Core.List.{List, ◌∷◌}
use Prim.Native.Nat.{ℕ, zero, suc, ◌-◌, ◌<◌}
use native.Mathlib.Omega.{arith}
use lib.ListN.{get_or}

pub behind : {A : Type 0} (x : A) (xs : List A) (k : ℕ) (d : A) → 0 < k → get_or xs (k - 1) d ≡ get_or (x ∷ xs) k d
behind x xs zero d h = absurd (omega arith)
behind x xs (suc k) d h = ap (λ (n : ℕ). get_or xs n d) (before k)
  where
    before : (k : ℕ) → suc k - 1 ≡ k
    before k = omega arith
