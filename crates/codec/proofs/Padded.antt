-- What stands in a list that is padded to a size, and in its first places.
use mathlib.Core.Path.{◌≡◌, refl, ap, ◌∙◌}
use mathlib.Core.Bool.{Bool, true}
use mathlib.Core.List.{List, [], ◌∷◌, ◌++◌}
use Prim.Native.Nat.{ℕ, zero, suc, ◌-◌, ◌≤◌}
use native.Mathlib.Omega.{arith}
use lib.ListN.{length, take, drop, replicate, length-append, length-replicate}
use lib.Seq.{take_at, drop_at}
use Rattle.common.specs.Lists.{all, padded}
use Rattle.common.proofs.Tests.{and_both}
use Rattle.codec.specs.Typed.{AllFit}

module _ {A : Type 0} where
  pub all_replicate : (p : A → Bool) (blank : A) → p blank ≡ true → (n : ℕ) → all p (replicate n blank) ≡ true
  unfolding all
  all_replicate p blank ok zero = refl
  all_replicate p blank ok (suc n) = and_both ok (all_replicate p blank ok n)

  fit-replicate : (fits : A → Type 0) (blank : A) → fits blank → (n : ℕ) → AllFit fits (replicate n blank)
  fit-replicate fits blank ok zero = tt
  fit-replicate fits blank ok (suc n) = (ok, fit-replicate fits blank ok n)

  pub fit_append : (fits : A → Type 0) (xs ys : List A) → AllFit fits xs → AllFit fits ys → AllFit fits (xs ++ ys)
  fit_append fits [] ys h k = k
  fit_append fits (x ∷ xs) ys h k = (h.0, fit_append fits xs ys h.1 k)

  pub fit-take : (fits : A → Type 0) (n : ℕ) (xs : List A) → AllFit fits xs → AllFit fits (take n xs)
  fit-take fits zero xs h = tt
  fit-take fits (suc n) [] h = tt
  fit-take fits (suc n) (x ∷ xs) h = (h.0, fit-take fits n xs h.1)

  module _ (n : ℕ) (blank : A) (xs : List A) where
    pub padded-length : length xs ≤ n → length (padded n blank xs) ≡ n
    padded-length h = omega (arith, length-append xs (replicate (n - length xs) blank), length-replicate (n - length xs) blank)

    pub padded-used : (count : ℕ) → length xs ≡ count → take count (padded n blank xs) ≡ xs
    padded-used count e = take_at xs (replicate (n - length xs) blank) count e

    pub padded-unused : (p : A → Bool) → p blank ≡ true → (count : ℕ) → length xs ≡ count → all p (drop count (padded n blank xs)) ≡ true
    padded-unused p ok count e = ap (all p) (drop_at xs (replicate (n - length xs) blank) count e) ∙ all_replicate p blank ok (n - length xs)

    pub padded-fits : (fits : A → Type 0) → fits blank → AllFit fits xs → AllFit fits (padded n blank xs)
    padded-fits fits ok h = fit_append fits xs (replicate (n - length xs) blank) h (fit-replicate fits blank ok (n - length xs))
