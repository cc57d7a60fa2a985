-- An array that is filled with what stands at places some width apart: one place more, and all of them.
use mathlib.Core.Path.{◌≡◌, refl, sym, ap, ◌∙◌}
use mathlib.Core.List.{List, [], ◌∷◌, ◌++◌}
use Prim.Native.Nat.{ℕ, zero, suc, ◌+◌, ◌-◌, ◌*◌, ◌<◌}
use native.Mathlib.Numerals.{add-one}
use native.Mathlib.Omega.{arith}
use lib.ListN.{length, set, replicate, length-append}
use Rattle.common.specs.Lists.{padded}
use Rattle.common.proofs.Lists.{fill}
use Rattle.compare.specs.Input.{at_places}

module _ {A : Type 0} (at : ℕ → A) (place width : ℕ) where
  pub length-at-places : (n : ℕ) → length (at_places at place width n) ≡ n
  unfolding at_places
  length-at-places zero = refl
  length-at-places (suc n) = length-append (at_places at place width n) (at (place + width * n) ∷ []) ∙ one_more (length (at_places at place width n)) n (length-at-places n)
    where
      one_more : (m n : ℕ) → m ≡ n → m + 1 ≡ suc n
      one_more m n e = omega arith

  module _ (size : ℕ) (blank : A) where
    -- the array with its first i places filled
    abbrev pub filled : ℕ → List A
    filled i = at_places at place width i ++ replicate (size - i) blank

    pub filled_next : (i : ℕ) → i < size → set (filled i) i (at (place + width * i)) ≡ filled (i + 1)
    unfolding at_places
    filled_next i h =
        fill size i (at_places at place width i) (at (place + width * i)) blank (length-at-places i) h
        ∙ ap (λ (n : ℕ). at_places at place width n ++ replicate (size - (i + 1)) blank) (sym (add-one i))

    pub filled-all : (i : ℕ) → filled i ≡ padded size blank (at_places at place width i)
    filled-all i = ap (λ (n : ℕ). at_places at place width i ++ replicate (size - n) blank) (sym (length-at-places i))
