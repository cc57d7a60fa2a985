-- The library's tests of a list are the definitions'.
use mathlib.Core.Path.{◌≡◌, refl, sym, ap, ◌∙◌}
use mathlib.Core.Bool.{Bool, true, false, ◌&&◌, and_assoc, and-true}
use mathlib.Core.List.{List, [], ◌∷◌}
use Prim.Native.Nat.{ℕ, ◌+◌}
use denote.Param.Members.{Mut, Called}
use Rattle.std.specs.Prelude.{Option, MatchOption}
use Rattle.std.specs.Iterator.{YieldsThen}
use Rattle.std.specs.List.{list_all, fold, FoldsTo, enumerate_from}
use Rattle.std.proofs.lemmas.Iterator.{YieldsList}
use Rattle.std.proofs.lemmas.Iterator.Search.{all_from_yields_List}
use Rattle.common.specs.Lists.{all, all_at}

module _ {A : Type 0} where
  pub all-list : (test : A → Bool) (xs : List A) → list_all test xs ≡ all test xs
  unfolding all
  all-list test [] = refl
  all-list test (x ∷ xs) = ap (λ (t : Bool). test x && t) (all-list test xs)

  -- folding the tests is asking all
  pub all-folded : (test : A → Bool) (ok : Bool) (xs : List A) → fold (λ (t : Bool) (x : A). t && test x) ok xs ≡ (ok && all test xs)
  unfolding all
  all-folded test ok [] = sym (and-true ok)
  all-folded test ok (x ∷ xs) = all-folded test (ok && test x) xs ∙ and_assoc ok (test x) (all test xs)

  -- a test of each element with its place
  pub all-placed : (test : ℕ → A → Bool) (i : ℕ) (xs : List A) → all (λ (p : ℕ × A). test p.0 p.1) (enumerate_from i xs) ≡ all_at test i xs
  unfolding all all_at
  all-placed test i [] = refl
  all-placed test i (x ∷ xs) = ap (λ (t : Bool). test i x && t) (all-placed test (i + 1) xs)

-- what `all` of the library answers of the elements that an iterator yields
module _ {S A B F : Type 0} {steps : S → Option A → S → Type 0} {v : A → B} {g : Mut F (A × Unit {0}) Bool} {s : S} {ys : List B} (test : B → Bool) (u : S) (f : F) where
  pub all-found : (r : Bool)
      → (xs : List A) × (o : Option A) × (j : F) × YieldsThen steps s xs o u × FoldsTo (λ p x q. Called g p (x, tt) true q) f xs j × MatchOption o (r ≡ true) (λ x. (r ≡ false) × ((h : F) × Called g j (x, tt) false h))
      → YieldsList steps v s ys → ((x : A) (b : Bool) (q : F) → Called g f (x, tt) b q → (q ≡ f) × (b ≡ test (v x))) → r ≡ all test ys
  all-found r d e k = all_from_yields_List test u f r d e k ∙ all-list test ys
