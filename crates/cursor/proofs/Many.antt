-- Reading n values in a row into an array, one at a time: one law over the element and its reader.
use mathlib.Core.Path.{◌≡◌, refl, sym, ap, ap₂, ◌∙◌}
use mathlib.Core.List.{List, [], ◌∷◌, ◌++◌, append_assoc, append-nil}
use Prim.Native.Nat.{ℕ, suc, ◌+◌, ◌-◌, ◌≤◌, ◌<◌}
use native.Mathlib.Nat.{add-zero, zero-add}
use native.Mathlib.Omega.{arith}
use lib.ListN.{length, drop, set, replicate, length-append}
use lib.Seq.{drop-drop}
use Rattle.common.proofs.Lists.{fill}
use Rattle.refusal.specs.declared.Refusal.{Refusal}
use Rattle.cursor.specs.Reading.{Read, got, refused, behind, and_then, read_many}

-- what was read before, in front
abbrev pub prepend : {A : Type 0} → List A → ℕ → Read (List A) → Read (List A)
prepend xs used (got ys n) = got (xs ++ ys) (used + n)
prepend xs used (refused r) = refused r

module _ {A : Type 0} (reader : List ℕ → Read A) (s : List ℕ) where
  one_more : (xs : List A) (used at : ℕ) (x : A) (k n : ℕ) → reader (drop at s) ≡ got x k
      → prepend xs used (read_many reader (suc n) (drop at s)) ≡ prepend (xs ++ (x ∷ [])) (used + k) (read_many reader n (drop (at + k) s))
  unfolding read_many and_then
  one_more xs used at x k n e =
      ap (λ (m : Read A). prepend xs used (and_then (drop at s) m (λ y rest. and_then rest (read_many reader n rest) (λ ys _. got (y ∷ ys) 0)))) e
      ∙ ap (λ (l : List ℕ). prepend xs used (behind k (and_then l (read_many reader n l) (λ ys _. got (x ∷ ys) 0)))) (drop-drop k at s)
      ∙ go (read_many reader n (drop (at + k) s))
    where
      go : (m : Read (List A))
          → prepend xs used (behind k (and_then (drop (at + k) s) m (λ ys _. got (x ∷ ys) 0))) ≡ prepend (xs ++ (x ∷ [])) (used + k) m
      go (got ys j) =
          let size : used + (k + (j + 0)) ≡ used + k + j = omega arith in
          ap₂ (λ (l : List A) (p : ℕ). got l p) (sym (append_assoc xs (x ∷ []) ys)) size
      go (refused r) = refl

  stopped : (xs : List A) (used at n : ℕ) (r : Refusal) → reader (drop at s) ≡ refused r → prepend xs used (read_many reader (suc n) (drop at s)) ≡ refused r
  unfolding read_many and_then
  stopped xs used at n r e =
      ap (λ (m : Read A). prepend xs used (and_then (drop at s) m (λ y rest. and_then rest (read_many reader n rest) (λ ys _. got (y ∷ ys) 0)))) e

  -- i of n values read, from place `from` up to place `at`, into the first places of an array
  pub record Progress (n from size : ℕ) (blank : A) (i at : ℕ) (array : List A) : Type 0 where
    pub done : List A
    pub used : ℕ
    pub count : length done ≡ i
    pub filled : array ≡ done ++ replicate (size - i) blank
    pub place : at ≡ from + used
    pub rest : prepend done used (read_many reader (n - i) (drop at s)) ≡ read_many reader n (drop from s)

  module _ (n from size : ℕ) (blank : A) where
    pub progress_start : Progress n from size blank 0 from (replicate size blank)
    progress_start =
        record {
          done = [];
          used = 0;
          count = refl;
          filled = ap (λ (k : ℕ). replicate k blank) (whole size);
          place = sym (add-zero from);
          rest = go (read_many reader (n - 0) (drop from s)) ∙ ap (λ (k : ℕ). read_many reader k (drop from s)) (sym (whole n));
        }
      where
        whole : (k : ℕ) → k ≡ k - 0
        whole k = omega arith

        go : (m : Read (List A)) → prepend [] 0 m ≡ m
        go (got ys j) = ap (got ys) (zero-add j)
        go (refused r) = refl

    module _ (i at : ℕ) (array : List A) (p : Progress n from size blank i at array) where
      pub progress_step : (x : A) (k : ℕ) → i < n → n ≤ size → reader (drop at s) ≡ got x k
          → Progress n from size blank (i + 1) (at + k) (set array i x)
      progress_step x k h l e =
          record {
            done = p.done ++ (x ∷ []);
            used = p.used + k;
            count = length-append p.done (x ∷ []) ∙ ap (λ (m : ℕ). m + 1) p.count;
            filled = ap (λ (a : List A). set a i x) p.filled ∙ fill size i p.done x blank p.count (omega arith);
            place = placed;
            rest = sym (one_more p.done p.used at x k (n - (i + 1)) e) ∙ ap (λ (m : ℕ). prepend p.done p.used (read_many reader m (drop at s))) (sym left) ∙ p.rest;
          }
        where
          placed : at + k ≡ from + (p.used + k)
          placed = omega (arith, p.place)

          left : n - i ≡ suc (n - (i + 1))
          left = omega arith

      pub progress-stop : (r : Refusal) → i < n → reader (drop at s) ≡ refused r → refused r ≡ read_many reader n (drop from s)
      progress-stop r h e =
          sym (stopped p.done p.used at (n - (i + 1)) r e)
          ∙ ap (λ (m : ℕ). prepend p.done p.used (read_many reader m (drop at s))) (sym left) ∙ p.rest
        where
          left : n - i ≡ suc (n - (i + 1))
          left = omega arith

      pub progress-end : n ≤ i → got p.done p.used ≡ read_many reader n (drop from s)
      unfolding read_many
      progress-end h =
          ap₂ (λ (l : List A) (m : ℕ). got l m) (sym (append-nil p.done)) (sym (add-zero p.used))
          ∙ ap (λ (m : ℕ). prepend p.done p.used (read_many reader m (drop at s))) (sym none) ∙ p.rest
        where
          none : n - i ≡ 0
          none = omega arith
