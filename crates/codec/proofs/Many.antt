-- Values written one behind the other are read again: one law over the element, its reader and its bytes.
use mathlib.Core.Path.{◌≡◌, refl, ap, ◌∙◌}
use mathlib.Core.List.{List, [], ◌∷◌, ◌++◌, append_assoc, flat_map}
use Prim.Native.Nat.{ℕ, suc, ◌+◌}
use native.Mathlib.Omega.{arith}
use lib.ListN.{length, length-append}
use lib.Seq.{drop-append_seam}
use Rattle.cursor.specs.Reading.{Read, got, behind, and_then, read_many}

module _ {A : Type 0} (reader : List ℕ → Read A) (bytes : A → List ℕ) where
  -- every element of a list is read back from its bytes, whatever follows
  abbrev pub Back : List A → Type 0
  Back [] = Unit
  Back (x ∷ xs) = ((rest : List ℕ) → reader (bytes x ++ rest) ≡ got x (length (bytes x))) × Back xs

  pub many-back : (xs : List A) → Back xs → (rest : List ℕ) → read_many reader (length xs) (flat_map bytes xs ++ rest) ≡ got xs (length (flat_map bytes xs))
  unfolding read_many flat_map and_then
  many-back [] h rest = refl
  many-back (x ∷ xs) h rest =
      let l = flat_map bytes xs in
      let more = l ++ rest in
      let size : length (bytes x) + (length l + 0) ≡ length (bytes x ++ l) = omega (arith, length-append (bytes x) l) in
      ap (read_many reader (suc (length xs))) (append_assoc (bytes x) l rest)
      ∙ ap (λ (m : Read A). and_then (bytes x ++ more) m (λ y r. and_then r (read_many reader (length xs) r) (λ ys _. got (y ∷ ys) 0))) (h.0 more)
      ∙ ap (λ (r : List ℕ). behind (length (bytes x)) (and_then r (read_many reader (length xs) r) (λ ys _. got (x ∷ ys) 0))) (drop-append_seam (bytes x) more)
      ∙ ap (λ (m : Read (List A)). behind (length (bytes x)) (and_then more m (λ ys _. got (x ∷ ys) 0))) (many-back xs h.1 rest)
      ∙ ap (got (x ∷ xs)) size
