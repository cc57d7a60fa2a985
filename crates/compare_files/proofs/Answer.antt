-- An array that is filled from the front with a function of the place.
use mathlib.Core.Path.{◌≡◌, sym, ap, ◌∙◌}
use mathlib.Core.List.{List, [], ◌∷◌, ◌++◌, map, map-append}
use Prim.Native.Nat.{ℕ, zero, suc, ◌+◌, ◌<◌}
use native.Mathlib.Nat.{zero-add}
use native.Mathlib.Numerals.{add-one}
use native.Mathlib.Omega.{arith}
use lib.ListN.{length, drop, set, get_or, length-map}
use lib.Seq.{drop-cons, set_at, append_snoc}
use Rattle.common.specs.Lists.{range}
use Rattle.order.proofs.Laws.{length-range}
use Rattle.compare_files.specs.Files.{filled}

range-next : (i n : ℕ) → range i (suc n) ≡ range i n ++ ((i + n) ∷ [])
unfolding range
range-next i zero = ap (λ (k : ℕ). k ∷ []) (omega arith)
range-next i (suc n) = ap (λ (l : List ℕ). i ∷ l) (range-next (suc i) n ∙ ap (λ (k : ℕ). range (suc i) n ++ (k ∷ [])) (omega arith))

module _ (f : ℕ → ℕ) (d : List ℕ) where
  pub filled_next : (i : ℕ) → i < length d → set (filled f d i) i (f i) ≡ filled f d (i + 1)
  filled_next i h =
      ap (λ (l : List ℕ). set (map f (range 0 i) ++ l) i (f i)) (drop-cons d i 0 h)
      ∙ set_at (map f (range 0 i)) (get_or d i 0) (drop (suc i) d) (f i) i (length-map (range 0 i) f ∙ length-range 0 i)
      ∙ sym (append_snoc (map f (range 0 i)) (f i) (drop (suc i) d))
      ∙ ap (λ (l : List ℕ). l ++ drop (suc i) d)
      (ap (λ (k : ℕ). map f (range 0 i) ++ (f k ∷ [])) (sym (zero-add i))
      ∙ sym (map-append f (range 0 i) ((0 + i) ∷ []))
      ∙ ap (map f) (sym (range-next 0 i)))
      ∙ ap (filled f d) (sym (add-one i))
