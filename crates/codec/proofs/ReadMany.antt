-- Values read one behind the other are written again as they stood: one law over the element, its reader and its bytes.
use mathlib.Core.Path.{◌≡◌, refl, sym, ap, ap₂, ◌∙◌, subst}
use mathlib.Core.List.{List, [], ◌∷◌, ◌++◌, append_assoc, flat_map}
use Prim.Native.Nat.{ℕ, zero, suc, ◌+◌}
use native.Mathlib.Omega.{arith}
use lib.ListN.{length, drop}
use lib.Seq.{drop-drop}
use Rattle.le.specs.Le.{Bytes}
use Rattle.le.proofs.Laws.{bytes_drop}
use Rattle.cursor.specs.Reading.{Read, got, and_then, read_many}
use Rattle.codec.specs.Typed.{AllFit}
use Rattle.codec.proofs.Parts.{then-got}

module _ {A : Type 0} (reader : List ℕ → Read A) where
  -- the first value and those behind it
  record First (n : ℕ) (l : List ℕ) (xs : List A) (k : ℕ) : Type 0 where
    value : A
    size : ℕ
    others : List A
    more : ℕ
    first : reader l ≡ got value size
    rest : read_many reader n (drop size l) ≡ got others more
    same : value ∷ others ≡ xs
    sum : k ≡ size + more

  first-was : (n : ℕ) (l : List ℕ) (xs : List A) (k : ℕ) → read_many reader (suc n) l ≡ got xs k → First n l xs k
  unfolding read_many
  first-was n l xs k e =
      let f = then-got l (reader l) (λ x r. and_then r (read_many reader n r) (λ ys _. got (x ∷ ys) 0)) xs k e in
      let r = drop f.size l in
      let x = f.value in
      let g = then-got r (read_many reader n r) (λ ys _. got (x ∷ ys) 0) xs f.more f.second in
      let second = g.second in
      let none : 0 ≡ g.more = cc in
      record {
        value = x;
        size = f.size;
        others = g.value;
        more = g.size;
        first = f.first;
        rest = g.first;
        same = cc;
        sum = omega (arith, f.sum, g.sum);
      }

  -- what holds of each value that is read
  pub many-each : (P : A → Type 0) → ((l : List ℕ) (x : A) (k : ℕ) → Bytes l → reader l ≡ got x k → P x)
      → (n : ℕ) (l : List ℕ) (xs : List A) (k : ℕ) → Bytes l → read_many reader n l ≡ got xs k → (length xs ≡ n) × AllFit P xs
  unfolding read_many
  many-each P one zero l xs k b e = let s : [] ≡ xs = cc in subst (λ (ys : List A). (length ys ≡ 0) × AllFit P ys) s (refl, tt)
  many-each P one (suc n) l xs k b e =
      let f = first-was n l xs k e in
      let r = many-each P one n (drop f.size l) f.others f.more (bytes_drop f.size l b) f.rest in
      subst (λ (ys : List A). (length ys ≡ suc n) × AllFit P ys) f.same (ap suc r.0, (one l f.value f.size b f.first, r.1))

  -- where each is written as it stood, so are all; `Zero` says what is asked of the bytes of n of them
  pub many-again : (bytes : A → List ℕ) (Zero : ℕ → List ℕ → Type 0)
      → ((n : ℕ) (l : List ℕ) (x : A) (k : ℕ) → Bytes l → reader l ≡ got x k → Zero (suc n) l → (bytes x ++ drop k l ≡ l) × Zero n (drop k l))
      → (n : ℕ) (l : List ℕ) (xs : List A) (k : ℕ) → Bytes l → read_many reader n l ≡ got xs k → Zero n l → flat_map bytes xs ++ drop k l ≡ l
  unfolding read_many flat_map
  many-again bytes Zero one zero l xs k b e z =
      let s : [] ≡ xs = cc in
      let none : 0 ≡ k = cc in
      ap₂ (λ (ys : List A) (j : ℕ). flat_map bytes ys ++ drop j l) (sym s) (sym none)
  many-again bytes Zero one (suc n) l xs k b e z =
      let f = first-was n l xs k e in
      let here = one n l f.value f.size b f.first z in
      let r = drop f.size l in
      let rest = many-again bytes Zero one n r f.others f.more (bytes_drop f.size l b) f.rest here.1 in
      ap₂ (λ (ys : List A) (j : ℕ). flat_map bytes ys ++ drop j l) (sym f.same) f.sum
      ∙ append_assoc (bytes f.value) (flat_map bytes f.others) (drop (f.size + f.more) l)
      ∙ ap (λ (m : List ℕ). bytes f.value ++ (flat_map bytes f.others ++ m)) (sym (drop-drop f.more f.size l))
      ∙ ap (λ (m : List ℕ). bytes f.value ++ m) rest
      ∙ here.0
