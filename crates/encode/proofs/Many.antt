-- Writing the elements of an array one behind the other: one law over the element and its bytes.
use mathlib.Core.Path.{◌≡◌, refl, sym, ap, ◌∙◌}
use mathlib.Core.List.{List, [], ◌∷◌, ◌++◌, append-nil, append_assoc, flat_map}
use Prim.Native.Nat.{ℕ, ◌+◌, ◌≤◌, ◌<◌}
use native.Mathlib.Nat.{add-zero}
use native.Mathlib.Numerals.{add-one}
use native.Mathlib.Omega.{arith}
use lib.ListN.{length, get_or, take, drop, length-append, take-append-drop}
use lib.Seq.{take-suc}
use Rattle.le.specs.Le.{written}
use Rattle.le.proofs.Laws.{more, written_none}

module _ {A : Type 0} (bytes : A → List ℕ) where
  flat_append : (xs ys : List A) → flat_map bytes (xs ++ ys) ≡ flat_map bytes xs ++ flat_map bytes ys
  unfolding flat_map
  flat_append [] ys = refl
  flat_append (x ∷ xs) ys = ap (λ (l : List ℕ). bytes x ++ l) (flat_append xs ys) ∙ sym (append_assoc (bytes x) (flat_map bytes xs) (flat_map bytes ys))

  flat-one : (x : A) → flat_map bytes (x ∷ []) ≡ bytes x
  unfolding flat_map
  flat-one x = append-nil (bytes x)

  module _ (xs : List A) where
    -- the bytes of one element more
    pub flat-next : (i : ℕ) (d : A) → i < length xs → flat_map bytes (take (i + 1) xs) ≡ flat_map bytes (take i xs) ++ bytes (get_or xs i d)
    flat-next i d h =
        ap (flat_map bytes) (ap (λ (k : ℕ). take k xs) (add-one i) ∙ take-suc xs i d h)
        ∙ flat_append (take i xs) (get_or xs i d ∷ [])
        ∙ ap (λ (l : List ℕ). flat_map bytes (take i xs) ++ l) (flat-one (get_or xs i d))

    -- the first elements take no more bytes than all
    pub flat-le : (i : ℕ) → length (flat_map bytes (take i xs)) ≤ length (flat_map bytes xs)
    flat-le i =
        omega (
          arith,
          ap (λ (l : List A). length (flat_map bytes l)) (sym (take-append-drop i xs))
              ∙ ap length (flat_append (take i xs) (drop i xs))
              ∙ length-append (flat_map bytes (take i xs)) (flat_map bytes (drop i xs)),
        )

    -- i elements written from place `at` on
    pub record Wrote (out₀ : List ℕ) (at i place : ℕ) (out : List ℕ) : Type 0 where
      pub behind : place ≡ at + length (flat_map bytes (take i xs))
      pub long : length out ≡ length out₀
      pub is : out ≡ written out₀ at (flat_map bytes (take i xs))

    module _ (out₀ : List ℕ) (at : ℕ) where
      pub wrote_none : Wrote out₀ at 0 at out₀
      unfolding flat_map
      wrote_none = record { behind = sym (add-zero at); long = refl; is = written_none out₀ at }

      pub wrote-more : (i place : ℕ) (out next : List ℕ) (d : A) → i < length xs → at ≤ length out₀ → Wrote out₀ at i place out
          → length next ≡ length out → next ≡ written out place (bytes (get_or xs i d)) → Wrote out₀ at (i + 1) (place + length (bytes (get_or xs i d))) next
      wrote-more i place out next d h l w same e =
          record {
            behind = placed;
            long = same ∙ w.long;
            is = more out₀ at l (flat_map bytes (take i xs)) (bytes (get_or xs i d)) place w.behind w.is e ∙ ap (written out₀ at) (sym (flat-next i d h));
          }
        where
          placed : place + length (bytes (get_or xs i d)) ≡ at + length (flat_map bytes (take (i + 1) xs))
          placed =
              omega (
                arith,
                w.behind,
                ap length (flat-next i d h) ∙ length-append (flat_map bytes (take i xs)) (bytes (get_or xs i d)),
              )

      -- the next element has room where all have
      pub room : (i place : ℕ) (out : List ℕ) (d : A) → i < length xs → at + length (flat_map bytes xs) ≤ length out₀
          → Wrote out₀ at i place out → place + length (bytes (get_or xs i d)) ≤ length out
      room i place out d h fits w =
          omega (
            arith,
            w.behind,
            w.long,
            flat-le (i + 1),
            ap length (flat-next i d h) ∙ length-append (flat_map bytes (take i xs)) (bytes (get_or xs i d)),
          )
