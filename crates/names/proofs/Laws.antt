-- Laws of names.
use mathlib.Core.Path.{◌≡◌, refl, ap, ap₂, ◌∙◌}
use mathlib.Core.Bool.{true, ◌&&◌}
use mathlib.Core.List.{List, ◌++◌, map}
use lib.Seq.{take-length}
use Prim.Native.Nat.{ℕ, zero, suc, ◌-◌, min}
use native.Mathlib.Omega.{arith}
use lib.ListN.{length, take, replicate, length-take, length-map}
use lib.Dec.{eqb, eqb-suc-zero}
use borrow.Author.Tests.{eqb-true}
use Rattle.common.specs.Lists.{all}
use Rattle.common.proofs.Lists.{take-least, all_one}
use Rattle.common.proofs.Tests.{and_left, and_right}
use Rattle.names.specs.declared.Name.{Name}
use Rattle.names.specs.Names.{is_zero, drawn, empty_name, name_from, name_ok, is_blank}

abbrev named : List ℕ → ℕ → Name
named bytes len = record { bytes = bytes; len = len }

-- the first n bytes of a text, each as it can be drawn, where n is the text's length or 20
pub name-made : (text bytes : List ℕ) (n i : ℕ) → n ≡ min (length text) 20 → i ≡ length (take n text)
    → bytes ≡ map drawn (take i (take n text)) ++ replicate (20 - i) 0 → named bytes n ≡ name_from text
unfolding name_from
name-made text bytes n i e f b =
    let taken : take i (take n text) ≡ take 20 text = ap (λ (k : ℕ). take k (take n text)) f ∙ take-length (take n text) ∙ ap (λ (k : ℕ). take k text) e ∙ take-least 20 text in
    let len : n ≡ length (take 20 text) = omega (arith, length-take 20 text) in
    ap₂ named
    (b ∙ ap₂ (λ (xs : List ℕ) (k : ℕ). map drawn xs ++ replicate (20 - k) 0) taken (omega (arith, length-map (take 20 text) drawn, length-take 20 text, length-take n text)))
    len

-- a name of no bytes passes question 5 exactly when its padding is 0
pub blank-is : (len : ℕ) (bytes : List ℕ) → (eqb len 0 && name_ok (named bytes len)) ≡ is_blank (named bytes len)
unfolding name_ok all
blank-is zero bytes = refl
blank-is (suc n) bytes = rw (eqb-suc-zero n)

-- the blank name of 20 bytes is the empty one
pub blank-empty : (n : Name) → length n.bytes ≡ 20 → is_blank n ≡ true → n ≡ empty_name
blank-empty n h e =
    let zeros : all is_zero n.bytes ≡ true = and_right (eqb n.len 0) (all is_zero n.bytes) e in
    ap₂ named (all_one is_zero is_zero 0 (λ x a b. eqb-true x 0 a) n.bytes zeros zeros ∙ ap (λ (k : ℕ). replicate k 0) h)
    (eqb-true n.len 0 (and_left (eqb n.len 0) (all is_zero n.bytes) e))
