-- A name that is written is read again.
use mathlib.Core.Path.{◌≡◌, refl, sym, ap, ap₂, ◌∙◌}
use mathlib.Core.Bool.{true, ◌&&◌}
use mathlib.Core.List.{List, ◌∷◌, ◌++◌}
use Prim.Native.Nat.{ℕ, ◌+◌, ◌-◌, ◌≤◌}
use native.Mathlib.Omega.{arith}
use lib.Dec.{leb}
use lib.ListN.{length, take, drop, replicate, length-drop, length-append, take-append-drop}
use lib.Seq.{take_at, length-take-le}
use borrow.Author.Tests.{leb-true, eqb-true}
use Rattle.common.specs.Lists.{all}
use Rattle.common.proofs.Tests.{and_left, and_right}
use Rattle.common.proofs.Lists.{all_one}
use Rattle.names.specs.declared.Name.{Name}
use Rattle.names.specs.Names.{allowed, is_zero, as_bytes, name_ok}
use Rattle.cursor.specs.Reading.{got, behind, read_byte}
use Rattle.cursor.specs.Names.{name_of, name_bytes, read_name}
use Rattle.cursor.proofs.Laws.{take-here, name-byte, text-got}

-- a name in memory: its array has 20 bytes
abbrev pub Sized : Name → Type 0
Sized n = length n.bytes ≡ 20

module _ (n : Name) (sized : Sized n) (ok : name_ok n ≡ true) where
  pub name-len : n.len ≤ 20
  unfolding name_ok
  name-len = leb-true n.len 20 (and_left (leb n.len 20) (all allowed (as_bytes n) && all is_zero (drop n.len n.bytes)) ok)

  pub text : all allowed (as_bytes n) ≡ true
  unfolding name_ok
  text = and_left (all allowed (as_bytes n)) (all is_zero (drop n.len n.bytes)) (and_right (leb n.len 20) (all allowed (as_bytes n) && all is_zero (drop n.len n.bytes)) ok)

  zeros : all is_zero (drop n.len n.bytes) ≡ true
  unfolding name_ok
  zeros = and_right (all allowed (as_bytes n)) (all is_zero (drop n.len n.bytes)) (and_right (leb n.len 20) (all allowed (as_bytes n) && all is_zero (drop n.len n.bytes)) ok)

  pub text-length : length (as_bytes n) ≡ n.len
  text-length = length-take-le n.len n.bytes (omega (arith, name-len))

  -- the name of its own bytes
  pub made_again : name_of (as_bytes n) ≡ n
  made_again =
      ap₂ (λ (bytes : List ℕ) (len : ℕ). record { bytes = bytes; len = len })
      (ap (λ (k : ℕ). as_bytes n ++ replicate k 0) rest
      ∙ ap (λ (l : List ℕ). as_bytes n ++ l) (sym (all_one is_zero is_zero 0 (λ x a b. eqb-true x 0 a) (drop n.len n.bytes) zeros zeros))
      ∙ take-append-drop n.len n.bytes)
      text-length
    where
      rest : 20 - length (as_bytes n) ≡ length (drop n.len n.bytes)
      rest = omega (arith, text-length, length-drop n.len n.bytes)

  pub name_back : (rest : List ℕ) → read_name (name_bytes n ++ rest) ≡ got n (1 + n.len)
  unfolding name_bytes read_byte
  name_back rest =
      let l = as_bytes n ++ rest in
      let taken : take n.len l ≡ as_bytes n = take_at (as_bytes n) rest n.len text-length in
      let enough : n.len ≤ length l = omega (arith, length-append (as_bytes n) rest, text-length) in
      name-byte (n.len ∷ l) n.len 1 refl
      ∙ ap (behind 1)
      (text-got l n.len name-len (take-here n.len l enough) (ap (all allowed) taken ∙ text)
      ∙ ap (λ (x : Name). got x n.len) (ap name_of taken ∙ made_again))
