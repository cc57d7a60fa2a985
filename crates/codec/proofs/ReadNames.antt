-- A name that is read is written again as it stood.
use mathlib.Core.Path.{◌≡◌, refl, sym, ap, ap₂, ◌∙◌, subst}
use mathlib.Core.Bool.{true}
use mathlib.Core.List.{List, ◌∷◌, ◌++◌}
use Prim.Native.Nat.{ℕ, ◌+◌, ◌≤◌}
use native.Mathlib.Omega.{arith}
use lib.Dec.{leb}
use lib.ListN.{length, take, drop, take-append-drop}
use lib.Seq.{length-take-le, drop-drop}
use borrow.Author.Tests.{leb-true, le-leb}
use Rattle.common.specs.Lists.{all}
use Rattle.common.proofs.Tests.{and_both}
use Rattle.names.specs.declared.Name.{Name}
use Rattle.names.specs.Names.{allowed, is_zero, name_ok}
use Rattle.cursor.specs.Reading.{got, take_bytes, read_byte}
use Rattle.cursor.specs.Names.{name_of, name_bytes, read_text, read_name}
use Rattle.codec.specs.Typed.{NameFits}
use Rattle.codec.proofs.Parts.{then-got, allow-got, take-got, byte-got}
use Rattle.codec.proofs.Padded.{padded-length, padded-used, padded-unused}

-- what reading a name says of the name and of the bytes it was read from
pub record NameWas (l : List ℕ) (n : Name) (k : ℕ) : Type 0 where
  pub same : name_bytes n ++ drop k l ≡ l
  pub size : k ≡ 1 + n.len
  pub short : n.len ≤ 20
  pub fits : NameFits n
  pub ok : name_ok n ≡ true

-- the name of some bytes
module _ (text : List ℕ) (short : length text ≤ 20) where
  text-bytes : name_bytes (name_of text) ≡ length text ∷ text
  unfolding name_bytes
  text-bytes = ap (λ (l : List ℕ). length text ∷ l) (padded-used 20 0 text (length text) refl)

  pub text-ok : all allowed text ≡ true → name_ok (name_of text) ≡ true
  unfolding name_ok
  text-ok a =
      and_both (le-leb (length text) 20 short)
      (and_both (ap (all allowed) (padded-used 20 0 text (length text) refl) ∙ a) (padded-unused 20 0 text is_zero refl (length text) refl))

pub name-was : (l : List ℕ) (n : Name) (k : ℕ) → read_name l ≡ got n k → NameWas l n k
unfolding read_name read_text
name-was l n k e =
    let first = then-got l (read_byte l) read_text n k e in
    let byte = byte-got l first.value first.size first.first in
    let len = first.value in
    let r = drop first.size l in
    let ok-length = allow-got (leb len 20) _ n first.more first.second in
    let rest = then-got r (take_bytes len r) _ n first.more ok-length.1 in
    let taken = take-got len r rest.value rest.size rest.first in
    let ok-text = allow-got (all allowed rest.value) _ n rest.more rest.second in
    let text = rest.value in
    let made : name_of text ≡ n = cc in
    let none : 0 ≡ rest.more = cc in
    let from : r ≡ drop 1 l = ap (λ (j : ℕ). drop j l) byte.0 in
    let text-is : text ≡ take len (drop 1 l) = taken.1.0 ∙ ap (take len) from in
    let long : length text ≡ len = ap length taken.1.0 ∙ length-take-le len r taken.0 in
    let short : length text ≤ 20 = omega (arith, leb-true len 20 ok-length.0) in
    let size : k ≡ 1 + length text = omega (arith, first.sum, rest.sum, byte.0, taken.1.1) in
    let behind : drop k l ≡ drop len (drop 1 l) = ap (λ (j : ℕ). drop j l) (size ∙ ap (λ (j : ℕ). 1 + j) long) ∙ sym (drop-drop len 1 l) in
    record {
      same =
          ap₂ (λ (x : Name) (rest : List ℕ). name_bytes x ++ rest) (sym made) behind
          ∙ ap (λ (b : List ℕ). b ++ drop len (drop 1 l)) (text-bytes text short)
          ∙ ap₂ (λ (j : ℕ) (t : List ℕ). j ∷ (t ++ drop len (drop 1 l))) long text-is
          ∙ ap (λ (t : List ℕ). len ∷ t) (take-append-drop len (drop 1 l))
          ∙ sym byte.1;
      size = size ∙ ap (λ (x : Name). 1 + x.len) made;
      short = subst (λ (x : Name). x.len ≤ 20) made short;
      fits = subst NameFits made (padded-length 20 0 text short);
      ok = ap name_ok (sym made) ∙ text-ok text short ok-text.0;
    }
