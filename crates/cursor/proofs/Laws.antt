-- What the cursor's calls say of the list of bytes behind its place, and how a name is read from there.
use Rattle.std.specs.Prelude.{Err, None, Ok, Result, Some}
use mathlib.Core.Path.{◌≡◌, refl, sym, ap, ap₂, ◌∙◌}
use mathlib.Core.Bool.{Bool, true, false, cond}
use mathlib.Core.List.{List}
use Prim.Native.Nat.{ℕ, ◌+◌, ◌≤◌, ◌<◌}
use native.Mathlib.Nat.{add-zero}
use native.Mathlib.Omega.{arith}
use lib.Dec.{leb, ltb}
use lib.ListN.{length, get_or, take, drop, drop_of_length-le}
use lib.Seq.{drop-cons, drop-drop, length-take-le}
use borrow.Author.Tests.{le-leb, lt-leb, leb-true, leb-false, ltb-true, ltb-false}
use Rattle.common.specs.Lists.{all, padded}
use Rattle.refusal.specs.declared.Refusal.TheVariants as refusals
use Rattle.refusal.specs.declared.Refusal.{Refusal}
use Rattle.names.specs.declared.Name.{Name}
use Rattle.names.specs.Names.{allowed}
use Rattle.cursor.specs.Reading.{Read, got, refused, read_by, behind, enough, and_then, take_bytes, read_byte}
use Rattle.cursor.specs.Names.{name_of, read_text, read_name, taken_by, taken_at, byte_by, byte_at, name_at}
use Rattle.cursor.specs.declared.Cursor.{Cursor}

-- a name that was read, and the cursor past it
abbrev pub read_as : List ℕ → ℕ → ℕ → Result (Name × Cursor) Refusal
read_as bytes len at = Ok (record { bytes = bytes; len = len }, record { at = at })

pub byte-here : (l : List ℕ) (at : ℕ) → at < length l → read_byte (drop at l) ≡ got (get_or l at 0) 1
unfolding read_byte
byte-here l at h = ap read_byte (drop-cons l at 0 h)

pub byte-end : (l : List ℕ) (at : ℕ) → length l ≤ at → read_byte (drop at l) ≡ refused refusals.Length
unfolding read_byte
byte-end l at h = ap read_byte (drop_of_length-le l h)

-- bytes enough, or not: one law over what is read from them
module _ {A : Type 0} (n : ℕ) (l : List ℕ) (rest : Read A) where
  pub enough-here : n ≤ length l → enough n l rest ≡ rest
  enough-here h = ap (λ (t : Bool). cond t rest (refused refusals.Length)) (le-leb n (length l) h)

  pub enough-end : length l < n → enough n l rest ≡ refused refusals.Length
  enough-end h = ap (λ (t : Bool). cond t rest (refused refusals.Length)) (lt-leb n (length l) h)

pub take-here : (n : ℕ) (l : List ℕ) → n ≤ length l → take_bytes n l ≡ got (take n l) n
unfolding take_bytes
take-here n l h = enough-here n l (got (take n l) n) h

pub take-end : (n : ℕ) (l : List ℕ) → length l < n → take_bytes n l ≡ refused refusals.Length
unfolding take_bytes
take-end n l h = enough-end n l (got (take n l) n) h

-- what a byte handed out says of the bytes at the cursor
pub record ByteAt (s : List ℕ) (at : ℕ) (b : ℕ) (c : Cursor) : Type 0 where
  pub reads : read_byte (drop at s) ≡ got b 1
  pub value : b ≡ get_or s at 0
  pub within : at < length s
  pub after : c.at ≡ at + 1

-- and what bytes handed out say
pub record TakenAt (s : List ℕ) (at n from : ℕ) (c : Cursor) : Type 0 where
  pub reads : take_bytes n (drop at s) ≡ got (take n (drop at s)) n
  pub place : from ≡ at
  pub within : n ≤ length (drop at s)
  pub after : c.at ≡ at + n

module _ (s : List ℕ) (at : ℕ) where
  pub next_here : at < length s → byte_at s at ≡ Some (get_or s at 0, record { at = at + 1 })
  unfolding byte_at
  next_here h = ap (byte_by at) (byte-here s at h)

  pub next-end : length s ≤ at → byte_at s at ≡ None
  unfolding byte_at
  next-end h = ap (byte_by at) (byte-end s at h)

  pub byte-given : (b : ℕ) (c : Cursor) → byte_at s at ≡ Some (b, c) → ByteAt s at b c
  byte-given b c e = go (ltb at (length s)) refl
    where
      go : (t : Bool) → ltb at (length s) ≡ t → ByteAt s at b c
      go true t =
          let within : at < length s = ltb-true at (length s) t in
          let f = next_here within in
          let pair : (b, c) ≡ (get_or s at 0, record { at = at + 1 }) = cc in
          let value : b ≡ get_or s at 0 = ap (λ (p : ℕ × Cursor). p.0) pair in
          record { reads = byte-here s at within ∙ ap (λ (x : ℕ). got x 1) (sym value); value = value; within = within; after = ap (λ (p : ℕ × Cursor). p.1.at) pair }
      go false t = let f = next-end (ltb-false at (length s) t) in let z : ◌≡◌ {A = ℕ} 0 1 = cc in absurd (omega arith)

  pub byte-ended : byte_at s at ≡ None → read_byte (drop at s) ≡ refused refusals.Length
  byte-ended e = go (ltb at (length s)) refl
    where
      go : (t : Bool) → ltb at (length s) ≡ t → read_byte (drop at s) ≡ refused refusals.Length
      go true t = let f = next_here (ltb-true at (length s) t) in let z : ◌≡◌ {A = ℕ} 0 1 = cc in absurd (omega arith)
      go false t = byte-end s at (ltb-false at (length s) t)

  module _ (n : ℕ) where
    pub taken_here : n ≤ length (drop at s) → taken_at s at n ≡ Some (at, record { at = at + n })
    unfolding taken_at
    taken_here h = ap (taken_by at) (take-here n (drop at s) h)

    pub taken-end : length (drop at s) < n → taken_at s at n ≡ None
    unfolding taken_at
    taken-end h = ap (taken_by at) (take-end n (drop at s) h)

    pub taken-given : (from : ℕ) (c : Cursor) → taken_at s at n ≡ Some (from, c) → TakenAt s at n from c
    taken-given from c e = go (leb n (length (drop at s))) refl
      where
        go : (t : Bool) → leb n (length (drop at s)) ≡ t → TakenAt s at n from c
        go true t =
            let within : n ≤ length (drop at s) = leb-true n (length (drop at s)) t in
            let f = taken_here within in
            let pair : (from, c) ≡ (at, record { at = at + n }) = cc in
            record { reads = take-here n (drop at s) within; place = ap (λ (p : ℕ × Cursor). p.0) pair; within = within; after = ap (λ (p : ℕ × Cursor). p.1.at) pair }
        go false t = let f = taken-end (leb-false n (length (drop at s)) t) in let z : ◌≡◌ {A = ℕ} 0 1 = cc in absurd (omega arith)

    pub taken-short : taken_at s at n ≡ None → length (drop at s) < n
    taken-short e = go (leb n (length (drop at s))) refl
      where
        go : (t : Bool) → leb n (length (drop at s)) ≡ t → length (drop at s) < n
        go true t = let f = taken_here (leb-true n (length (drop at s)) t) in let z : ◌≡◌ {A = ℕ} 0 1 = cc in absurd (omega arith)
        go false t = leb-false n (length (drop at s)) t

    pub taken-ended : taken_at s at n ≡ None → take_bytes n (drop at s) ≡ refused refusals.Length
    taken-ended e = take-end n (drop at s) (taken-short e)

module _ (l : List ℕ) where
  pub name-byte : (len n : ℕ) → read_byte l ≡ got len n → read_name l ≡ behind n (read_text len (drop n l))
  unfolding read_name and_then
  name-byte len n e = ap (λ (m : Read ℕ). and_then l m read_text) e

  pub name-end : (r : Refusal) → read_byte l ≡ refused r → read_name l ≡ refused r
  unfolding read_name and_then
  name-end r e = ap (λ (m : Read ℕ). and_then l m read_text) e

  pub text-long : (len : ℕ) → 20 < len → read_text len l ≡ refused refusals.Field
  unfolding read_text
  text-long len h = simp (lt-leb len 20 h)

  module _ (len : ℕ) (short : len ≤ 20) where
    pub text-end : (r : Refusal) → take_bytes len l ≡ refused r → read_text len l ≡ refused r
    unfolding read_text and_then
    text-end r e = simp (le-leb len 20 short, e)

    module _ (e : take_bytes len l ≡ got (take len l) len) where
      pub text-bad : all allowed (take len l) ≡ false → read_text len l ≡ refused refusals.Field
      unfolding read_text and_then
      text-bad a = simp (le-leb len 20 short, e, a)

      pub text-got : all allowed (take len l) ≡ true → read_text len l ≡ got (name_of (take len l)) len
      unfolding read_text and_then
      text-got a = simp (le-leb len 20 short, e, a, add-zero len)

-- how reading a name at a place goes on from what the cursor handed out
module _ (s : List ℕ) (at : ℕ) where
  pub name-none : byte_at s at ≡ None → Err refusals.Length ≡ name_at s at
  unfolding name_at
  name-none e = ap (read_by at) (sym (name-end (drop at s) refusals.Length (byte-ended s at e)))

  module _ (len : ℕ) (c : Cursor) (first : ByteAt s at len c) where
    goes_on : (m : Read Name) → read_text len (drop c.at s) ≡ m → read_by at (behind 1 m) ≡ name_at s at
    unfolding name_at
    goes_on m e =
        ap (read_by at)
        (sym (name-byte (drop at s) len 1 first.reads
        ∙ ap (λ (l : List ℕ). behind 1 (read_text len l)) (drop-drop 1 at s ∙ ap (λ (k : ℕ). drop k s) (sym first.after))
        ∙ ap (behind 1) e))

    pub name-long : 20 < len → Err refusals.Field ≡ name_at s at
    name-long h = goes_on (refused refusals.Field) (text-long (drop c.at s) len h)

    module _ (short : len ≤ 20) where
      pub name-short : taken_at s c.at len ≡ None → Err refusals.Length ≡ name_at s at
      name-short e = goes_on (refused refusals.Length) (text-end (drop c.at s) len short refusals.Length (taken-ended s c.at len e))

      module _ (from : ℕ) (d : Cursor) (text : TakenAt s c.at len from d) where
        same : take len (drop from s) ≡ take len (drop c.at s)
        same = ap (λ (k : ℕ). take len (drop k s)) text.place

        pub name-bad : all allowed (take len (drop from s)) ≡ false → Err refusals.Field ≡ name_at s at
        name-bad a = goes_on (refused refusals.Field) (text-bad (drop c.at s) len short text.reads (ap (all allowed) (sym same) ∙ a))

        pub name-read : (bytes : List ℕ) → bytes ≡ padded 20 0 (take len (drop from s)) → all allowed (take len (drop from s)) ≡ true
            → read_as bytes len d.at ≡ name_at s at
        name-read bytes b a =
            let l = take len (drop c.at s) in
            let long : len ≡ length l = sym (length-take-le len (drop c.at s) text.within) in
            let place : d.at ≡ at + (1 + len) = omega (arith, text.after, first.after) in
            ap₂ (λ (x : List ℕ) (k : ℕ). read_as x len k) (b ∙ ap (padded 20 0) same) place
            ∙ ap (λ (k : ℕ). read_as (padded 20 0 l) k (at + (1 + len))) long
            ∙ goes_on (got (name_of l) len) (text-got (drop c.at s) len short text.reads (ap (all allowed) (sym same) ∙ a))
