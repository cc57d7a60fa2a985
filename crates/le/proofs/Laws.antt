-- Laws of little-endian numbers, of parts and of what is written, for every width: proofs here and in later crates cite them.
use mathlib.Core.Path.{◌≡◌, refl, sym, ap, ap₂, ◌∙◌}
use mathlib.Core.List.{List, [], ◌∷◌, ◌++◌, append_assoc}
use Prim.Native.Nat.{ℕ, zero, suc, ◌+◌, ◌*◌, ◌/◌, ◌%◌, ◌^◌, ◌<◌, ◌≤◌}
use native.Mathlib.Nat.{pow-suc, mul_comm, mul_assoc, div-div-eq-div-mul, div-one, add-zero}
use native.Mathlib.Numerals.{add-one}
use native.Mathlib.Omega.{arith}
use lib.ListN.{length, take, drop, get_or, set, length-append, length-drop, take-append-drop}
use lib.Seq.{take-add, drop-drop, take_at, drop_at, length-take-le, set_split, take-suc, take-length}
use Rattle.std.specs.Prelude.{slice_index}
use Rattle.std.specs.Int.{byte_at, byte_worth, bytes_low_first, sum_through}
use Rattle.le.specs.Le.{number_of, bytes_of, part, written, Bytes}

-- Lists of bytes.

-- a list whose elements are below 256 by index, as a slice's are, is one of bytes
pub bytes : (s : List ℕ) → ((i : ℕ) → get_or s i 0 < 256) → Bytes s
bytes [] h = tt
bytes (b ∷ bs) h = (h 0, bytes bs (λ i. h (suc i)))

-- the start of a list of bytes is one
pub bytes_take : (k : ℕ) (s : List ℕ) → Bytes s → Bytes (take k s)
bytes_take zero s h = tt
bytes_take (suc k) [] h = tt
bytes_take (suc k) (b ∷ s) h = (h.0, bytes_take k s h.1)

-- what is left of a list of bytes is one
pub bytes_drop : (k : ℕ) (s : List ℕ) → Bytes s → Bytes (drop k s)
bytes_drop zero s h = h
bytes_drop (suc k) [] h = tt
bytes_drop (suc k) (b ∷ s) h = bytes_drop k s h.1

-- a part of a list of bytes is one
pub bytes-part : (s : List ℕ) (at k : ℕ) → Bytes s → Bytes (part s at k)
bytes-part s at k h = bytes_take k (drop at s) (bytes_drop at s h)

-- Numbers and their bytes.

-- a number written with k bytes has k of them
pub length-bytes : (k v : ℕ) → length (bytes_of k v) ≡ k
unfolding bytes_of
length-bytes zero v = refl
length-bytes (suc k) v = ap suc (length-bytes k (v / 256))

-- the bytes of a number give it back
pub number_bytes : (k v : ℕ) → v < 256 ^ k → number_of (bytes_of k v) ≡ v
unfolding number_of bytes_of
number_bytes zero v h = omega arith
number_bytes (suc k) v h = omega (arith, number_bytes k (v / 256) (omega (arith, pow-suc 256 k)))

-- the number of some bytes gives them back
pub bytes_number : (bs : List ℕ) → Bytes bs → bytes_of (length bs) (number_of bs) ≡ bs
unfolding number_of bytes_of
bytes_number [] h = refl
bytes_number (b ∷ bs) h =
    let lt = h.0 in
    ap₂ (λ (x : ℕ) (l : List ℕ). x ∷ l) (omega arith) (ap (bytes_of (length bs)) (omega arith) ∙ bytes_number bs h.1)

-- a number of n bytes is below 256 ^ n
pub number_lt : (bs : List ℕ) → Bytes bs → number_of bs < 256 ^ length bs
unfolding number_of
number_lt [] h = omega arith
number_lt (b ∷ bs) h = let lt = h.0 in omega (arith, pow-suc 256 (length bs), number_lt bs h.1)

-- bytes that follow weigh more, by what stands before them
pub number_append : (a b : List ℕ) → number_of (a ++ b) ≡ number_of a + 256 ^ length a * number_of b
unfolding number_of
number_append [] b = omega arith
number_append (x ∷ a) b =
    omega (
      arith,
      number_append a b,
      ap (λ (n : ℕ). n * number_of b) (pow-suc 256 (length a) ∙ mul_comm (256 ^ length a) 256) ∙ mul_assoc 256 (256 ^ length a) (number_of b),
    )

-- std's numbers and bytes are these.

-- what std's byte i is worth, by its weight
worth : (i b : ℕ) → byte_worth i b ≡ 256 ^ i * b
worth zero b = omega arith
worth (suc i) b = mul_comm b (256 ^ suc i)

-- the number of the first k + 1 bytes
number_through : (bs : List ℕ) (k : ℕ) → k < length bs → sum_through (λ i. byte_worth i (slice_index bs i)) k ≡ number_of (take (suc k) bs)
unfolding number_of
number_through [] k h = absurd (omega arith)
number_through (b ∷ bs) zero h = omega arith
number_through (b ∷ bs) (suc k) h =
    let s = b ∷ bs in
    ap₂ ◌+◌ (number_through s k (omega arith)) (worth (suc k) (get_or s (suc k) 0))
    ∙ sym (ap number_of (take-suc s (suc k) 0 h)
    ∙ number_append (take (suc k) s) (get_or s (suc k) 0 ∷ [])
    ∙ ap₂ (λ (n x : ℕ). number_of (take (suc k) s) + 256 ^ n * x) (length-take-le (suc k) s (omega arith)) (omega arith))

-- `from_le_bytes` of k + 1 bytes gives their number
pub number-std : (bs : List ℕ) (k : ℕ) → length bs ≡ suc k → sum_through (λ i. byte_worth i (slice_index bs i)) k ≡ number_of bs
number-std bs k h = number_through bs k (omega arith) ∙ ap number_of (ap (λ (n : ℕ). take n bs) (sym h) ∙ take-length bs)

-- k bytes of a number from byte i on
bytes_from : (i k v : ℕ) → bytes_low_first i k v ≡ bytes_of k (v / 256 ^ i)
unfolding bytes_of
bytes_from i zero v = refl
bytes_from i (suc k) v =
    ap₂ (λ (x : ℕ) (l : List ℕ). x ∷ l) (byte i v)
    (bytes_from (suc i) k v
    ∙ ap (bytes_of k) (ap (λ (x : ℕ). v / x) (pow-suc 256 i) ∙ sym (div-div-eq-div-mul v (256 ^ i) 256)))
  where
    byte : (i v : ℕ) → byte_at i v ≡ v / 256 ^ i % 256
    byte zero v = ap (λ (x : ℕ). x % 256) (sym (div-one v))
    byte (suc i) v = refl

-- `to_le_bytes` of k bytes gives these
pub bytes-std : (k v : ℕ) → bytes_low_first 0 k v ≡ bytes_of k v
bytes-std k v = bytes_from 0 k v ∙ ap (bytes_of k) (div-one v)

-- Reading.

-- a part within the list is as long as was asked
pub length_part : (s : List ℕ) (at k : ℕ) → at + k ≤ length s → length (part s at k) ≡ k
length_part s at k h = length-take-le k (drop at s) (omega (arith, length-drop at s))

-- a part of j + k elements is one of j and one of k
pub part-add : (j k : ℕ) (s : List ℕ) (at : ℕ) → part s at (j + k) ≡ part s at j ++ part s (at + j) k
part-add j k s at = take-add j k (drop at s) ∙ ap (λ (l : List ℕ). part s at j ++ take k l) (drop-drop j at s)

-- Writing.

-- the first places up to the end of what was written
pub take-written : (d : List ℕ) (at : ℕ) (bs : List ℕ) (n : ℕ) → at ≤ length d → n ≡ at + length bs → take n (written d at bs) ≡ take at d ++ bs
take-written d at bs n h e =
    rw (← append_assoc (take at d) bs (drop (at + length bs) d))
    (take_at (take at d ++ bs) (drop (at + length bs) d) n (omega (arith, length-append (take at d) bs, length-take-le at d h)))

-- past the end of what was written all is as before
pub drop-written : (d : List ℕ) (at : ℕ) (bs : List ℕ) (n : ℕ) → at ≤ length d → n ≡ at + length bs → drop n (written d at bs) ≡ drop n d
drop-written d at bs n h e =
    rw (← append_assoc (take at d) bs (drop (at + length bs) d))
    (drop_at (take at d ++ bs) (drop (at + length bs) d) n (omega (arith, length-append (take at d) bs, length-take-le at d h))
    ∙ ap (λ (k : ℕ). drop k d) (sym e))

-- two runs written one after the other are one
pub written-two : (d : List ℕ) (at : ℕ) (bs cs : List ℕ) (n : ℕ) → at ≤ length d → n ≡ at + length bs
    → written (written d at bs) n cs ≡ written d at (bs ++ cs)
written-two d at bs cs n h e =
    ap₂ (λ (x y : List ℕ). x ++ (cs ++ y)) (take-written d at bs n h e)
    (sym (drop-drop (length cs) n (written d at bs))
    ∙ ap (drop (length cs)) (drop-written d at bs n h e)
    ∙ drop-drop (length cs) n d
    ∙ ap (λ (k : ℕ). drop k d) end)
    ∙ append_assoc (take at d) bs (cs ++ drop (at + length (bs ++ cs)) d)
    ∙ ap (λ (l : List ℕ). take at d ++ l) (sym (append_assoc bs cs (drop (at + length (bs ++ cs)) d)))
  where
    end : n + length cs ≡ at + length (bs ++ cs)
    end = omega (arith, length-append bs cs)

-- the same as a step: what is written next is added to the run
pub more : (d₀ : List ℕ) (at : ℕ) → at ≤ length d₀ → (bs cs : List ℕ) (n : ℕ) → n ≡ at + length bs → {d₁ d₂ : List ℕ}
    → d₁ ≡ written d₀ at bs → d₂ ≡ written d₁ n cs → d₂ ≡ written d₀ at (bs ++ cs)
more d₀ at h bs cs n e p q = q ∙ ap (λ (d : List ℕ). written d n cs) p ∙ written-two d₀ at bs cs n h e

-- one element stored is a run of one
pub put_one : (d : List ℕ) (at v : ℕ) → at < length d → set d at v ≡ written d at (v ∷ [])
put_one d at v h = set_split d at v h ∙ ap (λ (n : ℕ). take at d ++ (v ∷ drop n d)) (sym (add-one at))

-- nothing written
pub written_none : (d : List ℕ) (at : ℕ) → d ≡ written d at []
written_none d at = sym (ap (λ (n : ℕ). take at d ++ drop n d) (add-zero at) ∙ take-append-drop at d)

-- one element more of a list written behind its first i
pub written-more : (d out text : List ℕ) (at i : ℕ) → at + i < length d → i < length text → length out ≡ length d → out ≡ written d at (take i text)
    → set out (at + i) (get_or text i 0) ≡ written d at (take (i + 1) text)
written-more d out text at i h k l e =
    put_one out (at + i) (get_or text i 0) (omega arith)
    ∙ ap (λ (x : List ℕ). written x (at + i) (get_or text i 0 ∷ [])) e
    ∙ written-two d at (take i text) (get_or text i 0 ∷ []) (at + i) (omega arith) (ap (λ (n : ℕ). at + n) (sym (length-take-le i text (omega arith))))
    ∙ ap (written d at) (sym (ap (λ (n : ℕ). take n text) (add-one i) ∙ take-suc text i 0 k))
