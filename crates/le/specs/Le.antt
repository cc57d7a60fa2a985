-- Little-endian numbers ("Multi-byte numbers are little-endian", document 01, 'Records'), over lists of bytes and for every width.
use Rattle.std.specs.Prelude.{◌≡◌, List, [], ◌∷◌, ◌++◌, ℕ, zero, suc, ◌+◌, ◌*◌, ◌/◌, ◌%◌, ◌^◌, ◌<◌, length, take, drop}

-- the number that a run of bytes stands for: the first byte is the lowest
unfoldable pub number_of : List ℕ → ℕ
number_of [] = 0
number_of (b ∷ bs) = b + 256 * number_of bs

-- the k bytes of a number, the lowest first
unfoldable pub bytes_of : ℕ → ℕ → List ℕ
bytes_of zero v = []
bytes_of (suc k) v = v % 256 ∷ bytes_of k (v / 256)

-- the k elements from place `at` on
abbrev pub part : List ℕ → ℕ → ℕ → List ℕ
part s at k = take k (drop at s)

-- the list d with bs from place `at` on, and elsewhere what stood there before
abbrev pub written : List ℕ → ℕ → List ℕ → List ℕ
written d at bs = take at d ++ (bs ++ drop (at + length bs) d)

-- a list of bytes: each element is below 256
abbrev pub Bytes : List ℕ → Type 0
Bytes [] = Unit
Bytes (b ∷ bs) = (b < 256) × Bytes bs

-- reading and writing undo each other, at every width
pub record Inverse : Type 0 where
  pub number_bytes : (k v : ℕ) → v < 256 ^ k → number_of (bytes_of k v) ≡ v
  pub bytes_number : (bs : List ℕ) → Bytes bs → bytes_of (length bs) (number_of bs) ≡ bs
