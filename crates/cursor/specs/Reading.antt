-- Reading a list of bytes from the front: what document 01's 'The questions, in order' asks at each place.
use Rattle.std.specs.Prelude.{Bool, true, false, cond, List, [], ◌∷◌, ℕ, zero, suc, ◌+◌, leb, length, take, drop, Result, Ok, Err}
use Rattle.refusal.specs.declared.Refusal.{Refusal}
use Rattle.refusal.specs.declared.Refusal.TheVariants as refusals
use Rattle.cursor.specs.declared.Cursor.{Cursor}

-- What reading gives: a value and the number of bytes that it takes, or the refusal.
pub data Read (A : Type 0) : Type 0 where
  got : A → ℕ → Read A
  refused : Refusal → Read A

-- What a call answers for a reading at a place of a slice: the value and the cursor past it, or the refusal.
abbrev pub read_by : {A : Type 0} → ℕ → Read A → Result (A × Cursor) Refusal
read_by at (got x n) = Ok (x, record { at = at + n })
read_by at (refused r) = Err r

-- behind n bytes
abbrev pub behind : {A : Type 0} → ℕ → Read A → Read A
behind n (got x m) = got x (n + m)
behind n (refused r) = refused r

-- "bytes enough? 1"
abbrev pub enough : {A : Type 0} → ℕ → List ℕ → Read A → Read A
enough n l rest = cond (leb n (length l)) rest (refused refusals.Length)

-- "value allowed? 5"
abbrev pub allow : {A : Type 0} → Bool → Read A → Read A
allow true rest = rest
allow false rest = refused refusals.Field

-- one reader, and another on the bytes that are left
unfoldable pub and_then : {A B : Type 0} → List ℕ → Read A → (A → List ℕ → Read B) → Read B
and_then l (got x n) next = behind n (next x (drop n l))
and_then l (refused r) next = refused r

-- n values in a row
unfoldable pub read_many : {A : Type 0} → (List ℕ → Read A) → ℕ → List ℕ → Read (List A)
read_many reader zero l = got [] 0
read_many reader (suc n) l = and_then l (reader l) (λ x rest. and_then rest (read_many reader n rest) (λ xs _. got (x ∷ xs) 0))

-- the next n bytes
unfoldable pub take_bytes : ℕ → List ℕ → Read (List ℕ)
take_bytes n l = enough n l (got (take n l) n)

-- the next byte
unfoldable pub read_byte : List ℕ → Read ℕ
read_byte [] = refused refusals.Length
read_byte (b ∷ bs) = got b 1
