-- A name in a file, and what the calls of the cursor answer.
use Rattle.std.specs.Prelude.{List, ◌∷◌, ℕ, ◌+◌, leb, length, drop, Option, None, Some, Result}
use Rattle.common.specs.Lists.{all, padded}
use Rattle.names.specs.declared.Name.{Name}
use Rattle.names.specs.Names.{allowed, as_bytes}
use Rattle.refusal.specs.declared.Refusal.{Refusal}
use Rattle.cursor.specs.Reading.{Read, got, refused, read_by, allow, and_then, take_bytes, read_byte}
use Rattle.cursor.specs.declared.Cursor.{Cursor}

-- The name of some bytes, padded with 0.
abbrev pub name_of : List ℕ → Name
name_of text = record { bytes = padded 20 0 text; len = length text }

-- The text of a name, after its length byte.
unfoldable pub read_text : ℕ → List ℕ → Read Name
read_text len l = allow (leb len 20) (and_then l (take_bytes len l) (λ text _. allow (all allowed text) (got (name_of text) 0)))

-- "A name is a length byte (at most 20), then bytes from space to `~` without small letters."
unfoldable pub read_name : List ℕ → Read Name
read_name l = and_then l (read_byte l) read_text

-- A name as a file holds it: its length and its bytes.
unfoldable pub name_bytes : Name → List ℕ
name_bytes n = n.len ∷ as_bytes n

-- The calls' answers at a place of a slice.

abbrev pub taken_by : ℕ → Read (List ℕ) → Option (ℕ × Cursor)
taken_by at (got text n) = Some (at, record { at = at + n })
taken_by at (refused r) = None

unfoldable pub taken_at : List ℕ → ℕ → ℕ → Option (ℕ × Cursor)
taken_at s at n = taken_by at (take_bytes n (drop at s))

abbrev pub byte_by : ℕ → Read ℕ → Option (ℕ × Cursor)
byte_by at (got b n) = Some (b, record { at = at + n })
byte_by at (refused r) = None

unfoldable pub byte_at : List ℕ → ℕ → Option (ℕ × Cursor)
byte_at s at = byte_by at (read_byte (drop at s))

unfoldable pub name_at : List ℕ → ℕ → Result (Name × Cursor) Refusal
name_at s at = read_by at (read_name (drop at s))
