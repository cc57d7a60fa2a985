-- Where a reader stands after a call.
use Rattle.std.specs.Prelude.{ℕ, Option, None, Some}
use Rattle.cursor.specs.declared.Cursor.{Cursor}
use Rattle.reader.specs.declared.Reader.{Reader}

-- past what was handed out, or as it was where nothing was
abbrev pub past : {A : Type 0} → ℕ → Option (A × Cursor) → ℕ
past at (Some (x, c)) = c.at
past at None = at

-- a reader of the same bytes at another place
abbrev pub moved_to : Reader → ℕ → Reader
moved_to r at = record { bytes = r.bytes; at = at }
