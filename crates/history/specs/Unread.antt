-- Document 02, g: what is read as unread, of which bytes.
use Rattle.std.specs.Prelude.{◌≡◌, List, ℕ, ◌<◌, ◌≤◌, get_or, Ok}
use Rattle.le.specs.Le.{number_of, part}
use Rattle.history.specs.Decode.{version_place, body_of, decode_of}

-- what the reader gives as unread, 0 where it refuses
abbrev pub unread_of : List ℕ → ℕ
unread_of s = (decode_of s).«record».summary.unread_ms

pub record UnreadByVersion : Type 0 where
  -- "A version 1 record reads as unread 0, as does any body shorter than 70.": whatever the bytes
  pub version_1 : (s : List ℕ) → get_or s version_place 0 ≡ 1 → unread_of s ≡ 0
  pub shorter : (s : List ℕ) → body_of s < 70 → unread_of s ≡ 0
  -- every other record that is read has it "as a 4-byte number at 66"
  pub later : (s : List ℕ) → (decode_of s).answer ≡ Ok tt → 2 ≤ get_or s version_place 0 → 70 ≤ body_of s → unread_of s ≡ number_of (part s 66 4)
