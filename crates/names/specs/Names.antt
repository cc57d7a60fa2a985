-- model.rs's `Name`, and what document 01 allows in one.
use Rattle.std.specs.Prelude.{Bool, cond, ◌&&◌, ◌||◌, List, map, ℕ, ◌-◌, leb, eqb, length, take, drop, replicate}
use Rattle.common.specs.Lists.{all, padded}
use Rattle.names.specs.declared.Name.{Name}

-- "bytes from space to `~` without small letters"
abbrev pub allowed : ℕ → Bool
allowed b = (leb 32 b && leb b 96) || (leb 123 b && leb b 126)

abbrev pub is_zero : ℕ → Bool
is_zero b = eqb b 0

-- model.rs: upper-cased; bytes the screen font cannot draw become spaces.
abbrev pub drawn : ℕ → ℕ
drawn b = cond (leb 97 b && leb b 122) (b - 32) (cond (leb 32 b && leb b 126) b 32)

-- "`as_bytes` is a name's first `len` bytes"
abbrev pub as_bytes : Name → List ℕ
as_bytes n = take n.len n.bytes

abbrev pub empty_name : Name
empty_name = record { bytes = replicate 20 0; len = 0 }

-- The name of some bytes: the first 20, each as it can be drawn.
unfoldable pub name_from : List ℕ → Name
name_from text = record { bytes = padded 20 0 (map drawn (take 20 text)); len = length (take 20 text) }

-- "The writer asks 5 (names ..)": a length of at most 20, its bytes allowed, and 0 past them.
unfoldable pub name_ok : Name → Bool
name_ok n = leb n.len 20 && (all allowed (take n.len n.bytes) && all is_zero (drop n.len n.bytes))

-- The name is the empty one, padding included.
abbrev pub is_blank : Name → Bool
is_blank n = eqb n.len 0 && all is_zero n.bytes
