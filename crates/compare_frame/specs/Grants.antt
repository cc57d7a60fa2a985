-- The sharing rule on four wants in words, a bike given by a workout file and a list of calls, and a grant in one word;
-- tests/oracle/played.rs has the layout of a list.
use Rattle.std.specs.Prelude.{List, map, ℕ, ◌+◌, ◌-◌, ◌*◌, ◌/◌, ◌%◌, min, length, get_or}
use Rattle.compare.specs.Input.{low16}
use Rattle.compare_player.specs.Calls.{call_at, seen_after}
use Rattle.frame.specs.declared.Bike.{Bike}
use Rattle.frame.specs.declared.Granted.{Granted}
use Rattle.refusal.specs.Number.{answer_number}
use Rattle.supply.specs.Supply.{grants_of}

-- What one of the wants gets: the lower 16 bits of each word are a want, and the bike is taken modulo 4.
abbrev pub share_word : List ℕ → ℕ → ℕ → ℕ
share_word words supply bike = get_or (grants_of (map low16 words) supply) (bike % 4) 0

-- A list has 32 bytes to a call; those past 12,500 aren't played.
abbrev pub whole_calls : List ℕ → ℕ
whole_calls calls = min (length calls / 32) 12500

-- The player after all calls of its list, and the profile of the last one; without a call that of place 0, where words past the list's
-- end are 0.
abbrev pub bike_on : List ℕ → List ℕ → ℕ → Bike
bike_on file calls k = record { player = (seen_after file calls k).player; profile = (call_at calls (k - 1)).profile }

unfoldable pub bike_after : List ℕ → List ℕ → Bike
bike_after file calls = bike_on file calls (whole_calls calls)

-- 65,536 times the question's number, 0 where nothing is refused, and the watts
abbrev pub grant_word : Granted → ℕ
grant_word granted = 65536 * answer_number granted.answer + granted.watts
