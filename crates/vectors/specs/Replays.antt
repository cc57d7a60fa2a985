-- The list of answers, and what replaying it finds. An entry is a question, the number of its input's bytes, the
-- input, the number of its answer's words, and the words; each number and word is 4 bytes, little-endian.
use Rattle.std.specs.Prelude.{Bool, true, false, cond, ◌&&◌, List, ℕ, zero, suc, ◌+◌, ◌-◌, ◌*◌, ◌≤◌, min, eqb, ltb, leb, length}
use Rattle.le.specs.Le.{number_of, part}
use Rattle.compare.specs.Input.{word_at}
use Rattle.compare_replay.specs.Replays.{any_word}
use Rattle.vectors.specs.declared.Entry.{Entry}
use Rattle.vectors.specs.declared.Entry.TheVariants.{Asked, Cut, End}
use Rattle.vectors.specs.declared.Replay.{Replay}

abbrev pub number_at : List ℕ → ℕ → ℕ
number_at list at = number_of (part list at 4)

-- the bytes from one place to another
abbrev pub between : List ℕ → ℕ → ℕ → List ℕ
between list from to = part list from (to - from)

-- the answer after the input's end has so many words
abbrev pub with_answer : List ℕ → ℕ → ℕ → ℕ → Entry
with_answer list at end words = cond (ltb (length list - (end + 4)) (4 * words)) Cut (Asked (number_at list at) end words)

-- the input ends at a place
abbrev pub with_input : List ℕ → ℕ → ℕ → Entry
with_input list at end = cond (ltb (length list - end) 4) Cut (with_answer list at end (number_at list end))

-- the input has so many bytes
abbrev pub with_size : List ℕ → ℕ → ℕ → Entry
with_size list at size = cond (ltb (length list - (at + 8)) size) Cut (with_input list at (at + 8 + size))

-- what stands at a place of the list
unfoldable pub entry_at : List ℕ → ℕ → Entry
entry_at list at =
    cond (leb (length list) at) End (cond (ltb (length list - at) 8) Cut (with_size list at (number_at list (at + 4))))

-- an entry lies within the list
abbrev pub Within : ℕ → ℕ → Entry → Type 0
Within size at End = Unit
Within size at Cut = Unit
Within size at (Asked question end words) = (at + 8 ≤ end) × (end + 4 + 4 * words ≤ size)

-- the n words from place i on are those of our answer
unfoldable pub agrees : ℕ → List ℕ → List ℕ → ℕ → ℕ → Bool
agrees question input answer i zero = true
agrees question input answer i (suc n) =
    eqb (any_word question input i) (word_at answer i) && agrees question input answer (i + 1) n

-- one more; no list is so long that it stops
abbrev pub more : ℕ → ℕ
more n = min (n + 1) 4294967295

-- an answer to the question was compared
abbrev pub compared : Bool → ℕ → Replay → Replay
compared true next s = record { at = next; compared = more s.compared; different = s.different }
compared false next s = record { at = next; compared = more s.compared; different = more s.different }

-- An entry of another question is passed over. A list that ends within an entry counts as a difference.
abbrev pub step_with : ℕ → List ℕ → Replay → Entry → Replay
step_with question list s End = s
step_with question list s Cut = record { at = length list; compared = s.compared; different = more s.different }
step_with question list s (Asked asked end words) =
    cond (eqb asked question)
    (compared
    (agrees question (between list (s.at + 8) end) (between list (end + 4) (length list)) 0 words)
    (end + 4 + 4 * words)
    s)
    (record { at = end + 4 + 4 * words; compared = s.compared; different = s.different })

unfoldable pub step_of : ℕ → List ℕ → Replay → Replay
step_of question list s = step_with question list s (entry_at list s.at)

unfoldable pub steps : ℕ → List ℕ → ℕ → Replay
steps question list zero = record { at = 0; compared = 0; different = 0 }
steps question list (suc n) = step_of question list (steps question list n)

-- as many steps as the list has bytes are more than it has entries
unfoldable pub replay_of : ℕ → List ℕ → Replay
replay_of question list = steps question list (length list)
