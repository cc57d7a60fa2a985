-- The words of the answer on a whole replay, from the definitions of crates `replay` and `console`; tests/oracle/list.rs has the
-- layout.
use Rattle.std.specs.Prelude.{cond, List, [], ◌∷◌, ◌++◌, ℕ, ◌+◌, ◌-◌, ◌*◌, min, eqb, length, get_or, take, drop, replicate}
use Rattle.compare.specs.Input.{word_at, low8}
use Rattle.compare_player.specs.Calls as calls
use Rattle.console.specs.Console.{replayed_of, is_yes}
use Rattle.console.specs.declared.Replayed.{Replayed}
use Rattle.le.specs.Le.{part}
use Rattle.replay.specs.Replay.{replay_answer, replay_output}
use Rattle.compare_replay.specs.declared.Given.{Given}

-- words 1 to 6: journal, id, the start's lower and upper half, dated, how many bytes are lent
unfoldable pub given_at : List ℕ → Given
given_at input =
    record {
      journal = low8 (word_at input 1);
      id = word_at input 2;
      start = word_at input 3 + 4294967296 * word_at input 4;
      dated = word_at input 5;
      lent = word_at input 6;
    }

-- The answer in numbers, n bytes being lent.
abbrev pub replayed_in : List ℕ → List ℕ → ℕ → Replayed
replayed_in workout sheet n = replayed_of (replay_answer workout sheet n)

-- 80 bytes of 165, the first n of them lent to the replay, and the others as they were
abbrev pub places : List ℕ
places = replicate 80 165

abbrev pub output_in : List ℕ → List ℕ → Given → ℕ → List ℕ
output_in workout sheet g n =
    replay_output workout sheet g.journal g.id g.start (is_yes g.dated) (take n places) ++ drop n places

-- the refusal's number, its act, then the 80 bytes, four to a word
abbrev pub word_in : List ℕ → List ℕ → Given → ℕ → ℕ → ℕ
word_in workout sheet g n place =
    get_or ((replayed_in workout sheet n).refusal ∷ (replayed_in workout sheet n).act ∷ []) place
    (word_at (output_in workout sheet g n) (place - 2))

-- at most all 80 bytes are lent
unfoldable pub word_of : List ℕ → List ℕ → Given → ℕ → ℕ
word_of workout sheet g place = word_in workout sheet g (min g.lent 80) place

-- The bytes from one place to another, and what is left from a place on.
abbrev pub split_at : List ℕ → ℕ → ℕ → ℕ → ℕ
split_at input from end place = word_of (part input from (end - from)) (part input end (length input - end)) (given_at input) place

-- so many bytes from a place on are the workout, or all that are left
abbrev pub word_from : List ℕ → ℕ → ℕ → ℕ
word_from input from place = split_at input from (from + min (word_at input 0) (length input - from)) place

-- seven words come first
unfoldable pub replay_word : List ℕ → ℕ → ℕ
replay_word input place = word_from input (min 28 (length input)) place

-- question 14 is that on a whole replay; the others are asked in crate `compare_player`
unfoldable pub any_word : ℕ → List ℕ → ℕ → ℕ
any_word question input place = cond (eqb question 14) (replay_word input place) (calls.any_word question input place)
