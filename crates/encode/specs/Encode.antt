-- Document 01, 'Workout file': the bytes that a workout is written as, and what the writer answers.
use Rattle.std.specs.Prelude.{cond, ℕ, leb, length, Err, Ok, Result, ⊤}
use mathlib.Core.List.{List, [], ◌∷◌, ◌++◌, flat_map}
use Rattle.le.specs.Le.{bytes_of, written}
use Rattle.checksum.specs.V42.{check_of}
use Rattle.refusal.specs.declared.Refusal.TheVariants as refusals
use Rattle.refusal.specs.Number.{ask, question_number}
use Rattle.refusal.specs.declared.Refusal.{Refusal}
use Rattle.model.specs.declared.Block.{Block}
use Rattle.model.specs.declared.Test.{Test}
use Rattle.model.specs.declared.Test.TheVariants as tests
use Rattle.model.specs.declared.Workout.{Workout}
use Rattle.model.specs.Workout.{steps_of, blocks_of}
use Rattle.validation.specs.Sound.{workout_answer}
use Rattle.cursor.specs.Names.{name_bytes}
use Rattle.steps.specs.Bytes.{step_bytes}

-- "test (0 none, 1 `Twenty`, 2 `Ramp`)"
abbrev pub test_kind : Test → ℕ
test_kind tests.None = 0
test_kind tests.Twenty = 1
test_kind tests.Ramp = 2

-- "blocks of 3 bytes (`first`, `len`, `count`)"
abbrev pub block_bytes : Block → List ℕ
block_bytes b = b.first ∷ b.len ∷ b.count ∷ []

-- ""VW", version 1, test .., name; step count .., block count .."
unfoldable pub head_bytes : Workout → List ℕ
head_bytes w = (86 ∷ 87 ∷ 1 ∷ test_kind w.test ∷ []) ++ (name_bytes w.name ++ (w.step_count ∷ w.block_count ∷ []))

-- ".. steps; blocks"
unfoldable pub body_bytes : Workout → List ℕ
body_bytes w = head_bytes w ++ (flat_map step_bytes (steps_of w) ++ flat_map block_bytes (blocks_of w))

-- "check word of all before it, 4 bytes"
unfoldable pub file_bytes : Workout → List ℕ
file_bytes w = body_bytes w ++ bytes_of 4 (check_of (body_bytes w))

-- "When an answer is an enum, a definition states this paper's number and values for each of its cases.": the question's number, 0 for
-- none, beside the length that the case has.
abbrev pub encoded_number : Result ℕ Refusal → ℕ
encoded_number (Ok size) = 0
encoded_number (Err refusal) = question_number refusal

-- "The writer asks 5 .., 6 to 9, then 19": its answer alone.
abbrev pub then_ask : Result ⊤ Refusal → Result ⊤ Refusal → Result ⊤ Refusal
then_ask (Ok tt) rest = rest
then_ask (Err refusal) rest = Err refusal

unfoldable pub writer_answer : Workout → ℕ → Result ⊤ Refusal
writer_answer w room = then_ask (workout_answer w) (ask (leb (length (file_bytes w)) room) refusals.Output (Ok tt))

-- "The writer asks 5 .., 6 to 9, then 19": the file's own length has to have room.
abbrev pub encoded_by : Result ⊤ Refusal → ℕ → ℕ → Result ℕ Refusal
encoded_by (Ok tt) size room = cond (leb size room) (Ok size) (Err refusals.Output)
encoded_by (Err refusal) size room = Err refusal

unfoldable pub encoded_of : Workout → ℕ → Result ℕ Refusal
encoded_of w room = encoded_by (workout_answer w) (length (file_bytes w)) room

-- "A refusal leaves .. output bytes unaltered"; "Output bytes past those written stay."
abbrev pub output_by : Result ℕ Refusal → Workout → List ℕ → List ℕ
output_by (Ok size) w out = written out 0 (file_bytes w)
output_by (Err refusal) w out = out

unfoldable pub output_of : Workout → List ℕ → List ℕ
output_of w out = output_by (encoded_of w (length out)) w out
