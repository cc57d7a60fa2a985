-- The words of the answers on workout files, from the definitions of reading and writing; tests/oracle/questions.rs has the layout.
use Rattle.std.specs.Prelude.{cond, List, [], ◌∷◌, ◌++◌, map, ℕ, ◌+◌, ◌-◌, ◌*◌, ◌/◌, ◌%◌, min, ltb, eqb, get_or, drop, replicate, Err, Ok, Result}
use Rattle.common.specs.Lists.{range}
use Rattle.compare.specs.Answers.{order_word, answer_word}
use Rattle.compare.specs.Input.{word_at}
use Rattle.decode.specs.Decode.{decode_of}
use Rattle.decode.specs.declared.Decoded.{Decoded}
use Rattle.encode.specs.Encode.{test_kind, encoded_of, output_of}
use Rattle.model.specs.Workout.{no_step, no_block}
use Rattle.model.specs.declared.Block.{Block}
use Rattle.model.specs.declared.Step.{Step}
use Rattle.model.specs.declared.Workout.{Workout}
use Rattle.names.specs.declared.Name.{Name}
use Rattle.refusal.specs.Number.{question_number, answer_number}
use Rattle.refusal.specs.declared.Refusal.{Refusal}
use Rattle.steps.specs.Bytes.{intensity_kind, length_kind, length_value, target_kind, first_value, second_value, third_value}

-- a name: its length, then its 20 bytes, four to a word
unfoldable pub text_word : Name → ℕ → ℕ
text_word name place = get_or (name.len ∷ []) place (word_at name.bytes (place - 1))

-- 10 words: refusal, test, counts, name
abbrev pub head_facts : Decoded → List ℕ
head_facts read =
    answer_number read.answer ∷ test_kind read.workout.test ∷ read.workout.step_count ∷ read.workout.block_count ∷ []

unfoldable pub head_word : Decoded → ℕ → ℕ
head_word read place = get_or (head_facts read) place (text_word read.workout.name (place - 4))

-- 13 words: intensity, length kind, value, target kind, its three values, note
abbrev pub step_facts : Step → List ℕ
step_facts s =
    intensity_kind s.intensity
    ∷ length_kind s.length
    ∷ length_value s.length
    ∷ target_kind s.target
    ∷ first_value s.target
    ∷ second_value s.target
    ∷ third_value s.target
    ∷ []

unfoldable pub step_word : Step → ℕ → ℕ
step_word s place = get_or (step_facts s) place (text_word s.note (place - 7))

abbrev pub block_word : Block → ℕ
block_word b = b.first + 256 * b.len + 65536 * b.count

-- the blocks, then the playing order
abbrev pub rest_from : Workout → ℕ → ℕ → ℕ
rest_from w n place = cond (ltb place n) (block_word (get_or w.blocks place no_block)) (order_word w (place - n))

unfoldable pub rest_word : Workout → ℕ → ℕ
rest_word w place = rest_from w (min w.block_count 8) place

-- the steps, then the rest
abbrev pub body_from : Workout → ℕ → ℕ → ℕ
body_from w n place = cond (ltb place n) (step_word (get_or w.steps (place / 13) no_step) (place % 13)) (rest_word w (place - n))

unfoldable pub body_word : Workout → ℕ → ℕ
body_word w place = body_from w (13 * min w.step_count 12) place

-- what was read of a file
unfoldable pub file_word : Decoded → ℕ → ℕ
file_word read place = cond (ltb place 10) (head_word read place) (body_word read.workout (place - 10))

-- the first n places filled by a function of the place, the later ones as they were
abbrev pub filled : (ℕ → ℕ) → List ℕ → ℕ → List ℕ
filled word answer n = map word (range 0 n) ++ drop n answer

-- the length written, in 32 bits, or the number of the question that refuses
abbrev pub written_number : Result ℕ Refusal → ℕ
written_number (Ok size) = size % 4294967296
written_number (Err refusal) = question_number refusal

-- what was read, written over 484 bytes of 165: the answer, then the bytes, four to a word
abbrev pub lent : List ℕ
lent = replicate 484 165

abbrev pub written_by : Workout → ℕ → ℕ
written_by w place = get_or (written_number (encoded_of w 484) ∷ []) place (word_at (output_of w lent) (place - 1))

unfoldable pub written_word : List ℕ → ℕ → ℕ
written_word file place = written_by (decode_of file).workout place

-- questions 11 and 12 are those on files; the others are asked in crate `compare`
unfoldable pub question_word : ℕ → List ℕ → ℕ → ℕ
question_word question input place =
    cond (eqb question 11) (file_word (decode_of input) place)
    (cond (eqb question 12) (written_word input place) (answer_word question input place))
