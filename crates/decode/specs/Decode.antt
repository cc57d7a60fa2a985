-- Document 01, 'Workout file' and 'The questions, in order': the file's grammar on the list of its bytes, read left to right.
use Rattle.std.specs.Prelude.{Bool, true, false, ◌&&◌, List, [], ◌∷◌, ℕ, ◌+◌, ◌-◌, leb, eqb, length, get_or, take, drop, Err, None, Ok, Option, Result, Some, ⊤}
use Rattle.common.specs.Lists.{padded}
use Rattle.le.specs.Le.{number_of, part}
use Rattle.checksum.specs.V42.{check_of}
use Rattle.refusal.specs.declared.Refusal.{Refusal}
use Rattle.refusal.specs.declared.Refusal.TheVariants as refusals
use Rattle.names.specs.declared.Name.{Name}
use Rattle.model.specs.declared.Test.{Test}
use Rattle.model.specs.declared.Test.TheVariants as tests
use Rattle.model.specs.declared.Step.{Step}
use Rattle.model.specs.declared.Block.{Block}
use Rattle.model.specs.declared.Workout.{Workout}
use Rattle.model.specs.Workout.{no_step, no_block, empty_workout}
use Rattle.validation.specs.Sound.{valid_answer}
use Rattle.cursor.specs.declared.Cursor.{Cursor}
use Rattle.cursor.specs.Reading.{Read, got, refused, read_by, allow, and_then, read_many, take_bytes, read_byte}
use Rattle.cursor.specs.Names.{read_name}
use Rattle.steps.specs.Steps.{read_step}
use Rattle.decode.specs.declared.Head.{Head}
use Rattle.decode.specs.declared.Decoded.{Decoded}

-- "test (0 none, 1 `Twenty`, 2 `Ramp`)"
abbrev pub test_kinds : List (Option Test)
test_kinds = Some tests.None ∷ Some tests.Twenty ∷ Some tests.Ramp ∷ []

unfoldable pub test_of : ℕ → Option Test
test_of kind = get_or test_kinds kind None

-- "step count (at most 12), block count (at most 8)"; "(both counts are read before either is judged)"
abbrev pub judge_counts : Test → Name → ℕ → ℕ → List ℕ → Read Head
judge_counts t name steps blocks _ = allow (leb steps 12 && leb blocks 8) (got (record { test = t; name = name; steps = steps; blocks = blocks }) 0)

abbrev pub read_block_count : Test → Name → ℕ → List ℕ → Read Head
read_block_count t name steps l = and_then l (read_byte l) (judge_counts t name steps)

unfoldable pub read_counts : Test → Name → List ℕ → Read Head
read_counts t name l = and_then l (read_byte l) (read_block_count t name)

abbrev pub name_then : Option Test → List ℕ → Read Head
name_then (Some t) l = and_then l (read_name l) (read_counts t)
name_then None l = refused refusals.Field

unfoldable pub read_head : List ℕ → Read Head
read_head l = and_then l (read_byte l) (λ kind rest. name_then (test_of kind) rest)

-- "blocks of 3 bytes (`first`, `len`, `count`)"
abbrev pub block_of : List ℕ → Block
block_of l = record { first = get_or l 0 0; len = get_or l 1 0; count = get_or l 2 0 }

unfoldable pub read_block : List ℕ → Read Block
read_block l = and_then l (take_bytes 3 l) (λ bytes _. got (block_of bytes) 0)

-- The workout of a head and of full arrays.
abbrev pub workout_with : Head → List Step → List Block → Workout
workout_with h steps blocks =
    record { name = h.name; steps = steps; step_count = h.steps; blocks = blocks; block_count = h.blocks; test = h.test }

abbrev pub workout_of : Head → List Step → List Block → Workout
workout_of h steps blocks = workout_with h (padded 12 no_step steps) (padded 8 no_block blocks)

-- "Nothing left over? 1."
abbrev pub ended : List ℕ → Workout → Read Workout
ended [] w = got w 0
ended (b ∷ bs) w = refused refusals.Length

-- The body behind the version: test, name, counts, steps, blocks.
unfoldable pub read_body : List ℕ → Read Workout
read_body l =
    and_then l (read_head l)
    (λ h rest.
    and_then rest (read_many read_step h.steps rest)
    (λ steps rest₂. and_then rest₂ (read_many read_block h.blocks rest₂) (λ blocks rest₃. ended rest₃ (workout_of h steps blocks))))

-- Questions 6 to 9 of a workout that was read.
abbrev pub judged : Workout → Result ⊤ Refusal → Result Workout Refusal
judged w (Ok tt) = Ok w
judged w (Err refusal) = Err refusal

abbrev pub validated : Read Workout → Result Workout Refusal
validated (got w n) = judged w (valid_answer w)
validated (refused refusal) = Err refusal

unfoldable pub contents_of : List ℕ → Result Workout Refusal
contents_of body = validated (read_body (drop 3 body))

-- Questions in order: the first that fails decides.
abbrev pub asked : Bool → Refusal → Result Workout Refusal → Result Workout Refusal
asked true refusal rest = rest
asked false refusal rest = Err refusal

-- All but the check word.
abbrev pub body_of : List ℕ → List ℕ
body_of s = take (length s - 4) s

abbrev pub begins : List ℕ → Bool
begins body = eqb (get_or body 0 0) 86 && eqb (get_or body 1 0) 87

-- "length 4 to 475? 1. Begins "VW" before the last four bytes? 2. Version 1? 3. Check word right? 4."
unfoldable pub file_of : List ℕ → Result Workout Refusal
file_of s =
    asked (leb 4 (length s) && leb (length s) 475) refusals.Length
    (asked (begins (body_of s)) refusals.Magic
    (asked (eqb (get_or (body_of s) 2 0) 1) refusals.Version
    (asked (eqb (check_of (body_of s)) (number_of (part s (length s - 4) 4))) refusals.Checksum (contents_of (body_of s)))))

-- "A refused reader gives the empty workout"
abbrev pub no_workout : Refusal → Decoded
no_workout refusal = record { answer = Err refusal; workout = empty_workout }

abbrev pub decoded : Result Workout Refusal → Decoded
decoded (Ok w) = record { answer = Ok tt; workout = w }
decoded (Err refusal) = no_workout refusal

unfoldable pub decode_of : List ℕ → Decoded
decode_of s = decoded (file_of s)

-- What the reading functions answer at a place of a slice.

unfoldable pub head_at : List ℕ → ℕ → Result (Head × Cursor) Refusal
head_at s at = read_by at (read_head (drop at s))

unfoldable pub block_at : List ℕ → ℕ → Result (Block × Cursor) Refusal
block_at s at = read_by at (read_block (drop at s))

-- Several values in the first places of an array.
abbrev pub filled_by : {A : Type 0} → ℕ → A → ℕ → Read (List A) → Result (List A × Cursor) Refusal
filled_by size blank at (got xs n) = Ok (padded size blank xs, record { at = at + n })
filled_by size blank at (refused refusal) = Err refusal
