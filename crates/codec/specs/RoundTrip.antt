-- Demand 2: "A workout written and read again is the same, and an accepted file read and written again is the same exactly when its
-- filler values are zero."
use Rattle.std.specs.Prelude.{◌≡◌, true, List, ℕ, ◌≤◌, length, Ok}
use Rattle.common.specs.Lists.{all}
use Rattle.le.specs.Le.{Bytes}
use Rattle.names.specs.Names.{is_zero}
use Rattle.model.specs.declared.Workout.{Workout}
use Rattle.validation.specs.Sound.{workout_answer}
use Rattle.decode.specs.declared.Decoded.{Decoded}
use Rattle.decode.specs.Decode.{decode_of}
use Rattle.encode.specs.Encode.{file_bytes}
use Rattle.codec.specs.Typed.{WorkoutFits}
use Rattle.codec.specs.Fillers.{fillers}

-- the reader's answer where it accepts a file
abbrev pub accepted_as : Workout → Decoded
accepted_as w = record { answer = (Ok tt); workout = w }

-- of every workout that passes questions 5 to 9
pub record WrittenIsRead : Type 0 where
  pub same : (w : Workout) → WorkoutFits w → workout_answer w ≡ Ok tt → decode_of (file_bytes w) ≡ accepted_as w
  -- the shortest and the longest file that is written
  pub shortest : (w : Workout) → WorkoutFits w → workout_answer w ≡ Ok tt → 26 ≤ length (file_bytes w)
  pub longest : (w : Workout) → WorkoutFits w → workout_answer w ≡ Ok tt → length (file_bytes w) ≤ 475

-- of every file that is accepted, and the workout that it is read as
pub record ReadIsWritten : Type 0 where
  -- the workout passes questions 5 to 9, so that the writer takes it
  pub sound : (s : List ℕ) → Bytes s → (w : Workout) → decode_of s ≡ accepted_as w → workout_answer w ≡ Ok tt
  pub fits : (s : List ℕ) → Bytes s → (w : Workout) → decode_of s ≡ accepted_as w → WorkoutFits w
  pub same : (s : List ℕ) → Bytes s → (w : Workout) → decode_of s ≡ accepted_as w → all is_zero (fillers s) ≡ true → file_bytes w ≡ s
  pub only : (s : List ℕ) → Bytes s → (w : Workout) → decode_of s ≡ accepted_as w → file_bytes w ≡ s → all is_zero (fillers s) ≡ true
