-- Document 01, 'The questions, in order', and document 02's requests: the number of each question.
use Rattle.std.specs.Prelude.{◌≡◌, Bool, true, false, ℕ, Err, Ok, Result, ⊤}
use Rattle.refusal.specs.declared.Invalid.{Invalid}
use Rattle.refusal.specs.declared.Invalid.TheVariants.{NoSteps, Block, Step, TooLong}
use Rattle.refusal.specs.declared.Refusal.{Refusal}
use Rattle.refusal.specs.declared.Refusal.TheVariants.{Length, Magic, Version, Checksum, Field, Profile, Cadence, Update, Totals, EventPlaces, Extra, SheetLength, Act, Record, Output, Standing, BikeNumber}
use Rattle.refusal.specs.declared.Refusal.TheVariants as cases

-- "Then `validate`: a step? 6. Blocks sound? 7. Steps sound? 8. At most 96 played? 9."
abbrev pub invalid_number : Invalid → ℕ
invalid_number NoSteps = 6
invalid_number Block = 7
invalid_number Step = 8
invalid_number TooLong = 9

-- Unfolded where a proof needs a case: so a question more leaves the other proofs as they are.
unfoldable pub question_number : Refusal → ℕ
-- "length 4 to 475? 1", and "bytes enough? 1", "Nothing left over? 1"
question_number Length = 1
-- "Begins "VW" before the last four bytes? 2"
question_number Magic = 2
-- "Version 1? 3"
question_number Version = 3
-- "Check word right? 4"
question_number Checksum = 4
-- "value allowed? 5"
question_number Field = 5
question_number (cases.Invalid invalid) = invalid_number invalid
-- "FTP 50 to 600 and LTHR 1 to 255? 10"
question_number Profile = 10
-- "cadence at most 65,530 tenths? 11"
question_number Cadence = 11
-- "ms at most 86,400,000 and mm at most 1,000,000,000? 12"
question_number Update = 12
-- "totals with it at most 604,800,000 ms and 7,000,000,000 mm? 13"
question_number Totals = 13
-- "both arrays of 193 places or more? 14", and since document 02's c as many as an update can give events
question_number EventPlaces = 14
-- "its extra at most 86,400 s or 1,000,000 m after it? 15"
question_number Extra = 15
-- "Sheet: length 2 + 9n, n in range? 16"
question_number SheetLength = 16
-- "Each act well formed? 17"
question_number Act = 17
-- "Record readable by `decode`? 18"
question_number Record = 18
-- "Output long enough (70 for a record)? 19"; 74 by document 02, g
question_number Output = 19
-- "Player handed in standing? 20"
question_number Standing = 20
-- Request l: "29, a bike number above 3"
question_number BikeNumber = 29

-- Questions in order: the first that fails decides.
abbrev pub ask : Bool → Refusal → Result ⊤ Refusal → Result ⊤ Refusal
ask true refusal rest = rest
ask false refusal rest = Err refusal

-- 0 where nothing is refused: no question has that number
abbrev pub answer_number : Result ⊤ Refusal → ℕ
answer_number (Ok tt) = 0
answer_number (Err refusal) = question_number refusal

-- Each question has a number of its own: an answer's case says the same as its number.
pub record NumbersApart : Type 0 where
  pub refusals : (a b : Refusal) → question_number a ≡ question_number b → a ≡ b
  pub answers : (a b : Result ⊤ Refusal) → answer_number a ≡ answer_number b → a ≡ b
