-- What the bytes of a question's input stand for; tests/oracle/questions.rs has the layout.
use Rattle.std.specs.Prelude.{cond, List, [], ◌∷◌, ◌++◌, ℕ, zero, suc, ◌+◌, ◌*◌, ◌%◌, min, leb, length, get_or}
use Rattle.common.specs.Lists.{padded}
use Rattle.le.specs.Le.{number_of, part}
use Rattle.names.specs.Names.{empty_name}
use Rattle.zones.specs.declared.TrainingProfile.{TrainingProfile}
use Rattle.model.specs.Workout.{no_step, no_block}
use Rattle.model.specs.declared.Block.{Block}
use Rattle.model.specs.declared.Intensity.{Intensity}
use Rattle.model.specs.declared.Intensity.TheVariants as intensities
use Rattle.model.specs.declared.Length.{Length}
use Rattle.model.specs.declared.Length.TheVariants.{Time, Distance, Open}
use Rattle.model.specs.declared.Ramp.{Ramp}
use Rattle.model.specs.declared.Step.{Step}
use Rattle.model.specs.declared.Target.{Target}
use Rattle.model.specs.declared.Target.TheVariants as targets
use Rattle.model.specs.declared.Test.{Test}
use Rattle.model.specs.declared.Test.TheVariants as tests
use Rattle.model.specs.declared.Workout.{Workout}

-- the 32-bit word at a place, 0 past the end
unfoldable pub word_at : List ℕ → ℕ → ℕ
word_at input place = cond (leb (4 * place + 4) (length input)) (number_of (part input (4 * place) 4)) 0

-- the lower 16 and 8 bits of a word
abbrev pub low16 : ℕ → ℕ
low16 word = word % 65536

abbrev pub low8 : ℕ → ℕ
low8 word = word % 256

-- FTP and LTHR stand first
unfoldable pub profile_at : List ℕ → TrainingProfile
profile_at input = record { ftp_watts = low16 (word_at input 0); lthr_bpm = low16 (word_at input 1) }

-- start, step, every
unfoldable pub ramp_at : List ℕ → Ramp
ramp_at input = record { start = low16 (word_at input 0); step = low16 (word_at input 1); every = low16 (word_at input 2) }

-- Kinds are numbered as in the file; any other number is the kind after the listed ones.
abbrev pub intensity_kinds : List Intensity
intensity_kinds = intensities.Warmup ∷ intensities.Work ∷ intensities.Recovery ∷ intensities.Cooldown ∷ []

unfoldable pub intensity_of : ℕ → Intensity
intensity_of kind = get_or intensity_kinds kind intensities.Test

abbrev pub length_kinds : ℕ → List Length
length_kinds value = Time (low16 value) ∷ Distance value ∷ []

unfoldable pub length_of : ℕ → ℕ → Length
length_of kind value = get_or (length_kinds value) kind Open

abbrev pub target_kinds : ℕ → ℕ → ℕ → List Target
target_kinds a b c =
    targets.Free
    ∷ targets.Ftp (low8 a) (low8 b)
    ∷ targets.Watts (low16 a) (low16 b)
    ∷ targets.HeartZone (low8 a)
    ∷ targets.Lthr (low8 a) (low8 b)
    ∷ targets.Cadence (low8 a) (low8 b)
    ∷ targets.Ramp (low16 a) (low16 b) (low16 c)
    ∷ []

unfoldable pub target_of : ℕ → ℕ → ℕ → ℕ → Target
target_of kind a b c = get_or (target_kinds a b c) kind (targets.FtpRamp (low8 a) (low8 b) (low16 c))

abbrev pub test_kinds : List Test
test_kinds = tests.None ∷ tests.Twenty ∷ []

unfoldable pub test_of : ℕ → Test
test_of kind = get_or test_kinds kind tests.Ramp

-- kind, a, b, c
unfoldable pub target_at : List ℕ → ℕ → Target
target_at input place = target_of (word_at input place) (word_at input (place + 1)) (word_at input (place + 2)) (word_at input (place + 3))

-- intensity, length kind, value, target; no note
unfoldable pub step_at : List ℕ → ℕ → Step
step_at input place =
    record {
      intensity = intensity_of (word_at input place);
      length = length_of (word_at input (place + 1)) (word_at input (place + 2));
      target = target_at input (place + 3);
      note = empty_name;
    }

-- first, len, count
unfoldable pub block_at : List ℕ → ℕ → Block
block_at input place =
    record { first = low8 (word_at input place); len = low8 (word_at input (place + 1)); count = low8 (word_at input (place + 2)) }

-- what stands at the first n of places `width` apart, from `place` on
unfoldable pub at_places : {A : Type 0} → (ℕ → A) → ℕ → ℕ → ℕ → List A
at_places at place width zero = []
at_places at place width (suc n) = at_places at place width n ++ (at (place + width * n) ∷ [])

-- Test, step count, block count, steps of seven words, blocks of three. No more than there are places for.
abbrev pub workout_of : List ℕ → ℕ → ℕ → Workout
workout_of input steps blocks =
    record {
      name = empty_name;
      steps = padded 12 no_step (at_places (step_at input) 3 7 steps);
      step_count = steps;
      blocks = padded 8 no_block (at_places (block_at input) (3 + 7 * steps) 3 blocks);
      block_count = blocks;
      test = test_of (word_at input 0);
    }

unfoldable pub workout_at : List ℕ → Workout
workout_at input = workout_of input (min (word_at input 1) 12) (min (word_at input 2) 8)
