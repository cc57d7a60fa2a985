-- Document 01's question 5 of a workout in memory.
use Rattle.std.specs.Prelude.{◌≡◌, Bool, true, false, ◌&&◌, List, ℕ, leb, eqb, length, take, drop, replicate}
use Rattle.common.specs.Lists.{all}
use Rattle.names.specs.Names.{name_ok, is_blank}
use Rattle.model.specs.declared.Step.{Step}
use Rattle.model.specs.declared.Block.{Block}
use Rattle.model.specs.declared.Workout.{Workout}
use Rattle.model.specs.Workout.{no_step, no_block}
use Rattle.model.specs.declared.Intensity.{Intensity}
use Rattle.model.specs.declared.Intensity.TheVariants.{Warmup, Work, Recovery, Cooldown, Test}
use Rattle.model.specs.declared.Length.{Length}
use Rattle.model.specs.declared.Length.TheVariants.{Time, Distance, Open}
use Rattle.model.specs.declared.Target.{Target}
use Rattle.model.specs.declared.Target.TheVariants.{Free, Ftp, Watts, HeartZone, Lthr, Cadence, Ramp, FtpRamp}

abbrev pub is_work : Intensity → Bool
is_work Warmup = false
is_work Work = true
is_work Recovery = false
is_work Cooldown = false
is_work Test = false

abbrev pub is_open : Length → Bool
is_open (Time secs) = false
is_open (Distance metres) = false
is_open Open = true

abbrev pub is_free : Target → Bool
is_free Free = true
is_free (Ftp low high) = false
is_free (Watts low high) = false
is_free (HeartZone zone) = false
is_free (Lthr low high) = false
is_free (Cadence low high) = false
is_free (Ramp start step every) = false
is_free (FtpRamp start step every) = false

-- The step is `NO_STEP`.
unfoldable pub is_no_step : Step → Bool
is_no_step s = is_work s.intensity && is_open s.length && is_free s.target && is_blank s.note

-- The block is `NO_BLOCK`.
abbrev pub is_no_block : Block → Bool
is_no_block b = eqb b.first 0 && eqb b.len 0 && eqb b.count 0

abbrev pub note_ok : Step → Bool
note_ok s = name_ok s.note

-- Used steps have a name for a note, unused ones are `NO_STEP`.
unfoldable pub step_slots : List Step → ℕ → Bool
step_slots steps count = all note_ok (take count steps) && all is_no_step (drop count steps)

-- Unused blocks are `NO_BLOCK`.
unfoldable pub block_slots : List Block → ℕ → Bool
block_slots blocks count = all is_no_block (drop count blocks)

-- "The writer asks 5 (names, counts, unused slots as `NO_STEP`, `NO_BLOCK` or 0)"
unfoldable pub form_ok : Workout → Bool
form_ok w =
    leb w.step_count 12 && leb w.block_count 8 && name_ok w.name && step_slots w.steps w.step_count &&
    block_slots w.blocks w.block_count

-- The note is an array of 20 bytes.
abbrev pub note_sized : Step → Bool
note_sized s = eqb (length s.note.bytes) 20

-- What an unused place holds is `NO_STEP`, `NO_BLOCK`: the tests pass these and nothing else.
pub record UnusedPlaces : Type 0 where
  pub no_step_lem : is_no_step no_step ≡ true
  pub no_block_lem : is_no_block no_block ≡ true
  pub step : (s : Step) → length s.note.bytes ≡ 20 → is_no_step s ≡ true → s ≡ no_step
  pub block : (b : Block) → is_no_block b ≡ true → b ≡ no_block
  pub steps : (xs : List Step) → all note_sized xs ≡ true → all is_no_step xs ≡ true → xs ≡ replicate (length xs) no_step
  pub blocks : (xs : List Block) → all is_no_block xs ≡ true → xs ≡ replicate (length xs) no_block
