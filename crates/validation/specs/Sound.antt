-- Document 01's questions 6 to 9, which are model.rs's `validate`.
use Rattle.std.specs.Prelude.{Bool, true, ◌&&◌, List, ℕ, ltb, leb, length, Ok, Result, ⊤}
use Rattle.common.specs.Lists.{all}
use Rattle.form.specs.Form.{is_open, form_ok}
use Rattle.blocks.specs.Blocks.{blocks_sound}
use Rattle.order.specs.Order.{played_len}
use Rattle.refusal.specs.declared.Invalid.TheVariants as invalids
use Rattle.refusal.specs.declared.Refusal.TheVariants as refusals
use Rattle.refusal.specs.Number.{ask}
use Rattle.refusal.specs.declared.Refusal.{Refusal}
use Rattle.model.specs.declared.Step.{Step}
use Rattle.model.specs.declared.Workout.{Workout}
use Rattle.model.specs.declared.Length.{Length}
use Rattle.model.specs.declared.Length.TheVariants.{Time, Distance, Open}
use Rattle.model.specs.declared.Target.{Target}
use Rattle.model.specs.declared.Target.TheVariants.{Free, Ftp, Watts, HeartZone, Lthr, Cadence, Ramp, FtpRamp}
use Rattle.model.specs.Workout.{steps_of, blocks_of}

-- Question 8: a step that can end, and a target in range.

abbrev pub length_ok : Length → Bool
length_ok (Time secs) = ltb 0 secs
length_ok (Distance metres) = leb 100 metres
length_ok Open = true

-- A range that begins above 0 and ends at most at top.
abbrev pub within : ℕ → ℕ → ℕ → Bool
within low high top = ltb 0 low && leb low high && leb high top

-- A target in range; a ramp stands in an open step only. Any 8-bit cadence may be the high end.
abbrev pub target_ok : Target → Bool → Bool
target_ok Free untimed = true
target_ok (Ftp low high) untimed = within low high 250
target_ok (Watts low high) untimed = within low high 2000
target_ok (HeartZone zone) untimed = leb 1 zone && leb zone 5
target_ok (Lthr low high) untimed = within low high 250
target_ok (Cadence low high) untimed = within low high 255
target_ok (Ramp start step every) untimed = ltb 0 start && ltb 0 step && ltb 0 every && untimed
target_ok (FtpRamp start step every) untimed = ltb 0 start && ltb 0 step && leb start 250 && ltb 0 every && untimed

unfoldable pub step_ok : Step → Bool
step_ok s = length_ok s.length && target_ok s.target (is_open s.length)

-- "Steps sound? 8"
abbrev pub steps_sound : List Step → Bool
steps_sound steps = all step_ok steps

-- "Then `validate`: a step? 6. Blocks sound? 7. Steps sound? 8. At most 96 played? 9."
unfoldable pub valid_answer : Workout → Result ⊤ Refusal
valid_answer w =
    ask (ltb 0 w.step_count) (refusals.Invalid invalids.NoSteps)
    (ask (blocks_sound (length (steps_of w)) (blocks_of w)) (refusals.Invalid invalids.Block)
    (ask (steps_sound (steps_of w)) (refusals.Invalid invalids.Step)
    (ask (leb (played_len w) 96) (refusals.Invalid invalids.TooLong) (Ok tt))))

-- "`new` asks 5 to 9."
unfoldable pub workout_answer : Workout → Result ⊤ Refusal
workout_answer w = ask (form_ok w) refusals.Field (valid_answer w)
