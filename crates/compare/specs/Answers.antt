-- The words of the answers, from the definitions of the crates that are asked.
use Rattle.std.specs.Prelude.{cond, List, [], ◌∷◌, ℕ, ◌+◌, ◌-◌, ◌*◌, ◌%◌, min, get_or, None, Option, Some, is_some}
use Rattle.names.specs.declared.Name.{Name}
use Rattle.names.specs.Names.{name_from}
use Rattle.zones.specs.Zones.{percent_of, power_zone, heart_zone, power_range, heart_range}
use Rattle.zones.specs.declared.Range.{Range}
use Rattle.model.specs.Target.{band_of, ramp_option, stage_of, stage_watts, watts_at}
use Rattle.model.specs.declared.Metric.{Metric}
use Rattle.model.specs.declared.Metric.TheVariants as metrics
use Rattle.model.specs.declared.Ramp.{Ramp}
use Rattle.model.specs.declared.Workout.{Workout}
use Rattle.model.specs.declared.Band.{Band}
use Rattle.order.specs.Order.{played_len, played_of, planned_from, has_untimed, played_in}
use Rattle.order.specs.declared.Played.{Played}
use Rattle.refusal.specs.Number.{answer_number}
use Rattle.validation.specs.Sound.{valid_answer}
use Rattle.compare.specs.Input.{word_at, low16, low8, profile_at, target_at, ramp_at, workout_at}

-- an answer of up to four words, 0 past the last
unfoldable pub four_words : ℕ → ℕ → ℕ → ℕ → ℕ → ℕ
four_words a b c d place = get_or (a ∷ b ∷ c ∷ d ∷ []) place 0

-- cut to 65,535, and the lower 16 bits
abbrev pub percent_word : ℕ → ℕ → ℕ
percent_word percent place = four_words (min percent 65535) (low16 percent) 0 0 place

abbrev pub range_word : Range → ℕ → ℕ
range_word range place = four_words range.low range.next 0 0 place

abbrev pub metric_number : Metric → ℕ
metric_number metrics.Power = 0
metric_number metrics.Heart = 1
metric_number metrics.Cadence = 2

abbrev pub band_word : Option Band → ℕ → ℕ
band_word None place = 0
band_word (Some band) place = four_words 1 (metric_number band.metric) band.low band.high place

abbrev pub ramp_word : Option Ramp → ℕ → ℕ
ramp_word None place = 0
ramp_word (Some ramp) place = four_words 1 ramp.start ramp.step ramp.every place

abbrev pub stage_word : Ramp → ℕ → ℕ → ℕ → ℕ
stage_word ramp elapsed stage place = four_words (stage_of ramp elapsed) (stage_watts ramp stage) (watts_at ramp elapsed) 0 place

-- the length, then the bytes
abbrev pub name_word : Name → ℕ → ℕ
name_word name place = get_or (name.len ∷ name.bytes) place 0

-- a played step in one word, 0 where there is none
abbrev pub played_word : Option Played → ℕ
played_word option =
    cond (is_some option)
    (16777216 + 65536 * (played_in option).index + 256 * (played_in option).repetition + (played_in option).of)
    0

-- played length, planned seconds, whether a step is untimed
abbrev pub order_facts : Workout → List ℕ
order_facts workout = played_len workout % 4294967296 ∷ planned_from workout 0 ∷ cond (has_untimed workout) 1 0 ∷ []

-- then each position
unfoldable pub order_word : Workout → ℕ → ℕ
order_word workout place = get_or (order_facts workout) place (played_word (played_of workout (place - 3)))

unfoldable pub percent_answer : List ℕ → ℕ → ℕ
percent_answer input place = percent_word (percent_of (low16 (word_at input 0)) (low8 (word_at input 1))) place

unfoldable pub power_zone_answer : List ℕ → ℕ → ℕ
power_zone_answer input place = four_words (power_zone (profile_at input) (low16 (word_at input 2))) 0 0 0 place

unfoldable pub heart_zone_answer : List ℕ → ℕ → ℕ
heart_zone_answer input place = four_words (heart_zone (profile_at input) (low16 (word_at input 2))) 0 0 0 place

unfoldable pub power_range_answer : List ℕ → ℕ → ℕ
power_range_answer input place = range_word (power_range (profile_at input) (low8 (word_at input 2))) place

unfoldable pub heart_range_answer : List ℕ → ℕ → ℕ
heart_range_answer input place = range_word (heart_range (profile_at input) (low8 (word_at input 2))) place

unfoldable pub band_answer : List ℕ → ℕ → ℕ
band_answer input place = band_word (band_of (target_at input 3) (profile_at input) (word_at input 2)) place

unfoldable pub ramp_answer : List ℕ → ℕ → ℕ
ramp_answer input place = ramp_word (ramp_option (target_at input 2) (profile_at input)) place

unfoldable pub stage_answer : List ℕ → ℕ → ℕ
stage_answer input place = stage_word (ramp_at input) (word_at input 3) (word_at input 4) place

unfoldable pub name_answer : List ℕ → ℕ → ℕ
name_answer input place = name_word (name_from input) place

unfoldable pub validate_answer : List ℕ → ℕ → ℕ
validate_answer input place = four_words (answer_number (valid_answer (workout_at input))) 0 0 0 place

unfoldable pub order_answer : List ℕ → ℕ → ℕ
order_answer input place = order_word (workout_at input) place

-- for each question, by its number, the word at a place of its answer
abbrev pub answers : List ℕ → ℕ → List ℕ
answers input place =
    percent_answer input place
    ∷ power_zone_answer input place
    ∷ heart_zone_answer input place
    ∷ power_range_answer input place
    ∷ heart_range_answer input place
    ∷ band_answer input place
    ∷ ramp_answer input place
    ∷ stage_answer input place
    ∷ name_answer input place
    ∷ validate_answer input place
    ∷ order_answer input place
    ∷ []

unfoldable pub answer_word : ℕ → List ℕ → ℕ → ℕ
answer_word question input place = get_or (answers input place) question 0
