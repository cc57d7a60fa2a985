-- The words of a call and of the reports after it, from the definitions of crate `reports`; tests/oracle/played.rs has the layout.
use Rattle.std.specs.Prelude.{true, cond, List, [], ◌∷◌, ℕ, ◌+◌, ◌-◌, ◌/◌, ◌%◌, get_or, None, Option, Some}
use Rattle.compare.specs.Answers.{band_word, played_word}
use Rattle.compare_files.specs.Files.{step_word}
use Rattle.readings.specs.declared.Compliance.TheVariants.{Under, In, Over}
use Rattle.readings.specs.declared.ComplianceOption.{ComplianceOption}
use Rattle.readings.specs.declared.ComplianceOption.TheVariants as how
use Rattle.refusal.specs.Number.{answer_number}
use Rattle.reports.specs.Reports.{summary_of, remaining_secs, distance_of, until_of, now_of}
use Rattle.reports.specs.declared.NowRead.{NowRead}
use Rattle.reports.specs.declared.SummaryRead.{SummaryRead}
use Rattle.screen.specs.declared.Left.{Left}
use Rattle.screen.specs.declared.Left.TheVariants.{Secs, Metres, Open}
use Rattle.screen.specs.declared.Now.{Now}
use Rattle.screen.specs.declared.TestReadout.{TestReadout}
use Rattle.screen.specs.declared.TestReadout.TheVariants as readouts
use Rattle.state.specs.State.{in_target_pct}
use Rattle.state.specs.declared.Player.{Player}
use Rattle.zones.specs.declared.TrainingProfile.{TrainingProfile}
use Rattle.compare_reports.specs.declared.Given.{Given}
use Rattle.compare_reports.specs.declared.Reported.{Reported}
use Rattle.order.specs.Order.{played_in}

-- 0 for none, else one more
abbrev pub reading_word : Option ℕ → ℕ
reading_word None = 0
reading_word (Some value) = value + 1

abbrev pub pct_word : Option ℕ → ℕ
pct_word None = 0
pct_word (Some value) = value + 1

-- the summary, numbers in 32 bits, and `in_target_pct` of it
abbrev pub summary_facts : SummaryRead → List ℕ
summary_facts read =
    answer_number read.answer
    ∷ read.summary.targeted_ms % 4294967296
    ∷ read.summary.in_ms % 4294967296
    ∷ read.summary.under_ms % 4294967296
    ∷ read.summary.over_ms % 4294967296
    ∷ reading_word read.summary.ftp
    ∷ read.summary.steps_done
    ∷ read.summary.steps
    ∷ read.summary.skipped
    ∷ cond read.summary.finished 1 0
    ∷ []

unfoldable pub summary_word : SummaryRead → ℕ → ℕ
summary_word read place = get_or (summary_facts read) place (pct_word (in_target_pct read.summary))

-- what the call gave, then the summary
abbrev pub given_facts : Given → List ℕ
given_facts given = given.number ∷ given.events ∷ given.parts ∷ given.check ∷ cond given.extended 1 0 ∷ []

unfoldable pub given_word : Given → SummaryRead → ℕ → ℕ
given_word given read place = get_or (given_facts given) place (summary_word read (place - 5))

abbrev pub has_secs : Option ℕ → ℕ
has_secs None = 0
has_secs (Some value) = 1

abbrev pub secs_value : Option ℕ → ℕ
secs_value None = 0
secs_value (Some value) = value

-- the summary's unread, `remaining_secs`, `distance_step`, `until_end`, then the band on screen
abbrev pub amount_facts : Reported → List ℕ
amount_facts reported =
    reported.summary.summary.unread_ms % 4294967296
    ∷ answer_number reported.remaining.answer
    ∷ has_secs reported.remaining.secs
    ∷ secs_value reported.remaining.secs
    ∷ answer_number reported.distance.answer
    ∷ cond reported.distance.distance 1 0
    ∷ answer_number reported.part.answer
    ∷ reported.part.part.ms.0 % 4294967296
    ∷ reported.part.part.mm.0 % 4294967296
    ∷ []

unfoldable pub amount_word : Reported → ℕ → ℕ
amount_word reported place = get_or (amount_facts reported) place (band_word reported.now.now.band (place - 9))

-- 0 for none
abbrev pub compliance_word : ComplianceOption → ℕ
compliance_word how.NoBand = 0
compliance_word how.NoReading = 0
compliance_word (how.Some Under) = 1
compliance_word (how.Some In) = 2
compliance_word (how.Some Over) = 3

abbrev pub left_kind : Left → ℕ
left_kind (Secs value) = 0
left_kind (Metres value) = 1
left_kind (Open value) = 2

abbrev pub left_value : Left → ℕ
left_value (Secs value) = value
left_value (Metres value) = value
left_value (Open value) = value

abbrev pub readout_kind : TestReadout → ℕ
readout_kind readouts.None = 0
readout_kind (readouts.Average watts) = 1
readout_kind (readouts.BestMinute watts) = 2

abbrev pub readout_value : TestReadout → ℕ
readout_value readouts.None = 0
readout_value (readouts.Average watts) = watts
readout_value (readouts.BestMinute watts) = watts

-- what is left, progress, the test's number, the places of the step on now and of the next one in the order
abbrev pub shown_facts : Now → List ℕ
shown_facts now =
    left_kind now.left
    ∷ left_value now.left
    ∷ now.progress
    ∷ readout_kind now.test
    ∷ readout_value now.test
    ∷ played_word (Some now.played)
    ∷ played_word now.next
    ∷ []

unfoldable pub shown_word : Now → ℕ → ℕ
shown_word now place = get_or (shown_facts now) place 0

abbrev pub now_facts : NowRead → List ℕ
now_facts read =
    answer_number read.answer
    ∷ read.now.position
    ∷ read.now.steps
    ∷ reading_word read.now.ramp_watts
    ∷ reading_word read.now.reading
    ∷ compliance_word read.now.compliance
    ∷ []

unfoldable pub now_word : NowRead → ℕ → ℕ
now_word read place = get_or (now_facts read) place (shown_word read.now (place - 6))

-- every report on a player
abbrev pub reported_of : Player → ℕ → ℕ → TrainingProfile → Reported
reported_of p ms mm profile =
    record {
      summary = summary_of p;
      remaining = remaining_secs p;
      distance = distance_of p;
      part = until_of p ms mm;
      now = now_of p profile;
    }

-- 16 words of each kind: the call and the summary, amounts, the screen's other numbers, the step on now
abbrev pub seen_words : Given → Reported → ℕ → List ℕ
seen_words given reported at =
    given_word given reported.summary at
    ∷ amount_word reported at
    ∷ now_word reported.now at
    ∷ step_word reported.now.now.played.step at
    ∷ []

-- and the step after it
unfoldable pub seen_word : Given → Reported → ℕ → ℕ
seen_word given reported place =
    get_or (seen_words given reported (place % 16)) (place / 16) (step_word (played_in reported.now.now.next).step (place % 16))
