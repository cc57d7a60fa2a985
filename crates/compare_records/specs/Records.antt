-- The words of the answers on ride records, from the definition of reading; tests/oracle/compare_records.rs has the layout.
use Rattle.std.specs.Prelude.{cond, not, List, [], ◌∷◌, ℕ, ◌+◌, ◌-◌, ◌*◌, ◌/◌, ◌%◌, min, eqb, ltb, length, get_or, None, Option, Some}
use Rattle.le.specs.Le.{part}
use Rattle.refusal.specs.Number.{answer_number}
use Rattle.names.specs.Names.{name_from}
use Rattle.model.specs.declared.Test.{Test}
use Rattle.model.specs.declared.Test.TheVariants as tests
use Rattle.encode.specs.Encode.{test_kind}
use Rattle.state.specs.declared.Summary.{Summary}
use Rattle.history.specs.declared.Record.{Record}
use Rattle.history.specs.declared.RecordRead.{RecordRead}
use Rattle.history.specs.Record.{start_at}
use Rattle.compare.specs.Input.{word_at}
use Rattle.compare_files.specs.Files.{text_word}

-- the lower 32 bits at place 0, the upper ones behind them
unfoldable pub half_word : ℕ → ℕ → ℕ
half_word n place = get_or (n % 4294967296 ∷ []) place (n / 4294967296)

-- 1 and the start, or 0
unfoldable pub start_word : Option ℕ → ℕ → ℕ
start_word None place = 0
start_word (Some ms) place = get_or (1 ∷ []) place (half_word ms (place - 1))

-- 1 and the watts, or 0
unfoldable pub ftp_word : Option ℕ → ℕ → ℕ
ftp_word None place = 0
ftp_word (Some watts) place = get_or (1 ∷ []) place watts

-- 7 words: refusal, journal, ride id, test, start
abbrev pub head_facts : RecordRead → List ℕ
head_facts read = answer_number read.answer ∷ read.«record».journal ∷ read.«record».ride_id ∷ test_kind read.«record».test ∷ []

unfoldable pub head_word : RecordRead → ℕ → ℕ
head_word read place = get_or (head_facts read) place (start_word read.«record».started_utc_ms (place - 4))

-- 6 words: steps done, steps, skipped, 1 if finished, FTP
abbrev pub count_facts : Summary → List ℕ
count_facts s = s.steps_done ∷ s.steps ∷ s.skipped ∷ cond s.finished 1 0 ∷ []

unfoldable pub count_word : Summary → ℕ → ℕ
count_word s place = get_or (count_facts s) place (ftp_word s.ftp (place - 4))

-- 10 words: targeted, in, under, over, unread
abbrev pub tallies : Summary → List ℕ
tallies s = s.targeted_ms ∷ s.in_ms ∷ s.under_ms ∷ s.over_ms ∷ []

unfoldable pub tally_word : Summary → ℕ → ℕ
tally_word s place = half_word (get_or (tallies s) (place / 2) s.unread_ms) (place % 2)

unfoldable pub summary_word : Summary → ℕ → ℕ
summary_word s place = cond (ltb place 6) (count_word s place) (tally_word s (place - 6))

-- what was read of a record; the name comes last
unfoldable pub read_word : RecordRead → ℕ → ℕ
read_word read place =
    cond (ltb place 7) (head_word read place)
    (cond (ltb place 23) (summary_word read.«record».summary (place - 7)) (text_word read.«record».name (place - 23)))

-- A record of given fields, in the words of tests/oracle/compare_records.rs: the name's bytes stand behind them.

-- two words as one number, the lower half first
abbrev pub pair_at : List ℕ → ℕ → ℕ
pair_at s place = word_at s place + 4294967296 * word_at s (place + 1)

-- 0 for none, else one more than the watts
unfoldable pub ftp_by : ℕ → Option ℕ
ftp_by word = cond (eqb word 0) None (Some ((word - 1) % 65536))

unfoldable pub test_by : ℕ → Test
test_by word = get_or (tests.None ∷ tests.Twenty ∷ tests.Ramp ∷ []) word tests.None

unfoldable pub made_summary : List ℕ → Summary
made_summary s =
    record {
      targeted_ms = pair_at s 11;
      in_ms = pair_at s 13;
      under_ms = pair_at s 15;
      over_ms = pair_at s 17;
      unread_ms = pair_at s 19;
      ftp = ftp_by (word_at s 7);
      steps_done = word_at s 8 % 65536;
      steps = word_at s 9 % 65536;
      skipped = word_at s 10 % 65536;
      finished = not (eqb (word_at s 6) 0);
    }

unfoldable pub made_of : List ℕ → Record
made_of s =
    record {
      journal = word_at s 0 % 256;
      ride_id = word_at s 1;
      started_utc_ms = start_at (not (eqb (word_at s 2) 0)) (pair_at s 3);
      name = name_from (part s (min 84 (length s)) (length s - min 84 (length s)));
      test = test_by (word_at s 5);
      summary = made_summary s;
    }
