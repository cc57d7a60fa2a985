-- history.rs, `decode`. Document 01, 'Ride record': "read as its `decode` does: version 1 or more, body length at least 66, later bytes
-- and unknown flags passed over".
use Rattle.std.specs.Prelude.{Bool, cond, ◌&&◌, List, ℕ, ◌+◌, leb, eqb, length, get_or, take, Err, None, Ok, Option, Some}
use Rattle.le.specs.Le.{number_of, part}
use Rattle.checksum.specs.V42.{check_of}
use Rattle.refusal.specs.declared.Refusal.TheVariants as refusals
use Rattle.names.specs.declared.Name.{Name}
use Rattle.names.specs.Names.{name_from, empty_name}
use Rattle.model.specs.declared.Test.{Test}
use Rattle.model.specs.declared.Test.TheVariants as tests
use Rattle.decode.specs.Decode.{test_of}
use Rattle.power.specs.Power.{reading_at}
use Rattle.readings.specs.Readings.{flag_set}
use Rattle.state.specs.declared.Summary.{Summary}
use Rattle.start.specs.Start.{no_summary}
use Rattle.history.specs.declared.Record.{Record}
use Rattle.history.specs.declared.RecordRead.{RecordRead}
use Rattle.history.specs.Record.{version, body_size, start_at, finished_flag, dated_flag, measured_flag}

-- Where a record is read.

abbrev pub version_place : ℕ
version_place = 4

abbrev pub body_place : ℕ
body_place = 5

abbrev pub journal_place : ℕ
journal_place = 6

abbrev pub flags_place : ℕ
flags_place = 7

abbrev pub id_place : ℕ
id_place = 8

abbrev pub start_place : ℕ
start_place = 12

-- the name's length; its bytes follow
abbrev pub name_place : ℕ
name_place = 20

abbrev pub test_place : ℕ
test_place = 41

abbrev pub done_place : ℕ
done_place = 42

abbrev pub steps_place : ℕ
steps_place = 44

abbrev pub skipped_place : ℕ
skipped_place = 46

abbrev pub targeted_place : ℕ
targeted_place = 48

abbrev pub in_place : ℕ
in_place = 52

abbrev pub under_place : ℕ
under_place = 56

abbrev pub over_place : ℕ
over_place = 60

abbrev pub ftp_place : ℕ
ftp_place = 64

abbrev pub unread_place : ℕ
unread_place = 66

-- Whether the bytes are a record.

abbrev pub least_version : ℕ
least_version = 1

abbrev pub least_body : ℕ
least_body = 66

-- so that every record has as many bytes as this, its check word included
abbrev pub least_size : ℕ
least_size = least_body + 4

-- "VWKO"
abbrev pub begins : List ℕ → Bool
begins s = ((eqb (get_or s 0 0) 86 && eqb (get_or s 1 0) 87) && eqb (get_or s 2 0) 75) && eqb (get_or s 3 0) 79

-- how many bytes the record says stand before its check word
abbrev pub body_of : List ℕ → ℕ
body_of s = get_or s body_place 0

-- the check word stands behind the body, and is the body's
abbrev pub is_checked : List ℕ → ℕ → Bool
is_checked s n = leb (n + 4) (length s) && eqb (check_of (take n s)) (number_of (part s n 4))

unfoldable pub is_whole : List ℕ → Bool
is_whole s =
    leb (body_place + 1) (length s)
    && (begins s && (leb least_version (get_or s version_place 0) && (leb least_body (body_of s) && is_checked s (body_of s))))

-- What it holds.

-- other flags are passed over
abbrev pub is_flagged : List ℕ → ℕ → Bool
is_flagged s value = flag_set (get_or s flags_place 0) value

-- small letters as capitals, bytes that can't be drawn as spaces
unfoldable pub name_in : List ℕ → Name
name_in s = name_from (part s (name_place + 1) (get_or s name_place 0))

-- Document 02, g: "A version 1 record reads as unread 0, as does any body shorter than 70."
abbrev pub has_unread : List ℕ → Bool
has_unread s = leb version (get_or s version_place 0) && leb body_size (body_of s)

unfoldable pub unread_in : List ℕ → ℕ
unread_in s = cond (has_unread s) (number_of (part s unread_place 4)) 0

unfoldable pub summary_in : List ℕ → Summary
summary_in s =
    record {
      targeted_ms = number_of (part s targeted_place 4);
      in_ms = number_of (part s in_place 4);
      under_ms = number_of (part s under_place 4);
      over_ms = number_of (part s over_place 4);
      unread_ms = unread_in s;
      ftp = reading_at (is_flagged s measured_flag) (number_of (part s ftp_place 2));
      steps_done = number_of (part s done_place 2);
      steps = number_of (part s steps_place 2);
      skipped = number_of (part s skipped_place 2);
      finished = is_flagged s finished_flag;
    }

unfoldable pub record_in : List ℕ → Test → Record
record_in s test =
    record {
      journal = get_or s journal_place 0;
      ride_id = number_of (part s id_place 4);
      started_utc_ms = start_at (is_flagged s dated_flag) (number_of (part s start_place 8));
      name = name_in s;
      test = test;
      summary = summary_in s;
    }

-- "a record of zeros, no name, nothing present"
abbrev pub zero_record : Record
zero_record = record { journal = 0; ride_id = 0; started_utc_ms = None; name = empty_name; test = tests.None; summary = no_summary 0 }

abbrev pub no_record : RecordRead
no_record = record { answer = Err refusals.Record; «record» = zero_record }

abbrev pub read_as : Record → RecordRead
read_as r = record { answer = (Ok tt); «record» = r }

-- the test byte is judged last
abbrev pub with_test : List ℕ → Option Test → RecordRead
with_test s (Some test) = read_as (record_in s test)
with_test s None = no_record

-- "Record readable by `decode`? 18"
unfoldable pub decode_of : List ℕ → RecordRead
decode_of s = cond (is_whole s && leb (get_or s name_place 0) 20) (with_test s (test_of (get_or s test_place 0))) no_record
