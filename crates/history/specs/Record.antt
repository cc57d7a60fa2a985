-- history.rs: the bytes of a ride record. Document 01, 'Ride record': "70 bytes as its `encode` writes"; document 02, g: "The record is
-- written as version 2, body 70, with unread as a 4-byte number at 66, limited like the others, and the check word at 70."
use Rattle.std.specs.Prelude.{◌≡◌, Bool, cond, List, [], ◌∷◌, ◌++◌, ℕ, ◌+◌, min, length, take, replicate, Option, is_some, unwrap_or}
use Rattle.std.specs.Bool.{then_some}
use Rattle.le.specs.Le.{bytes_of}
use Rattle.checksum.specs.V42.{check_of}
use Rattle.names.specs.declared.Name.{Name}
use Rattle.names.specs.Names.{as_bytes}
use Rattle.model.specs.declared.Test.{Test}
use Rattle.encode.specs.Encode.{test_kind}
use Rattle.power.specs.Power.{or_zero}
use Rattle.state.specs.declared.Summary.{Summary}
use Rattle.history.specs.declared.Record.{Record}

-- The record of a ride.

abbrev pub start_at : Bool → ℕ → Option ℕ
start_at dated start = then_some dated start

-- What is stored of a ride: the workout's name and test, how it went, and the ride's "journal, id, start time and a yes or no for
-- whether it is dated".
abbrev pub record_of : Name → Test → Summary → ℕ → ℕ → ℕ → Bool → Record
record_of name test summary journal id start dated =
    record {
      journal = journal;
      ride_id = id;
      started_utc_ms = start_at dated start;
      name = name;
      test = test;
      summary = summary;
    }

-- What is written first: "VWKO", the version, and how many bytes stand before the check word. Version 2 is the first with unread.

abbrev pub magic : List ℕ
magic = 86 ∷ 87 ∷ 75 ∷ 79 ∷ []

abbrev pub version : ℕ
version = 2

abbrev pub body_size : ℕ
body_size = 70

abbrev pub record_size : ℕ
record_size = 74

-- The flags: finished, start time known, FTP measured.

abbrev pub finished_flag : ℕ
finished_flag = 1

abbrev pub dated_flag : ℕ
dated_flag = 2

abbrev pub measured_flag : ℕ
measured_flag = 4

abbrev pub is_dated : Option ℕ → Bool
is_dated start = is_some start

abbrev pub flag : Bool → ℕ → ℕ
flag on value = cond on value 0

unfoldable pub flags_of : Record → ℕ
flags_of r = flag r.summary.finished finished_flag + (flag (is_dated r.started_utc_ms) dated_flag + flag (is_some r.summary.ftp) measured_flag)

-- 0 where the start isn't known
abbrev pub start_ms : Option ℕ → ℕ
start_ms start = unwrap_or start 0

-- "Milliseconds above 4,294,967,295 are written as that number."
abbrev pub most_ms : ℕ
most_ms = 4294967295

abbrev pub millis : ℕ → ℕ
millis ms = min ms most_ms

-- up to the name's length byte
unfoldable pub head_bytes : Record → List ℕ
head_bytes r =
    magic
    ++ ((version ∷ body_size ∷ r.journal ∷ flags_of r ∷ [])
    ++ (bytes_of 4 r.ride_id ++ (bytes_of 8 (start_ms r.started_utc_ms) ++ (r.name.len ∷ []))))

-- the name's bytes, then zeros, 20 in all
unfoldable pub text_bytes : Name → List ℕ
text_bytes n = take 20 (as_bytes n ++ replicate 20 0)

-- test, steps, tallies, FTP, unread
unfoldable pub tally_bytes : Test → Summary → List ℕ
tally_bytes t s =
    (test_kind t ∷ [])
    ++ (bytes_of 2 s.steps_done
    ++ (bytes_of 2 s.steps
    ++ (bytes_of 2 s.skipped
    ++ (bytes_of 4 (millis s.targeted_ms)
    ++ (bytes_of 4 (millis s.in_ms)
    ++ (bytes_of 4 (millis s.under_ms)
    ++ (bytes_of 4 (millis s.over_ms) ++ (bytes_of 2 (or_zero s.ftp) ++ bytes_of 4 (millis s.unread_ms)))))))))

unfoldable pub body_bytes : Record → List ℕ
body_bytes r = head_bytes r ++ (text_bytes r.name ++ tally_bytes r.test r.summary)

-- the body, then its check word
unfoldable pub record_bytes : Record → List ℕ
record_bytes r = body_bytes r ++ bytes_of 4 (check_of (body_bytes r))

-- 74 bytes, whatever the record
abbrev pub RecordSize : Type 0
RecordSize = (r : Record) → length (record_bytes r) ≡ record_size
