-- history.rs, `encode` into lent bytes. Document 01: "The record writer asks 5 of its name, then 19. Output bytes past those written
-- stay."
use Rattle.std.specs.Prelude.{List, [], ◌∷◌, ◌++◌, ℕ, leb, length, Err, Ok, Result, ⊤}
use Rattle.le.specs.Le.{bytes_of, written}
use Rattle.refusal.specs.declared.Refusal.TheVariants as refusals
use Rattle.refusal.specs.Number.{ask}
use Rattle.refusal.specs.declared.Refusal.{Refusal}
use Rattle.names.specs.Names.{name_ok}
use Rattle.model.specs.declared.Test.{Test}
use Rattle.encode.specs.Encode.{test_kind}
use Rattle.power.specs.Power.{or_zero}
use Rattle.state.specs.declared.Summary.{Summary}
use Rattle.history.specs.declared.Record.{Record}
use Rattle.history.specs.Record.{magic, version, body_size, record_size, flags_of, start_ms, millis, record_bytes}

-- "Output long enough (70 for a record)? 19."; document 02, g: "question 19 asks 74 bytes for a record"
unfoldable pub write_answer : Record → ℕ → Result ⊤ Refusal
write_answer r room = ask (name_ok r.name) refusals.Field (ask (leb record_size room) refusals.Output (Ok tt))

-- "A refusal leaves .. output bytes unaltered"
abbrev pub output_by : Result ⊤ Refusal → Record → List ℕ → List ℕ
output_by (Ok tt) r out = written out 0 (record_bytes r)
output_by (Err refusal) r out = out

unfoldable pub output_of : Record → List ℕ → List ℕ
output_of r out = output_by (write_answer r (length out)) r out

-- The runs of bytes that the functions below `encode` write one behind the other; with the name's 20 bytes they are the body.

abbrev pub first_bytes : List ℕ
first_bytes = magic ++ (version ∷ body_size ∷ [])

abbrev pub ride_bytes : Record → List ℕ
ride_bytes r = (((r.journal ∷ flags_of r ∷ []) ++ bytes_of 4 r.ride_id) ++ bytes_of 8 (start_ms r.started_utc_ms)) ++ (r.name.len ∷ [])

abbrev pub count_bytes : Test → Summary → List ℕ
count_bytes t s = (((test_kind t ∷ []) ++ bytes_of 2 s.steps_done) ++ bytes_of 2 s.steps) ++ bytes_of 2 s.skipped

abbrev pub time_bytes : Summary → List ℕ
time_bytes s =
    ((((bytes_of 4 (millis s.targeted_ms) ++ bytes_of 4 (millis s.in_ms)) ++ bytes_of 4 (millis s.under_ms))
    ++ bytes_of 4 (millis s.over_ms))
    ++ bytes_of 2 (or_zero s.ftp))
    ++ bytes_of 4 (millis s.unread_ms)
