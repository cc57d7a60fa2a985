-- `replay`: refused, the bytes stay; else the record is written.
use Rattle.std.specs.Prelude.{Option, ℕ}
use Rattle.replay.proofs.Sheets.{output-stays, output-written}
use Rattle.replay.specs.Replay.{replay_answer, replay_record}
use Rattle.replay.specs.declared.Ridden.{Ridden}
use Rattle.record_writer.specs.Write.{output_of}
use Rattle.history.specs.declared.Record.{Record}
use mathlib.Core.Path.{sym, ap, ◌∙◌}
use Rattle.replay.proofs.replay.Goals as goal

pub returns-in-Err : goal.returns-in-Err
unfolding replay_answer
returns-in-Err c = let a = c.args in
    let r = c.ride_sheet-ride.ensures in
    record { value = ap (λ (x : Ridden). x.outcome) r; out_after = output-stays a.file.now a.sheet.now a.journal a.id a.start a.dated a.out.now _ (sym (ap (λ (x : Ridden). x.outcome.answer) r) ∙ c.in-Err.is) }

pub returns : goal.returns
unfolding replay_answer
returns c = let a = c.args in
    let r = c.ride_sheet-ride.ensures in
    let x = c.ride_sheet-ride.result in
    let stored = ap (λ (t : Option ℕ). record { journal = a.journal; ride_id = a.id; started_utc_ms = t; name = x.name; test = x.test; summary = x.summary }) c.then_some.ensures
    ∙ ap (λ (x : Ridden). replay_record x a.journal a.id a.start a.dated) r in
    record { value = ap (λ (x : Ridden). x.outcome) r; out_after = c.encode.ensures.out_after ∙ ap (λ (k : Record). output_of k a.out.now) stored ∙ output-written a.file.now a.sheet.now a.journal a.id a.start a.dated a.out.now (sym (ap (λ (x : Ridden). x.outcome.answer) r) ∙ c.in_default.is) }
