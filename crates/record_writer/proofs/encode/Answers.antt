-- `encode`: question 5 of the name, then 19, and then the record.
use mathlib.Core.Path.{sym, ◌∙◌}
use native.Mathlib.Omega.{arith}
use Rattle.record_writer.proofs.Laws.{refused-name, no_room, written-whole}
use Rattle.record_writer.proofs.encode.Goals as goal

pub returns-then-not-check : goal.returns-then-not-check
returns-then-not-check c = let a = c.args in
    let every = refused-name a.stored a.out.now (sym c.check.ensures ∙ c.if-not-check.true) in
    record { value = every.0; out_after = every.1 }

pub returns-then-out-lt-RECORD_BYTES : goal.returns-then-out-lt-RECORD_BYTES
returns-then-out-lt-RECORD_BYTES c = let a = c.args in
    let every = no_room a.stored a.out.now (sym c.check.ensures ∙ c.if-not-check.false) c.if-out-lt-RECORD_BYTES.true in
    record { value = every.0; out_after = every.1 }

pub put_record-requires : goal.put_record-requires
put_record-requires c = (omega (arith, c.if-out-lt-RECORD_BYTES.false), sym c.check.ensures ∙ c.if-not-check.false)

pub returns : goal.returns
returns c = let a = c.args in
    let every = written-whole a.stored a.out.now _ (sym c.check.ensures ∙ c.if-not-check.false) (omega (arith, c.if-out-lt-RECORD_BYTES.false)) c.put_record.ensures in
    record { value = every.0; out_after = every.1 }
