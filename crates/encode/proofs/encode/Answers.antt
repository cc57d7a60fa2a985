-- `encode::encode` meets its contract: each return is one of the questions, or the file.
use native.Mathlib.Omega.{arith}
use mathlib.Core.Path.{sym, ◌∙◌}
use Rattle.std.proofs.lemmas.Result.{err_from_is_err_and}
use Rattle.encode.proofs.File.{refused-form, no_room, room-enough, accepted-form}
use Rattle.encode.proofs.encode.Goals as goal

pub returns-in_err-check : goal.returns-in_err-check
returns-in_err-check c = let a = c.args in
    let p = err_from_is_err_and c.from_residual.result c.from_residual.ensures.1 in
    let every = refused-form a.workout a.out.now c.in_err-check.field-0.0 (sym c.check.ensures ∙ c.in_err-check.was) in
    record { value = rw (p.1, p.2) every.0; out_after = every.1.0; result_value = rw (p.1, p.2) every.1.1 }

pub file_size-size-requires : goal.file_size-size-requires
file_size-size-requires c = let a = c.args in accepted-form a.workout a.out.now (sym c.check.ensures ∙ c.in_ok-check.was)

pub returns-then-out-size : goal.returns-then-out-size
returns-then-out-size c = let a = c.args in
    let every = no_room a.workout a.out.now (sym c.check.ensures ∙ c.in_ok-check.was) (omega (arith, c.file_size-size.ensures.0)) in
    record { value = every.0; out_after = every.1.0; result_value = every.1.1 }

pub put_file-requires : goal.put_file-requires
put_file-requires c = let a = c.args in (accepted-form a.workout a.out.now (sym c.check.ensures ∙ c.in_ok-check.was), omega (arith, c.file_size-size.ensures.0))

pub returns : goal.returns
returns c = let a = c.args in
    let every = room-enough a.workout a.out.now c.file_size-size.result _ (sym c.check.ensures ∙ c.in_ok-check.was) c.file_size-size.ensures.0 (omega arith) c.put_file.ensures in
    record { value = every.0; out_after = every.1.0; result_value = every.1.1 }
