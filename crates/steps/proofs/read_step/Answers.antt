-- `read_step`: each return is what the reading gives after the bytes handed out so far.
use Rattle.std.specs.Prelude.{None, Some}
use mathlib.Core.Path.{◌≡◌, sym, ◌∙◌}
use native.Mathlib.Omega.{arith}
use lib.ListN.{length-drop}
use Rattle.std.proofs.lemmas.Result.{err_from_is_err_and}
use Rattle.refusal.specs.declared.Refusal.TheVariants as refusals
use Rattle.cursor.proofs.Laws.{taken-given}
use Rattle.steps.proofs.Laws.{step_end, step-bad, step-refused, step-read}
use Rattle.steps.proofs.read_step.Goals as goal

pub returns-in_default : goal.returns-in_default
returns-in_default c = let a = c.args in step_end a.bytes.now a.cursor.at (sym c.next_bytes.ensures ∙ c.in_default.is)

pub fixed_at-requires : goal.fixed_at-requires
fixed_at-requires c = let a = c.args in
    let s = a.bytes.now in
    let at = a.cursor.at in
    let there = taken-given s at 15 c.in-Some.from c.in-Some.field-0-1 (sym c.next_bytes.ensures ∙ c.in-Some.is) in
    omega (arith, there.within, there.place, length-drop at s)

pub returns-in_err-intensity : goal.returns-in_err-intensity
returns-in_err-intensity c = let a = c.args in
    let s = a.bytes.now in
    let at = a.cursor.at in
    let from = c.in-Some.from in
    let past = c.in-Some.field-0-1 in
    let there = taken-given s at 15 from past (sym c.next_bytes.ensures ∙ c.in-Some.is) in
    let none : c.fixed_at.result ≡ None = grind arith in
    let field : c.in_err-intensity.field-0.0 ≡ refusals.Field = grind arith in
    let p = err_from_is_err_and c.from_residual.result c.from_residual.ensures.1 in
    rw (p.1, p.2, field) (step-bad s at from past there (sym c.fixed_at.ensures ∙ none))

pub overflow_add-from : goal.overflow_add-from
overflow_add-from c = let a = c.args in
    let s = a.bytes.now in
    let at = a.cursor.at in
    let there = taken-given s at 15 c.in-Some.from c.in-Some.field-0-1 (sym c.next_bytes.ensures ∙ c.in-Some.is) in
    omega (arith, there.within, there.place, length-drop at s)

pub returns-in_err-note : goal.returns-in_err-note
returns-in_err-note c = let a = c.args in
    let s = a.bytes.now in
    let at = a.cursor.at in
    let from = c.in-Some.from in
    let past = c.in-Some.field-0-1 in
    let i = c.in_ok-intensity.intensity in
    let l = c.in_ok-intensity.length in
    let t = c.in_ok-intensity.target in
    let there = taken-given s at 15 from past (sym c.next_bytes.ensures ∙ c.in-Some.is) in
    let some : c.fixed_at.result ≡ Some (i, l, t) = grind arith in
    let p = err_from_is_err_and c.from_residual-in_err-note.result c.from_residual-in_err-note.ensures.1 in
    rw (p.1, p.2) (step-refused s at from past there i l t (sym c.fixed_at.ensures ∙ some) c.in_err-note.field-0.0 (sym c.next_name.ensures ∙ c.in_err-note.was))

pub returns : goal.returns
returns c = let a = c.args in
    let s = a.bytes.now in
    let at = a.cursor.at in
    let from = c.in-Some.from in
    let past = c.in-Some.field-0-1 in
    let i = c.in_ok-intensity.intensity in
    let l = c.in_ok-intensity.length in
    let t = c.in_ok-intensity.target in
    let there = taken-given s at 15 from past (sym c.next_bytes.ensures ∙ c.in-Some.is) in
    let some : c.fixed_at.result ≡ Some (i, l, t) = grind arith in
    step-read s at from past there i l t (sym c.fixed_at.ensures ∙ some) c.in_ok-note.note c.in_ok-note.next (sym c.next_name.ensures ∙ c.in_ok-note.was)
