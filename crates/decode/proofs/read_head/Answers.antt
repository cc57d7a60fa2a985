-- `decode::read_head`: each return is one way that reading test, name and counts can end.
use Rattle.std.specs.Prelude.{None, Some}
use native.Mathlib.Omega.{arith}
use Prim.Native.Nat.{◌+◌}
use mathlib.Core.Bool.{Bool}
use mathlib.Core.Path.{◌≡◌, sym, ap, ◌∙◌}
use Rattle.std.proofs.lemmas.Result.{err_from_is_err_and}
use Rattle.refusal.specs.declared.Refusal.TheVariants as refusals
use Rattle.cursor.proofs.Laws.{byte-given}
use Rattle.cursor.specs.Reading.{got, behind, allow}
use Rattle.decode.proofs.Counts.{head_of, read_as, head-none, head-test, head-name, head-refused, head_read, counts-none, counts-one, counts-two}
use Rattle.decode.proofs.read_head.Goals as goal

pub returns-in_default-clause-value : goal.returns-in_default-clause-value
returns-in_default-clause-value c = let a = c.args in head-none a.bytes.now a.cursor.at (sym c.next_byte.ensures ∙ c.in_default.is)

pub returns-in_err-test-clause-value : goal.returns-in_err-test-clause-value
returns-in_err-test-clause-value c = let a = c.args in
    let s = a.bytes.now in
    let at = a.cursor.at in
    let first = byte-given s at c.in-Some.kind c.in-Some.at_name (sym c.next_byte.ensures ∙ c.in-Some.is) in
    let none : c.test_of.result ≡ None = grind arith in
    let field : c.in_err-test.field-0.0 ≡ refusals.Field = grind arith in
    let p = err_from_is_err_and c.from_residual.result c.from_residual.ensures.1 in
    rw (p.1, p.2, field) (head-test s at c.in-Some.kind c.in-Some.at_name first (sym c.test_of.ensures ∙ none))

pub returns-in_err-name-clause-value : goal.returns-in_err-name-clause-value
returns-in_err-name-clause-value c = let a = c.args in
    let s = a.bytes.now in
    let at = a.cursor.at in
    let first = byte-given s at c.in-Some.kind c.in-Some.at_name (sym c.next_byte.ensures ∙ c.in-Some.is) in
    let test : c.test_of.result ≡ Some c.in_ok-test.test = grind arith in
    let p = err_from_is_err_and c.from_residual-in_err-name.result c.from_residual-in_err-name.ensures.1 in
    rw (p.1, p.2) (head-name s at c.in-Some.kind c.in-Some.at_name first c.in_ok-test.test (sym c.test_of.ensures ∙ test) c.in_err-name.field-0.0 (sym c.next_name.ensures ∙ c.in_err-name.was))

pub returns-in_default-next_byte-clause-value : goal.returns-in_default-next_byte-clause-value
returns-in_default-next_byte-clause-value c = let a = c.args in
    let s = a.bytes.now in
    let at = a.cursor.at in
    let first = byte-given s at c.in-Some.kind c.in-Some.at_name (sym c.next_byte.ensures ∙ c.in-Some.is) in
    let t = c.in_ok-test.test in
    let test : c.test_of.result ≡ Some t = grind arith in
    let name = c.in_ok-name.name in
    let d = c.in_ok-name.at_counts in
    head-refused s at c.in-Some.kind c.in-Some.at_name first t (sym c.test_of.ensures ∙ test) name d (sym c.next_name.ensures ∙ c.in_ok-name.was) refusals.Length
    (counts-none t name s d.at (sym c.next_byte-2.ensures ∙ c.in_default-next_byte.is))

pub returns-in_default-next_byte-2-clause-value : goal.returns-in_default-next_byte-2-clause-value
returns-in_default-next_byte-2-clause-value c = let a = c.args in
    let s = a.bytes.now in
    let at = a.cursor.at in
    let first = byte-given s at c.in-Some.kind c.in-Some.at_name (sym c.next_byte.ensures ∙ c.in-Some.is) in
    let t = c.in_ok-test.test in
    let test : c.test_of.result ≡ Some t = grind arith in
    let name = c.in_ok-name.name in
    let d = c.in_ok-name.at_counts in
    let one = byte-given s d.at c.in-Some-next_byte.steps c.in-Some-next_byte.at_blocks (sym c.next_byte-2.ensures ∙ c.in-Some-next_byte.is) in
    head-refused s at c.in-Some.kind c.in-Some.at_name first t (sym c.test_of.ensures ∙ test) name d (sym c.next_name.ensures ∙ c.in_ok-name.was) refusals.Length
    (counts-one t name s d.at c.in-Some-next_byte.steps c.in-Some-next_byte.at_blocks one (sym c.next_byte-3.ensures ∙ c.in_default-next_byte-2.is))

pub returns-then-steps-blocks-clause-value : goal.returns-then-steps-blocks-clause-value
returns-then-steps-blocks-clause-value c = let a = c.args in
    let s = a.bytes.now in
    let at = a.cursor.at in
    let first = byte-given s at c.in-Some.kind c.in-Some.at_name (sym c.next_byte.ensures ∙ c.in-Some.is) in
    let t = c.in_ok-test.test in
    let test : c.test_of.result ≡ Some t = grind arith in
    let name = c.in_ok-name.name in
    let d = c.in_ok-name.at_counts in
    let steps = c.in-Some-next_byte.steps in
    let blocks = c.in-Some-next_byte-2.blocks in
    let one = byte-given s d.at steps c.in-Some-next_byte.at_blocks (sym c.next_byte-2.ensures ∙ c.in-Some-next_byte.is) in
    let two = byte-given s c.in-Some-next_byte.at_blocks.at blocks c.in-Some-next_byte-2.next (sym c.next_byte-3.ensures ∙ c.in-Some-next_byte-2.is) in
    let place : c.in-Some-next_byte-2.next.at ≡ d.at + 2 = omega (arith, one.after, two.after) in
    ap (read_as (head_of t name steps blocks)) place
    ∙ head_read s at c.in-Some.kind c.in-Some.at_name first t (sym c.test_of.ensures ∙ test) name d (sym c.next_name.ensures ∙ c.in_ok-name.was) (head_of t name steps blocks) 2
    (counts-two t name s d.at steps c.in-Some-next_byte.at_blocks one blocks c.in-Some-next_byte-2.next two
    ∙ ap (λ (ok : Bool). behind 1 (behind 1 (allow ok (got (head_of t name steps blocks) 0)))) c.if-steps-blocks.true)

pub returns-clause-value : goal.returns-clause-value
returns-clause-value c = let a = c.args in
    let s = a.bytes.now in
    let at = a.cursor.at in
    let first = byte-given s at c.in-Some.kind c.in-Some.at_name (sym c.next_byte.ensures ∙ c.in-Some.is) in
    let t = c.in_ok-test.test in
    let test : c.test_of.result ≡ Some t = grind arith in
    let name = c.in_ok-name.name in
    let d = c.in_ok-name.at_counts in
    let steps = c.in-Some-next_byte.steps in
    let blocks = c.in-Some-next_byte-2.blocks in
    let one = byte-given s d.at steps c.in-Some-next_byte.at_blocks (sym c.next_byte-2.ensures ∙ c.in-Some-next_byte.is) in
    let two = byte-given s c.in-Some-next_byte.at_blocks.at blocks c.in-Some-next_byte-2.next (sym c.next_byte-3.ensures ∙ c.in-Some-next_byte-2.is) in
    head-refused s at c.in-Some.kind c.in-Some.at_name first t (sym c.test_of.ensures ∙ test) name d (sym c.next_name.ensures ∙ c.in_ok-name.was) refusals.Field
    (counts-two t name s d.at steps c.in-Some-next_byte.at_blocks one blocks c.in-Some-next_byte-2.next two
    ∙ ap (λ (ok : Bool). behind 1 (behind 1 (allow ok (got (head_of t name steps blocks) 0)))) c.if-steps-blocks.false)
