-- `put_refusal`: the question's number, then the act.
use Rattle.line.proofs.Laws.{wrote_then, wrote_as}
use Rattle.line.specs.Line.{refusal_text, refused_word, field_of}
use lib.ListN.{length}
use native.Mathlib.Omega.{arith}
use Prim.Native.Nat.{◌≤◌}
use mathlib.Core.Path.{ap}
use borrow.Author.Rules.{rules}
use Rattle.line.proofs.put_refusal.Goals as goal

pub returns : goal.returns
unfolding refusal_text
returns c = let a = c.args in
    let h : 0 ≤ length a.out.now = omega arith in
    record { wrote = wrote_then h (wrote_as (ap (field_of refused_word) c.number-number.ensures) c.put_field-next.ensures.wrote) c.put_act.ensures.wrote; upper_bound = search rules }
