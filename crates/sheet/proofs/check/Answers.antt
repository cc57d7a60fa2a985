-- `check`: question 16, then 17.
use native.Mathlib.Omega.{arith}
use Prim.Native.Nat.{ℕ, ◌+◌, ◌*◌}
use mathlib.Core.Path.{sym, ap, ◌∙◌}
use Rattle.sheet.proofs.Laws.{sized, not-sized, at-fault, no-fault}
use Rattle.sheet.proofs.check.Goals as goal

pub returns-then-not-is_sized : goal.returns-then-not-is_sized
returns-then-not-is_sized c = c.refused_at.ensures ∙ not-sized c.args.sheet.now (sym c.is_sized.ensures ∙ c.if-not-is_sized.true)

pub count_of-n-requires : goal.count_of-n-requires
count_of-n-requires c = omega (arith, (sized c.args.sheet.now (sym c.is_sized.ensures ∙ c.if-not-is_sized.false)).long)

pub first_fault-fault-requires : goal.first_fault-fault-requires
first_fault-fault-requires c = let z = sized c.args.sheet.now (sym c.is_sized.ensures ∙ c.if-not-is_sized.false) in
    (omega (arith, c.count_of-n.ensures.0, z.most), z.long ∙ ap (λ (n : ℕ). 2 + 9 * n) (sym c.count_of-n.ensures.0))

pub overflow_cast-fault : goal.overflow_cast-fault
overflow_cast-fault c = omega (arith, c.if-fault-n.true, c.count_of-n.ensures.1)

pub returns-then-fault-n : goal.returns-then-fault-n
returns-then-fault-n c = c.refused_at-then-fault-n.ensures ∙ at-fault c.args.sheet.now _ _ (sym c.is_sized.ensures ∙ c.if-not-is_sized.false) c.count_of-n.ensures.0 c.first_fault-fault.ensures c.if-fault-n.true

pub returns : goal.returns
returns c = c.accepted_all.ensures ∙ no-fault c.args.sheet.now _ _ (sym c.is_sized.ensures ∙ c.if-not-is_sized.false) c.count_of-n.ensures.0 c.first_fault-fault.ensures c.if-fault-n.false
