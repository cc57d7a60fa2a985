-- `first_fault`: what is left has the first fault of all.
use mathlib.Core.Path.{◌≡◌, sym, ◌∙◌}
use native.Mathlib.Omega.{arith}
use Rattle.sheet.proofs.Laws.{fault-start, fault-next, fault-here, fault-end}
use Rattle.sheet.proofs.first_fault.Goals as goal

pub loop-i-init : goal.loop-i-init
loop-i-init c = fault-start c.args.sheet.now c.args.n

pub returns-then-not-is_act : goal.returns-then-not-is_act
returns-then-not-is_act c = let a = c.args in fault-here a.sheet.now a.n c.loop-i.i (omega arith) (sym c.is_act.ensures ∙ c.if-not-is_act.true) ∙ c.loop-i.invariant

pub loop-i-preserved : goal.loop-i-preserved
loop-i-preserved c = let a = c.args in fault-next a.sheet.now a.n c.loop-i.i (omega arith) (sym c.is_act.ensures ∙ c.if-not-is_act.false) ∙ c.loop-i.invariant

pub returns : goal.returns
returns c = let a = c.args in let e : c.loop-i.i ≡ a.n = omega arith in sym e ∙ fault-end a.sheet.now a.n c.loop-i.i (omega arith) ∙ c.loop-i.invariant
