-- `compare_cut::join_one` passes over a countdown and mixes any other event.
use borrow.Author.Tests.{eq-eqb, ne_eqb}
use borrow.Author.Rules.{rules}
use Rattle.compare_cut.proofs.join_one.Goals as goal

pub returns-then-kind-eq0 : goal.returns-then-kind-eq0
returns-then-kind-eq0 c = (simp (eq-eqb _ _ c.if-kind-eq0.true), search rules)

pub returns : goal.returns
returns c = (simp (ne_eqb _ _ c.if-kind-eq0.false) c.mix.ensures.0, c.mix.ensures.1)
