-- `compare_cut::next_cut` plays the next call after the last of 13 words.
use borrow.Author.Tests.{eq-eqb, ne_eqb}
use Rattle.compare_cut.specs.Cuts.{next_cut}
use Rattle.compare_cut.proofs.next_cut.Goals as goal

pub returns-then-i-eq12 : goal.returns-then-i-eq12
unfolding next_cut
returns-then-i-eq12 c = simp (eq-eqb _ _ c.if-i-eq12.true) c.take_turn.ensures

pub returns : goal.returns
unfolding next_cut
returns c = simp (ne_eqb _ _ c.if-i-eq12.false)
