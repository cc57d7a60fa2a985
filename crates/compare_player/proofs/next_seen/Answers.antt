-- `compare_player::next_seen` plays the next call after the last of 80 words.
use borrow.Author.Tests.{eq-eqb, ne_eqb}
use Rattle.compare_player.specs.Calls.{next_seen}
use Rattle.compare_player.proofs.next_seen.Goals as goal

pub returns-then-i-eq79 : goal.returns-then-i-eq79
unfolding next_seen
returns-then-i-eq79 c = simp (eq-eqb _ _ c.if-i-eq79.true) c.take_turn.ensures

pub returns : goal.returns
unfolding next_seen
returns c = simp (ne_eqb _ _ c.if-i-eq79.false)
