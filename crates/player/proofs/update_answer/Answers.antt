-- `update_answer`: one case for each limit.
use Rattle.player.specs.Calls.{update_answer}
use mathlib.Core.Path.{sym, ◌∙◌}
use borrow.Author.Tests.{le-leb, lt-leb}
use Rattle.player.proofs.update_answer.Goals as goal

pub returns-then-ms-gt86400000 : goal.returns-then-ms-gt86400000
unfolding update_answer
returns-then-ms-gt86400000 c = simp (lt-leb _ _ c.if-ms-gt86400000.true)

pub returns-then-mm-gt1000000000 : goal.returns-then-mm-gt1000000000
unfolding update_answer
returns-then-mm-gt1000000000 c = simp (le-leb _ _ c.if-ms-gt86400000.false, lt-leb _ _ c.if-mm-gt1000000000.true)

pub returns-then-core-ms-gt604800000 : goal.returns-then-core-ms-gt604800000
unfolding update_answer
returns-then-core-ms-gt604800000 c = simp (le-leb _ _ c.if-ms-gt86400000.false, le-leb _ _ c.if-mm-gt1000000000.false, lt-leb _ _ c.if-core-ms-gt604800000.true)

pub returns-then-core-mm-gt7000000000 : goal.returns-then-core-mm-gt7000000000
unfolding update_answer
returns-then-core-mm-gt7000000000 c = simp (le-leb _ _ c.if-ms-gt86400000.false, le-leb _ _ c.if-mm-gt1000000000.false, le-leb _ _ c.if-core-ms-gt604800000.false, lt-leb _ _ c.if-core-mm-gt7000000000.true)

pub returns-then-not-places_ok : goal.returns-then-not-places_ok
unfolding update_answer
returns-then-not-places_ok c = simp (le-leb _ _ c.if-ms-gt86400000.false, le-leb _ _ c.if-mm-gt1000000000.false, le-leb _ _ c.if-core-ms-gt604800000.false, le-leb _ _ c.if-core-mm-gt7000000000.false, sym c.places_ok.ensures ∙ c.if-not-places_ok.true)

pub returns : goal.returns
unfolding update_answer
returns c = simp (le-leb _ _ c.if-ms-gt86400000.false, le-leb _ _ c.if-mm-gt1000000000.false, le-leb _ _ c.if-core-ms-gt604800000.false, le-leb _ _ c.if-core-mm-gt7000000000.false, sym c.places_ok.ensures ∙ c.if-not-places_ok.false)
