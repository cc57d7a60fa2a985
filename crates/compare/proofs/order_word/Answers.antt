-- `compare::order_word` gives the facts of an order, and past them its positions.
use mathlib.Core.Path.{◌∙◌, ap}
use Prim.Native.Nat.{ℕ, ◌-◌, ◌%◌}
use Rattle.common.proofs.Matches.{past, at_least}
use Rattle.compare.specs.Answers.{order_facts, order_word, played_word}
use Rattle.order.specs.Order.{played_of}
use Rattle.compare.proofs.order_word.Goals as goal

pub returns-in-0 : goal.returns-in-0
unfolding order_word
returns-in-0 c = rw c.in-0.is (ap (λ (n : ℕ). n % 4294967296) c.played_len.ensures)

pub returns-in-1 : goal.returns-in-1
unfolding order_word
returns-in-1 c = rw c.in-1.is c.planned_secs.ensures

pub returns-then-has_untimed_steps : goal.returns-then-has_untimed_steps
unfolding order_word
returns-then-has_untimed_steps c = rw (c.in-2.is, ← c.has_untimed_steps.ensures, c.if-has_untimed_steps.true)

pub returns-else-has_untimed_steps : goal.returns-else-has_untimed_steps
unfolding order_word
returns-else-has_untimed_steps c = rw (c.in-2.is, ← c.has_untimed_steps.ensures, c.if-has_untimed_steps.false)

pub returns-in_default : goal.returns-in_default
unfolding order_word
returns-in_default c = let a = c.args in
    c.played_word.ensures
    ∙ ap played_word c.played_at.ensures
    ∙ past (order_facts a.workout) a.place (played_word (played_of a.workout (a.place - 3))) (at_least 3 _ c.in_default.in_default-own.rest)
