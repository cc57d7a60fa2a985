-- `tallies_ok`: targeted and unread are within the total, and a part above the whole makes the sum another number.
use borrow.Author.Tests.{ne_eqb}
use native.Mathlib.Omega.{arith}
use Rattle.standing.proofs.Laws.{sum-is-more, second_above, first_above, both-within}
use Rattle.standing.proofs.tallies_ok.Goals as goal

pub returns-then-total_ms-unread : goal.returns-then-total_ms-unread
returns-then-total_ms-unread c = let a = c.args in simp (second_above a.summary.targeted_ms a.summary.unread_ms a.total_ms c.if-total_ms-unread.true)

pub returns-then-total_ms-unread-2 : goal.returns-then-total_ms-unread-2
returns-then-total_ms-unread-2 c = let a = c.args in simp (first_above a.summary.targeted_ms a.summary.unread_ms a.total_ms c.if-total_ms-unread.false c.if-total_ms-unread-2.true)

pub returns-then-targeted-inside : goal.returns-then-targeted-inside
returns-then-targeted-inside c = let a = c.args in simp (both-within a.summary.targeted_ms a.summary.unread_ms a.total_ms c.if-total_ms-unread.false c.if-total_ms-unread-2.false, ne_eqb _ _ (sum-is-more a.summary.in_ms a.summary.under_ms a.summary.over_ms a.summary.targeted_ms (omega arith)))

pub returns-then-targeted-under : goal.returns-then-targeted-under
returns-then-targeted-under c = let a = c.args in simp (both-within a.summary.targeted_ms a.summary.unread_ms a.total_ms c.if-total_ms-unread.false c.if-total_ms-unread-2.false, ne_eqb _ _ (sum-is-more a.summary.in_ms a.summary.under_ms a.summary.over_ms a.summary.targeted_ms (omega arith)))

pub returns-then-targeted-over : goal.returns-then-targeted-over
returns-then-targeted-over c = let a = c.args in simp (both-within a.summary.targeted_ms a.summary.unread_ms a.total_ms c.if-total_ms-unread.false c.if-total_ms-unread-2.false, ne_eqb _ _ (sum-is-more a.summary.in_ms a.summary.under_ms a.summary.over_ms a.summary.targeted_ms (omega arith)))

pub returns : goal.returns
returns c = let a = c.args in simp (both-within a.summary.targeted_ms a.summary.unread_ms a.total_ms c.if-total_ms-unread.false c.if-total_ms-unread-2.false)
