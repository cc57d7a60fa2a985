-- `until_end`: questions 20 and 12, then the part.
use Rattle.common.proofs.Tests.{and_left, and_right}
use borrow.Author.Tests.{leb-true}
use lib.Dec.{leb}
use Rattle.reports.specs.Reports.{until_of}
use mathlib.Core.Path.{sym, ◌∙◌}
use Rattle.reports.proofs.until_end.Goals as goal

pub until_end-requires : goal.until_end-requires
until_end-requires c = let a = c.args in (leb-true a.ms.0 86400000 (and_left (leb a.ms.0 86400000) (leb a.mm.0 1000000000) c.if-ms-mm.true), leb-true a.mm.0 1000000000 (and_right (leb a.ms.0 86400000) (leb a.mm.0 1000000000) c.if-ms-mm.true))

pub returns-then-ms-mm : goal.returns-then-ms-mm
unfolding until_of
returns-then-ms-mm c = simp (sym c.is_standing.ensures ∙ c.if-is_standing.true, c.if-ms-mm.true, c.until_end.ensures)

pub returns-then-is_standing : goal.returns-then-is_standing
unfolding until_of
returns-then-is_standing c = simp (sym c.is_standing.ensures ∙ c.if-is_standing.true, c.if-ms-mm.false, c.no_part.ensures)

pub returns : goal.returns
unfolding until_of
returns c = simp (sym c.is_standing.ensures ∙ c.if-is_standing.false, c.no_part-2.ensures)
