-- `put_yes_or_no`: a word for each answer.
use Rattle.line.proofs.Laws.{wrote_as}
use Rattle.line.specs.Line.{yes_or_no}
use native.Mathlib.Omega.{arith}
use mathlib.Core.Path.{sym, ap}
use Rattle.line.proofs.put_yes_or_no.Goals as goal

pub returns-then-yes : goal.returns-then-yes
returns-then-yes c = record { wrote = wrote_as (sym (ap yes_or_no c.if-yes.true)) c.put_word.ensures; upper_bound = omega (arith, c.put_word.ensures.place) }

pub returns : goal.returns
returns c = record { wrote = wrote_as (sym (ap yes_or_no c.if-yes.false)) c.put_word-2.ensures; upper_bound = omega (arith, c.put_word-2.ensures.place) }
