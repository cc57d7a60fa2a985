-- `put_watts`: by the reading's cases.
use Rattle.line.proofs.Laws.{wrote_as}
use Rattle.line.specs.Line.{watts_or_none}
use native.Mathlib.Omega.{arith}
use mathlib.Core.Path.{sym, ap}
use borrow.Author.Rules.{rules}
use Rattle.line.proofs.put_watts.Goals as goal

pub returns-in-None : goal.returns-in-None
returns-in-None c = record { wrote = wrote_as (sym (ap watts_or_none c.in-None.is)) c.put_word.ensures; upper_bound = omega (arith, c.put_word.ensures.place) }

pub returns-in-Some : goal.returns-in-Some
returns-in-Some c = record { wrote = wrote_as (sym (ap watts_or_none c.in-Some.is)) c.put_number.ensures.wrote; upper_bound = search rules }
