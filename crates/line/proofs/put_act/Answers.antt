-- `put_act`: nothing where no act is named, else its field.
use Rattle.line.proofs.Laws.{wrote_none, wrote_as}
use Rattle.line.specs.Line.{act_text}
use mathlib.Core.Path.{sym, ap}
use borrow.Author.Rules.{rules}
use Rattle.line.proofs.put_act.Goals as goal

pub returns-in-None : goal.returns-in-None
returns-in-None c = let a = c.args in
    record { wrote = wrote_as (sym (ap act_text c.in-None.is)) (wrote_none a.out.now a.at); upper_bound = search rules }

pub returns-in-Some : goal.returns-in-Some
returns-in-Some c = record { wrote = wrote_as (sym (ap act_text c.in-Some.is)) c.put_field.ensures.wrote; upper_bound = search rules }
