-- `put_outcome`: by the answer's cases.
use Rattle.std.specs.Prelude.{Result, ⊤}
use Rattle.refusal.specs.declared.Refusal.{Refusal}
use Rattle.line.proofs.Laws.{wrote_as}
use Rattle.line.specs.Line.{outcome_by}
use mathlib.Core.Path.{sym, ap}
use borrow.Author.Rules.{rules}
use Rattle.line.proofs.put_outcome.Goals as goal

pub returns-in-Ok : goal.returns-in-Ok
returns-in-Ok c = let a = c.args in
    record { wrote = wrote_as (sym (ap (λ (x : Result ⊤ Refusal). outcome_by x a.act a.s) c.in-Ok.is)) c.put_summary.ensures.wrote; upper_bound = search rules }

pub returns-in-Err : goal.returns-in-Err
returns-in-Err c = let a = c.args in
    record { wrote = wrote_as (sym (ap (λ (x : Result ⊤ Refusal). outcome_by x a.act a.s) c.in-Err.is)) c.put_refusal.ensures.wrote; upper_bound = search rules }
