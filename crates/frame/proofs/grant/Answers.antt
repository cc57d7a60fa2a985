-- `grant`: the bikes from i on answer as all do, and the wants of those before i are filled in.
use Rattle.std.specs.Prelude.{Ok}
use mathlib.Core.Path.{sym, ap, ap₂, ◌∙◌}
use mathlib.Core.List.{List}
use Prim.Native.Nat.{ℕ}
use native.Mathlib.Omega.{arith}
use lib.ListN.{get_or, set}
use Rattle.supply.specs.Supply.{grants_of}
use Rattle.frame.proofs.Laws.{asked-fits, next-bike, this-bike, next-want, filled, all_asked, no_such_bike, grant-is}
use Rattle.frame.proofs.grant.Goals as goal

pub returns-then-bike-gt3 : goal.returns-then-bike-gt3
returns-then-bike-gt3 c = let a = c.args in c.no_grant.ensures ∙ no_such_bike a.bikes a.supply a.bike c.if-bike-gt3.true

pub returns-in-Err : goal.returns-in-Err
returns-in-Err c =
    let a = c.args in
    let l = c.loop-i in
    c.no_grant-in-Err.ensures
    ∙ grant-is a.bikes a.supply a.bike _ (omega (arith, c.if-bike-gt3.false))
    (sym l.invariant.0 ∙ this-bike a.bikes l.i _ (omega arith) _ (sym c.bike_answer.ensures ∙ c.in-Err.is))

pub want-requires : goal.want-requires
want-requires c = asked-fits _ (sym c.bike_answer.ensures ∙ c.in_default.is)

pub loop-i-preserved : goal.loop-i-preserved
loop-i-preserved c =
    let a = c.args in
    let l = c.loop-i in (
      sym (next-bike a.bikes l.i _ (omega arith) (sym c.bike_answer.ensures ∙ c.in_default.is)) ∙ l.invariant.0,
      ap₂ (λ (w : List ℕ) (n : ℕ). set w l.i n) l.invariant.1 c.want.ensures ∙ next-want a.bikes l.i _ (omega arith) 4 (omega arith),
    )

pub returns : goal.returns
returns c =
    let a = c.args in
    let l = c.loop-i in
    ap (λ (w : ℕ). record { answer = (Ok tt); watts = w })
    (c.share.ensures ∙ ap (λ (wants : List ℕ). get_or (grants_of wants a.supply) a.bike 0) (l.invariant.1 ∙ filled a.bikes l.i 4 (omega arith) (omega arith)))
    ∙ grant-is a.bikes a.supply a.bike (Ok tt) (omega (arith, c.if-bike-gt3.false)) (sym l.invariant.0 ∙ all_asked a.bikes l.i (omega arith))
