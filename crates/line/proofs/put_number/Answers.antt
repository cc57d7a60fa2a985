-- `put_number`: the digits that `decimal` gives, at most 20, are the number's text.
use Rattle.line.proofs.Laws.{wrote_as, decimal-is, most-places}
use native.Mathlib.Omega.{arith}
use Prim.Native.Nat.{◌≤◌}
use mathlib.Core.Path.{◌∙◌}
use Rattle.line.proofs.put_number.Goals as goal

pub put_word-requires : goal.put_word-requires
put_word-requires c = let d = c.decimal-k in
    let few : d.result ≤ 20 = most-places d.result c.args.n c.ranges.n.fits d.ensures.len in
    omega (arith, d.ensures.in_bounds.1)

pub returns : goal.returns
returns c = let d = c.decimal-k in
    let a = c.args in
    let few : d.result ≤ 20 = most-places d.result a.n c.ranges.n.fits d.ensures.len in
    record { wrote = wrote_as (d.ensures.digits ∙ decimal-is d.result a.n few d.ensures.len) c.put_word.ensures; upper_bound = omega (arith, c.put_word.ensures.place, d.ensures.in_bounds.1) }
