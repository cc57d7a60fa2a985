-- `place_at`: `before` in the order from step i on is `position` in the whole order.
use Rattle.std.specs.Prelude.{Option, Some}
use Rattle.model.specs.declared.Block.{Block}
use mathlib.Core.List.{List}
use mathlib.Core.Path.{◌≡◌, ◌∙◌, sym, ap}
use Prim.Native.Nat.{◌+◌, ℕ, ◌-◌}
use native.Mathlib.Omega.{arith}
use lib.ListN.{take}
use Rattle.order.specs.Order.{block_at, piece_len, place_in, nth}
use Rattle.order.specs.declared.Place.{Place}
use Rattle.order.proofs.Laws.{from_start, from, look-here, look-past, look-end}
use Rattle.order.proofs.place_at.Goals as goal

pub loop-i-init : goal.loop-i-init
loop-i-init c = let a = c.args in ap (λ (xs : List Place). nth xs a.position) (from_start (take a.count a.blocks) a.steps)

pub returns-then-before-size : goal.returns-then-before-size
returns-then-before-size c = let a = c.args in
    let l = c.loop-i in
    let bs = take a.count a.blocks in
    let size : c.piece_len-size.result ≡ piece_len (block_at bs l.i) l.i = c.piece_len-size.ensures ∙ ap (λ (f : Option Block). piece_len f l.i) c.block_at-found.ensures in
    ap (λ (p : Place). Some p) (c.place_in.ensures ∙ ap (λ (f : Option Block). place_in f l.i l.before) c.block_at-found.ensures)
    ∙ sym (look-here bs a.steps l.i l.before (omega arith) (omega arith)) ∙ l.invariant

pub loop-i-preserved : goal.loop-i-preserved
loop-i-preserved c = let a = c.args in
    let l = c.loop-i in
    let bs = take a.count a.blocks in
    let size : c.piece_len-size.result ≡ piece_len (block_at bs l.i) l.i = c.piece_len-size.ensures ∙ ap (λ (f : Option Block). piece_len f l.i) c.block_at-found.ensures in
    ap (λ (n : ℕ). nth (from bs a.steps (l.i + 1)) (l.before - n)) size ∙ look-past bs a.steps l.i l.before (omega arith) (omega arith) ∙ l.invariant

pub returns : goal.returns
returns c = let a = c.args in
    let l = c.loop-i in
    sym (look-end (take a.count a.blocks) a.steps l.i l.before (omega arith)) ∙ l.invariant
