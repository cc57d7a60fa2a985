-- `place_at`: `before` in the order from step i on is `position` in the whole order.
use mathlib.Core.Path.{◌≡◌}
use lib.ListN.{take}
use Rattle.order.specs.Order.{order, nth}
use Rattle.order.proofs.Laws.{from}
use Rattle.order.proofs.place_at.Given as goal

abbrev pub invariant-loop-i : goal.invariant-loop-i
invariant-loop-i l = nth (from (take l.count l.blocks) l.steps l.i) l.before ≡ nth (order l.steps (take l.count l.blocks)) l.position
