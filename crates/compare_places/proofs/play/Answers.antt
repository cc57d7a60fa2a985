-- `compare_places::play` lends arrays of its own.
use mathlib.Core.Path.{◌∙◌, sym, ap}
use Prim.Native.Nat.{ℕ}
use Rattle.compare_player.proofs.Laws.{places-long}
use Rattle.compare_places.specs.Places.{called_of}
use Rattle.compare_places.proofs.play.Goals as goal

pub slice_bounds-update-end : goal.slice_bounds-update-end
slice_bounds-update-end c = places-long 193 c.lent-n.result c.lent-n.ensures.1

pub slice_bounds-update-end-2 : goal.slice_bounds-update-end-2
slice_bounds-update-end-2 c = places-long 193 c.lent-n.result c.lent-n.ensures.1

pub returns : goal.returns
returns c = let a = c.args in
    c.update-given.ensures.player
    ∙ ap (λ (n : ℕ). (called_of a.player a.call n n).player) (sym (places-long 193 c.lent-n.result c.lent-n.ensures.1) ∙ c.lent-n.ensures.0)
