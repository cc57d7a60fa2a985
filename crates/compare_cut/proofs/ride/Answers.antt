-- `compare_cut::ride` lends as many places as the call names.
use mathlib.Core.Path.{◌∙◌, ap}
use Prim.Native.Nat.{ℕ, min}
use native.Mathlib.Omega.{arith}
use lib.ListN.{take}
use Rattle.compare_player.proofs.Laws.{places-long}
use Rattle.compare_cut.specs.Cuts.{ride_in, places}
use Rattle.compare_cut.proofs.ride.Goals as goal

pub slice_bounds-ride_in-end : goal.slice_bounds-ride_in-end
slice_bounds-ride_in-end c = places-long 200 c.places_of-k.result (omega (arith, c.places_of-k.ensures))

pub slice_bounds-ride_in-end-2 : goal.slice_bounds-ride_in-end-2
slice_bounds-ride_in-end-2 c = places-long 200 c.places_of-v.result (omega (arith, c.places_of-v.ensures))

pub returns : goal.returns
returns c = let a = c.args in
    c.ride_in.ensures.turn
    ∙ ap (λ (k : ℕ). ride_in a.player a.call (take k places) (take c.places_of-v.result places) a.check) c.places_of-k.ensures
    ∙ ap (λ (v : ℕ). ride_in a.player a.call (take (min a.call.power 200) places) (take v places) a.check) c.places_of-v.ensures
