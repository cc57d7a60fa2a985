-- `compare_places::lent` gives the places told, of 193 at most, or 193.
use mathlib.Core.Path.{◌∙◌, ap}
use Prim.Native.Nat.{min}
use native.Mathlib.Omega.{arith}
use Rattle.reports.specs.declared.PlacesRead.{PlacesRead}
use Rattle.compare_places.specs.Places.{lent_to}
use Rattle.compare_places.proofs.lent.Goals as goal

pub returns-then-exact : goal.returns-then-exact
unfolding lent_to
returns-then-exact c = (
  simp c.if-exact.true (c.least.ensures ∙ ap (λ (told : PlacesRead). min told.places 193) c.event_places-told.ensures),
  omega (arith, c.least.ensures),
)

pub returns : goal.returns
unfolding lent_to
returns c = (simp c.if-exact.false, omega arith)
