-- `share`: the want up to the level, which cuts none where the supply bears all.
use mathlib.Core.Path.{sym, ap, ◌∙◌}
use mathlib.Core.List.{List}
use Prim.Native.Nat.{ℕ, min}
use lib.ListN.{get_or}
use Rattle.supply.specs.Supply.{level_of}
use Rattle.supply.proofs.Laws.{grants-are, place_at}
use Rattle.supply.proofs.share.Goals as goal

pub returns : goal.returns
returns c =
    let a = c.args in
    c.up_to.ensures
    ∙ ap (min (get_or a.wants a.bike 0)) c.level.ensures
    ∙ sym (ap (λ (grants : List ℕ). get_or grants a.bike 0) (grants-are a.wants a.supply) ∙ place_at (level_of a.wants a.supply) a.wants a.bike)
