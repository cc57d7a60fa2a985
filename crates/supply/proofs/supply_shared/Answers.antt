-- `supply_shared`: the laws of four wants.
use mathlib.Core.Path.{refl}
use mathlib.Core.List.{[], ◌∷◌}
use Rattle.supply.proofs.Laws.{shared-is}
use Rattle.supply.proofs.supply_shared.Goals as goal

pub returns : goal.returns
returns c = record { shared = λ a b c d supply. shared-is (a ∷ b ∷ c ∷ d ∷ []) supply refl }
