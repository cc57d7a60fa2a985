-- `Name::is_blank`: a name of no bytes passes question 5 exactly when its padding is 0.
use mathlib.Core.Bool.{Bool, ◌&&◌}
use mathlib.Core.Path.{◌∙◌, ap}
use lib.Dec.{eqb}
use Rattle.names.proofs.Laws.{blank-is}
use Rattle.names.proofs.Name.is_blank.Goals as goal

pub returns : goal.returns
returns c = let n = c.args.self in ap (λ (t : Bool). eqb n.len 0 && t) c.check.ensures ∙ blank-is n.len n.bytes
