-- `asked_grant`: the call's watts.
use mathlib.Core.Path.{ap}
use Rattle.frame.specs.declared.Granted.{Granted}
use Rattle.bench.specs.Grants.{asked_watts}
use Rattle.bench.proofs.asked_grant.Goals as goal

pub returns : goal.returns
unfolding asked_watts
returns c = ap (λ (g : Granted). g.watts) c.grant-granted.ensures
