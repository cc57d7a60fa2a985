-- `after_skip`: one place changes.
use mathlib.Core.Path.{ap, ◌∙◌}
use lib.ListN.{set}
use native.Mathlib.Omega.{arith}
use Rattle.frame.specs.declared.Bike.{Bike}
use Rattle.machine.specs.Cutting.{skip}
use Rattle.frame_records.specs.Apart.{after_call}
use Rattle.class.proofs.Laws.{set-changed}
use Rattle.class.proofs.after_skip.Goals as goal

pub returns : goal.returns
returns c =
    let a = c.args in
    ap (λ (b : Bike). set a.bikes a.bike b) c.skipped_bike.ensures ∙ set-changed (after_call (skip 3 3)) a.bikes a.bike _ (omega arith)
