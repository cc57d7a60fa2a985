-- `skipped_bike`: the call's player, and the bike's profile.
use mathlib.Core.Path.{ap}
use Rattle.state.specs.declared.Player.{Player}
use Rattle.machine.specs.Runs.{called}
use Rattle.class.proofs.skipped_bike.Goals as goal

pub returns : goal.returns
unfolding called
returns c =
    let b = c.args.bike in
    ap (λ (p : Player). record { player = p; profile = b.profile }) c.skip-update.ensures.player
