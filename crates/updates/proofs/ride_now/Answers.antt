-- `ride_now`: 0 ms does nothing; else the loop on the core and its minute.
use Rattle.std.specs.Prelude.{Ok}
use Rattle.outcomes.proofs.Laws.{eventless-answers}
use Rattle.updates.proofs.Laws.{ride-idle, ride-made}
use lib.ListN.{length}
use mathlib.Core.Path.{◌≡◌}
use borrow.Author.Rules.{rules}
use Rattle.updates.proofs.ride_now.Goals as goal

pub returns-then-ms-eq0 : goal.returns-then-ms-eq0
returns-then-ms-eq0 c = eventless-answers _ _ c.args.player _ _ (Ok tt) c.plain.ensures (ride-idle c.args.player c.args.ms.0 c.args.mm.0 c.args.profile c.if-ms-eq0.true)

pub ride_core-ride-requires : goal.ride_core-ride-requires
ride_core-ride-requires c = let a = c.args in
    let sixty : length a.player.minute ≡ 60 = search (rules, c.well_formed.0.1.1.1.1.1.0) in
    (c.requires, sixty)

pub returns : goal.returns
returns c = let a = c.args in
    ride-made a.player a.ms.0 a.mm.0 a.profile c.ride_core-ride.result c.player_of-ridden.result c.if-ms-eq0.false c.ride_core-ride.ensures c.player_of-ridden.ensures
