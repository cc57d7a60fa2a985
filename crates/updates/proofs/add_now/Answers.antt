-- `add_now`: 0 ms does nothing; else the reading is taken, and the core still stands.
use Rattle.std.specs.Prelude.{Ok}
use Rattle.outcomes.proofs.Laws.{answers-is, eventless-answers}
use Rattle.updates.proofs.Laws.{add-idle, add-rode, read-supposes}
use Rattle.updates.proofs.add_now.Goals as goal

pub returns-then-ms-eq0 : goal.returns-then-ms-eq0
returns-then-ms-eq0 c = let a = c.args in
    eventless-answers _ _ a.player _ _ (Ok tt) c.plain.ensures (add-idle a.player a.ms.0 a.mm.0 a.sample a.profile c.if-ms-eq0.true)

pub ride_now-requires : goal.ride_now-requires
ride_now-requires c = let a = c.args in
    rw (c.with_core-taken.ensures, c.read.ensures) (read-supposes a.player.workout a.player.core a.sample a.ms.0 a.mm.0 _ _ c.requires.0 c.requires.1)

pub returns : goal.returns
returns c = let a = c.args in
    answers-is (add-rode a.player a.ms.0 a.mm.0 a.sample a.profile c.if-ms-eq0.false) (rw (c.with_core-taken.ensures, c.read.ensures) at c.ride_now.ensures)
