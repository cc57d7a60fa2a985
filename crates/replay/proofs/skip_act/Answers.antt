-- `skip_act`: done does nothing; else the step ends.
use Rattle.replay.proofs.Laws.{skip-none, skip-moved}
use Rattle.replay.proofs.skip_act.Goals as goal

pub returns-then-core : goal.returns-then-core
returns-then-core c = skip-none c.args.workout c.args.core _ _ _ c.if-core.true c.eventless.ensures

pub returns : goal.returns
returns c = skip-moved c.args.workout c.args.core _ _ _ _ c.next-moved.result c.if-core.false c.next-moved.ensures
