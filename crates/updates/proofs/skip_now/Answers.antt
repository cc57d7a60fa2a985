-- `skip_now`: done does nothing; else the step ends.
use Rattle.std.specs.Prelude.{Ok}
use Rattle.outcomes.proofs.Laws.{eventless-answers}
use Rattle.updates.proofs.Laws.{going-wants, skip-idle, skip-made}
use Rattle.rounds.proofs.Keeps.{not-done-below}
use Rattle.rounds.proofs.One.{next_fits}
use native.Mathlib.Omega.{arith}
use Rattle.updates.proofs.skip_now.Goals as goal

pub returns-then-core : goal.returns-then-core
returns-then-core c = eventless-answers _ _ c.args.player _ _ (Ok tt) c.plain.ensures (skip-idle c.args.player c.if-core.true)

pub next-moved-requires : goal.next-moved-requires
next-moved-requires c =
    let p = c.args.player in
    let pre = c.requires in
    let going = c.if-core.false in
    let below = not-done-below 0 0 p.workout p.core pre.stands.within going in (
      next_fits 0 0 p.workout p.core pre.stands.within,
      omega (arith, below, going-wants p.workout p.core _ pre.stands going pre.kinds_in),
      omega (arith, below, going-wants p.workout p.core _ pre.stands going pre.values_in),
    )

pub returns : goal.returns
returns c = skip-made c.args.player c.next-moved.result c.player_of-ended.result c.if-core.false c.next-moved.ensures c.player_of-ended.ensures
