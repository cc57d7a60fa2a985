-- `compare_places::add` plays one `add` with the arrays lent.
use mathlib.Core.Path.{ap}
use lib.ListN.{length}
use Rattle.outcomes.proofs.Laws.{answers-is}
use Rattle.player.specs.Calls.{add_of}
use Rattle.readings.specs.declared.Sample.{Sample}
use Rattle.compare_places.proofs.add.Goals as goal

pub returns : goal.returns
returns c = let a = c.args in
    answers-is
    (ap (λ (s : Sample). add_of a.player a.call.ms a.call.mm s a.call.profile (length a.kinds.now) (length a.values.now)) c.sample_of-sample.ensures)
    c.add.ensures
