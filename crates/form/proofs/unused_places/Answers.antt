-- `unused_places`: the statement is proved in Laws.antt.
use Rattle.form.proofs.Laws.{unused-places}
use Rattle.form.proofs.unused_places.Goals as goal

pub returns : goal.returns
returns c = unused-places
