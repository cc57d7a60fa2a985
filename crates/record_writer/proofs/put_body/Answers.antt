-- `put_body`: five runs, one written behind the other.
use mathlib.Core.Path.{◌≡◌}
use lib.ListN.{length}
use Rattle.record_writer.proofs.Laws.{body-written}
use borrow.Author.Rules.{rules}
use Rattle.record_writer.proofs.put_body.Goals as goal

pub returns : goal.returns
returns c = let a = c.args in
    let fits : length a.stored.name.bytes ≡ 20 = search (rules, c.well_formed.1) in
    body-written a.stored a.out.now fits c.requires.1 c.put_first.ensures c.put_ride.ensures c.put_text.ensures c.put_counts.ensures c.put_times.ensures
