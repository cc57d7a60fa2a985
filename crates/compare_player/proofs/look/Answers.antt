-- `compare_player::look` puts the reports beside a call's player.
use mathlib.Core.Path.{ap}
use Rattle.compare_reports.specs.declared.Reported.{Reported}
use Rattle.compare_player.specs.declared.Seen.{Seen}
use Rattle.compare_player.proofs.look.Goals as goal

pub returns : goal.returns
returns c = let a = c.args in ap (λ (r : Reported). let s : Seen = record { player = a.turn.player; given = a.turn.given; reported = r } in s) c.report-reported.ensures
