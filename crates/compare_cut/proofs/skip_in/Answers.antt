-- `compare_cut::skip_in` plays one skip with the arrays lent: the call's answer and its arrays, in words.
use mathlib.Core.Path.{◌∙◌, ap}
use Rattle.compare_player.specs.Calls.{turn_of}
use Rattle.compare_cut.proofs.Laws.{answers-cut}
use Rattle.compare_cut.proofs.skip_in.Goals as goal

pub returns : goal.returns
returns c = let a = c.args in
    let answers = c.skip-update.ensures in
    record {
      turn =
          c.turn_of.ensures
          ∙ ap (turn_of c.skip-update.result) c.join.ensures
          ∙ answers-cut a.check c.skip-update.auto.kinds c.skip-update.auto.values answers;
      kinds = answers.wrote.kinds;
      values = answers.wrote.values;
    }
