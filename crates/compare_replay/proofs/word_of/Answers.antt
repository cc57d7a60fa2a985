-- `compare_replay::word_of` lends the first bytes: refusal and act from the call's answer, then words of all 80 bytes.
use mathlib.Core.Path.{sym, ◌∙◌}
use lib.Seq.{length_front}
use Rattle.common.proofs.Matches.{at_least}
use Rattle.compare_replay.specs.Replays.{places}
use Rattle.compare_replay.proofs.Laws.{lent-long, refusal-word, act-word, output-word}
use Rattle.compare_replay.proofs.word_of.Goals as goal

pub slice_bounds-replay-end : goal.slice_bounds-replay-end
slice_bounds-replay-end c = let a = c.args in sym (lent-long a.workout.now a.sheet.now a.given _ c.least-lent.ensures)

pub slice_bounds-word_at-end : goal.slice_bounds-word_at-end
slice_bounds-word_at-end c = let replay = c.replay-replayed in sym (length_front places replay.new.out c.least-lent.result replay.auto.out)

pub returns-in-0 : goal.returns-in-0
returns-in-0 c = let a = c.args in refusal-word a.workout.now a.sheet.now a.given _ c.least-lent.ensures a.place _ c.replay-replayed.ensures.value c.in-0.is

pub returns-in-1 : goal.returns-in-1
returns-in-1 c = let a = c.args in act-word a.workout.now a.sheet.now a.given _ c.least-lent.ensures a.place _ c.replay-replayed.ensures.value c.in-1.is

pub returns-in_default : goal.returns-in_default
returns-in_default c = let a = c.args in
    c.word_at.ensures
    ∙ output-word a.workout.now a.sheet.now a.given _ c.least-lent.ensures a.place _ c.replay-replayed.ensures.out_after (at_least 2 _ c.in_default.in_default-own.rest)
