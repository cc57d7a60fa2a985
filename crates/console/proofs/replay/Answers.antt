-- `replay`: what the replay gives, in numbers.
use Rattle.console.specs.Console.{replayed_of}
use mathlib.Core.Path.{ap, ◌∙◌}
use Rattle.console.proofs.replay.Goals as goal

pub returns : goal.returns
returns c = record { value = c.in_numbers.ensures ∙ ap replayed_of c.replay.ensures.value; out_after = c.replay.ensures.out_after }
