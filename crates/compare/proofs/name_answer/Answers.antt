-- `compare::name_answer` gives a name, from what its callees ensure.
use mathlib.Core.Path.{◌∙◌, ap}
use Rattle.compare.specs.Answers.{name_answer, name_word}
use Rattle.names.specs.declared.Name.{Name}
use Rattle.compare.proofs.name_answer.Goals as goal

pub returns : goal.returns
unfolding name_answer
returns c = c.name_word.ensures ∙ ap (λ (name : Name). name_word name c.args.place) c.from_bytes.ensures
