-- `compare_files::question_word` gives a word of the answer: the two questions on files, and all others by `compare`.
use mathlib.Core.Path.{◌∙◌, ap}
use borrow.Author.Tests.{ne_eqb}
use Rattle.decode.specs.declared.Decoded.{Decoded}
use Rattle.compare_files.specs.Files.{file_word, question_word}
use Rattle.compare_files.proofs.question_word.Goals as goal

pub returns-in-11 : goal.returns-in-11
unfolding question_word
returns-in-11 c = rw c.in-11.is (c.file_word.ensures ∙ ap (λ (d : Decoded). file_word d c.args.place) c.decode.ensures)

pub returns-in-12 : goal.returns-in-12
unfolding question_word
returns-in-12 c = rw c.in-12.is c.written_word.ensures

pub returns-in_default : goal.returns-in_default
unfolding question_word
returns-in_default c = simp (ne_eqb _ _ c.in_default.in_default-own.rest.0.1, ne_eqb _ _ c.in_default.in_default-own.rest.1) c.compare_answer.ensures
