-- `compare_records::record_word` gives a word of what is read.
use mathlib.Core.Path.{ap, ◌∙◌}
use Rattle.history.specs.declared.RecordRead.{RecordRead}
use Rattle.compare_records.specs.Records.{read_word}
use Rattle.compare_records.proofs.record_word.Goals as goal

pub returns : goal.returns
returns c = let a = c.args in c.read_word.ensures ∙ ap (λ (r : RecordRead). read_word r a.place) c.decode.ensures
