-- `bench::read_file` gives a word of what is read, from what its callees ensure.
use mathlib.Core.Path.{◌∙◌, ap}
use Rattle.decode.specs.declared.Decoded.{Decoded}
use Rattle.compare_files.specs.Files.{file_word}
use Rattle.bench.proofs.read_file.Goals as goal

pub returns : goal.returns
returns c = c.file_word.ensures ∙ ap (λ (d : Decoded). file_word d c.args.place) c.decode.ensures
