-- `compare_files::compare_written` writes what is read, from what its callees ensure.
use mathlib.Core.Path.{◌∙◌, ap}
use lib.ListN.{length}
use Rattle.decode.specs.declared.Decoded.{Decoded}
use Rattle.encode.specs.Encode.{encoded_of, output_of}
use Rattle.compare_files.specs.Files.{written_number}
use Rattle.compare_files.proofs.compare_written.Goals as goal

pub returns : goal.returns
returns c = let a = c.args in
    let read = c.decode-read.ensures in
    let wrote = c.encode.ensures in record { value = c.written_number.ensures ∙ ap written_number (wrote.value ∙ ap (λ (r : Decoded). encoded_of r.workout (length a.out.now)) read); out_after = wrote.out_after ∙ ap (λ (r : Decoded). output_of r.workout a.out.now) read }
