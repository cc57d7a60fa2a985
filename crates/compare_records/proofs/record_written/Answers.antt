-- `compare_records::record_written` writes what is read, from what its callees ensure.
use mathlib.Core.Path.{ap, ◌∙◌}
use lib.ListN.{length}
use Rattle.refusal.specs.Number.{answer_number}
use Rattle.history.specs.declared.RecordRead.{RecordRead}
use Rattle.record_writer.specs.Write.{write_answer, output_of}
use Rattle.compare_records.proofs.record_written.Goals as goal

pub returns : goal.returns
returns c = let a = c.args in
    let read = c.decode-read.ensures in
    let wrote = c.encode.ensures in record { value = c.refused_number.ensures ∙ ap answer_number (wrote.value ∙ ap (λ (r : RecordRead). write_answer r.«record» (length a.out.now)) read); out_after = wrote.out_after ∙ ap (λ (r : RecordRead). output_of r.«record» a.out.now) read }
