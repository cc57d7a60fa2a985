-- `compare_records::record_made` writes the record of the fields, from what its callees ensure.
use mathlib.Core.Path.{ap, ◌∙◌}
use lib.ListN.{length}
use Rattle.refusal.specs.Number.{answer_number}
use Rattle.history.specs.declared.Record.{Record}
use Rattle.record_writer.specs.Write.{write_answer, output_of}
use Rattle.compare_records.proofs.record_made.Goals as goal

pub returns : goal.returns
returns c = let a = c.args in
    let stored = c.made-stored.ensures in
    let wrote = c.encode.ensures in record { value = c.refused_number.ensures ∙ ap answer_number (wrote.value ∙ ap (λ (r : Record). write_answer r (length a.out.now)) stored); out_after = wrote.out_after ∙ ap (λ (r : Record). output_of r a.out.now) stored }
