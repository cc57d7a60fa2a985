-- std's number of the bytes read is theirs.
use mathlib.Core.Path.{ap, ◌∙◌}
use lib.ListN.{length}
use Rattle.le.specs.Le.{number_of}
use Rattle.le.proofs.Laws.{number-std, length_part}
use Rattle.le.proofs.get_u64.Goals as goal

pub returns : goal.returns
returns c =
    let a = c.args in
    c.from_le_bytes.ensures ∙ number-std c.bytes_at.result 7 (ap length c.bytes_at.ensures ∙ length_part a.bytes.now a.at 8 c.requires) ∙ ap number_of c.bytes_at.ensures
