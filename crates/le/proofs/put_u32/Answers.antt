-- std's bytes of the number are its own.
use mathlib.Core.Path.{ap, ◌∙◌}
use Rattle.le.specs.Le.{written}
use Rattle.le.proofs.Laws.{bytes-std}
use Rattle.le.proofs.put_u32.Goals as goal

pub returns : goal.returns
returns c =
    let a = c.args in
    c.put_bytes.ensures ∙ ap (written a.bytes.now a.at) (c.to_le_bytes.ensures ∙ bytes-std 4 a.value)
