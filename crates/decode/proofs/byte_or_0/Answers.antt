-- `decode::byte_or_0` meets its contract: past the end a list reads as 0.
use lib.ListN.{get_or-eq_default}
use mathlib.Core.Path.{sym, refl}
use Rattle.decode.proofs.byte_or_0.Goals as goal

pub returns-then-at-bytes : goal.returns-then-at-bytes
returns-then-at-bytes c = refl

pub returns-else-at-bytes : goal.returns-else-at-bytes
returns-else-at-bytes c = sym (get_or-eq_default c.args.bytes.now 0 {n = c.args.at} c.if-at-bytes.false)
