-- `history::is_whole` meets its contract: each return is the first question that fails, or that of the check word.
use mathlib.Core.Path.{sym, ◌∙◌}
use native.Mathlib.Omega.{arith}
use lib.ListN.{length-take}
use Rattle.history.proofs.Laws.{too_short, no-magic, no-version, no_body, no_end, by-check}
use Rattle.history.proofs.is_whole.Goals as goal

pub returns-then-bytes-lt6 : goal.returns-then-bytes-lt6
returns-then-bytes-lt6 c = too_short c.args.bytes.now c.if-bytes-lt6.true

pub returns-then-not-has_magic : goal.returns-then-not-has_magic
returns-then-not-has_magic c = no-magic c.args.bytes.now c.if-bytes-lt6.false (sym c.has_magic.ensures ∙ c.if-not-has_magic.true)

pub returns-then-bytes-lt-VERSION_1 : goal.returns-then-bytes-lt-VERSION_1
returns-then-bytes-lt-VERSION_1 c = no-version c.args.bytes.now c.if-bytes-lt6.false (sym c.has_magic.ensures ∙ c.if-not-has_magic.false) c.if-bytes-lt-VERSION_1.true

pub returns-then-body-lt-BODY_V1 : goal.returns-then-body-lt-BODY_V1
returns-then-body-lt-BODY_V1 c = no_body c.args.bytes.now c.if-bytes-lt6.false (sym c.has_magic.ensures ∙ c.if-not-has_magic.false) c.if-bytes-lt-VERSION_1.false (omega (arith, c.size_of-body.ensures.0))

pub returns-then-bytes-body : goal.returns-then-bytes-body
returns-then-bytes-body c = no_end c.args.bytes.now c.if-bytes-lt6.false (sym c.has_magic.ensures ∙ c.if-not-has_magic.false) c.if-bytes-lt-VERSION_1.false (omega (arith, c.size_of-body.ensures.0)) (omega (arith, c.size_of-body.ensures.0))

pub slice_bounds-crc32-end : goal.slice_bounds-crc32-end
slice_bounds-crc32-end c = simp length-take (omega arith)

pub returns : goal.returns
returns c = rw (c.crc32.ensures, c.get_u32.ensures) (by-check c.args.bytes.now c.if-bytes-lt6.false (sym c.has_magic.ensures ∙ c.if-not-has_magic.false) c.if-bytes-lt-VERSION_1.false (omega (arith, c.size_of-body.ensures.0)) c.size_of-body.result c.size_of-body.ensures.0 c.if-bytes-body.false)
