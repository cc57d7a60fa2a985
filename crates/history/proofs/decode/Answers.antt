-- `history::decode` meets its contract: each return is what question 18 says, or the record.
use mathlib.Core.Path.{sym, ap, ◌∙◌}
use native.Mathlib.Omega.{arith}
use Rattle.history.specs.Decode.{read_as}
use Rattle.history.proofs.Laws.{whole_length, not-whole, long-name, no_test, record-read}
use Rattle.history.proofs.decode.Goals as goal

pub returns-then-not-is_whole : goal.returns-then-not-is_whole
returns-then-not-is_whole c = c.no_record.ensures ∙ not-whole c.args.bytes.now (sym c.is_whole.ensures ∙ c.if-not-is_whole.true)

pub bounds-bytes-20 : goal.bounds-bytes-20
bounds-bytes-20 c = omega (arith, whole_length c.args.bytes.now (sym c.is_whole.ensures ∙ c.if-not-is_whole.false))

pub returns-then-bytes : goal.returns-then-bytes
returns-then-bytes c = c.no_record-then-bytes.ensures ∙ long-name c.args.bytes.now (sym c.is_whole.ensures ∙ c.if-not-is_whole.false) c.if-bytes.true

pub bounds-bytes-41 : goal.bounds-bytes-41
bounds-bytes-41 c = omega (arith, whole_length c.args.bytes.now (sym c.is_whole.ensures ∙ c.if-not-is_whole.false))

pub returns-in_default : goal.returns-in_default
returns-in_default c = c.no_record-in_default.ensures ∙ no_test c.args.bytes.now (sym c.is_whole.ensures ∙ c.if-not-is_whole.false) c.if-bytes.false (sym c.test_of.ensures ∙ c.in_default.is)

pub read_record-requires : goal.read_record-requires
read_record-requires c = (whole_length c.args.bytes.now (sym c.is_whole.ensures ∙ c.if-not-is_whole.false), c.if-bytes.false)

pub returns : goal.returns
returns c = ap read_as c.read_record.ensures ∙ record-read c.args.bytes.now (sym c.is_whole.ensures ∙ c.if-not-is_whole.false) c.if-bytes.false c.in-Some.test (sym c.test_of.ensures ∙ c.in-Some.is)
