-- `compare::name_word` gives a name's length, or the byte behind it, or 0 past them.
use mathlib.Core.Path.{◌≡◌, ◌∙◌}
use Prim.Native.Nat.{◌-◌}
use native.Mathlib.Omega.{arith}
use lib.ListN.{length}
use Rattle.common.proofs.Matches.{past}
use Rattle.compare.proofs.Words.{behind}
use borrow.Author.Rules.{rules}
use Rattle.compare.proofs.name_word.Goals as goal

pub returns-then-at-lt20 : goal.returns-then-at-lt20
returns-then-at-lt20 c = let a = c.args in behind a.name.len a.name.bytes a.place 0 (omega arith)

pub returns-else-at-lt20 : goal.returns-else-at-lt20
returns-else-at-lt20 c = let a = c.args in
    let h : length a.name.bytes ≡ 20 = search rules in
    past a.name.bytes (a.place - 1) 0 (omega arith) ∙ behind a.name.len a.name.bytes a.place 0 (omega arith)
