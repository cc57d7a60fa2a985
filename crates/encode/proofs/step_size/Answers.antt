-- `encode::step_size` meets its contract: 14 bytes and the note.
use lib.ListN.{length}
use native.Mathlib.Omega.{arith}
use mathlib.Core.Path.{◌≡◌}
use Rattle.step_writer.proofs.Laws.{name-size, step-length}
use borrow.Author.Rules.{rules}
use Rattle.encode.proofs.step_size.Goals as goal

pub returns : goal.returns
returns c = let s = c.args.step in
    let p = c.requires in
    let long : length s.note.bytes ≡ 20 = search (rules, c.well_formed.0.1.1.1.1.1.0.1.1.0) in
    omega (arith, step-length s, name-size s.note p long)
