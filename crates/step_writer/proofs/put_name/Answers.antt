-- `step_writer::put_name` meets its contract: the length byte, then the text behind it.
use lib.ListN.{length, take}
use native.Mathlib.Omega.{arith}
use Prim.Native.Nat.{◌+◌}
use mathlib.Core.List.{[], ◌∷◌}
use mathlib.Core.Path.{◌≡◌, refl}
use Rattle.cursor.specs.Names.{name_bytes}
use Rattle.le.proofs.Laws.{more}
use Rattle.step_writer.proofs.Laws.{name-size}
use borrow.Author.Rules.{rules}
use Rattle.step_writer.proofs.put_name.Goals as goal

pub put_u8-requires : goal.put_u8-requires
put_u8-requires c = let a = c.args in
    let p = c.requires in
    let long : length a.name.bytes ≡ 20 = search (rules, c.well_formed.1.1.0.1.1.0) in
    let size = name-size a.name p.0 long in
    omega arith

pub overflow_add-at : goal.overflow_add-at
overflow_add-at c = let a = c.args in
    let p = c.requires in
    let long : length a.name.bytes ≡ 20 = search (rules, c.well_formed.1.1.0.1.1.0) in
    let size = name-size a.name p.0 long in
    omega arith

pub put_text-requires : goal.put_text-requires
put_text-requires c = let a = c.args in
    let p = c.requires in
    let long : length a.name.bytes ≡ 20 = search (rules, c.well_formed.1.1.0.1.1.0) in
    let size = name-size a.name p.0 long in
    let kept = c.put_u8.auto.bytes in (p.0, omega arith)

pub overflow_add-result : goal.overflow_add-result
overflow_add-result c = let a = c.args in
    let p = c.requires in
    let long : length a.name.bytes ≡ 20 = search (rules, c.well_formed.1.1.0.1.1.0) in
    let size = name-size a.name p.0 long in
    omega arith

pub overflow_add-result-2 : goal.overflow_add-result-2
overflow_add-result-2 c = let a = c.args in
    let p = c.requires in
    let long : length a.name.bytes ≡ 20 = search (rules, c.well_formed.1.1.0.1.1.0) in
    let size = name-size a.name p.0 long in
    omega arith

pub returns : goal.returns
returns c = let a = c.args in
    let p = c.requires in
    let long : length a.name.bytes ≡ 20 = search (rules, c.well_formed.1.1.0.1.1.0) in
    let size = name-size a.name p.0 long in
    let d = a.out.now in
    let n = a.name in
    (omega arith, (unfold name_bytes in more d a.at (omega arith) (n.len ∷ []) (take n.len n.bytes) (a.at + 1) refl c.put_u8.ensures c.put_text.ensures))
