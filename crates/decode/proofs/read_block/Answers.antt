-- `decode::read_block`: the three bytes that the cursor hands out, or the refusal.
use lib.ListN.{length-drop}
use native.Mathlib.Omega.{arith}
use mathlib.Core.Path.{sym, ◌∙◌}
use Rattle.cursor.proofs.Laws.{taken-given}
use Rattle.decode.proofs.Parts.{block_none, block-some}
use Rattle.decode.proofs.read_block.Goals as goal

pub returns-in_default : goal.returns-in_default
returns-in_default c = let a = c.args in block_none a.bytes.now a.cursor.at (sym c.next_bytes.ensures ∙ c.in_default.is)

pub bounds-bytes-from : goal.bounds-bytes-from
bounds-bytes-from c = let a = c.args in
    let s = a.bytes.now in
    let there = taken-given s a.cursor.at 3 c.in-Some.from c.in-Some.next (sym c.next_bytes.ensures ∙ c.in-Some.is) in
    omega (arith, there.within, there.place, length-drop a.cursor.at s)

pub overflow_add-result : goal.overflow_add-result
overflow_add-result c = let a = c.args in
    let s = a.bytes.now in
    let there = taken-given s a.cursor.at 3 c.in-Some.from c.in-Some.next (sym c.next_bytes.ensures ∙ c.in-Some.is) in
    omega (arith, there.within, there.place, length-drop a.cursor.at s)

pub bounds-bytes-from-2 : goal.bounds-bytes-from-2
bounds-bytes-from-2 c = let a = c.args in
    let s = a.bytes.now in
    let there = taken-given s a.cursor.at 3 c.in-Some.from c.in-Some.next (sym c.next_bytes.ensures ∙ c.in-Some.is) in
    omega (arith, there.within, there.place, length-drop a.cursor.at s)

pub overflow_add-result-2 : goal.overflow_add-result-2
overflow_add-result-2 c = let a = c.args in
    let s = a.bytes.now in
    let there = taken-given s a.cursor.at 3 c.in-Some.from c.in-Some.next (sym c.next_bytes.ensures ∙ c.in-Some.is) in
    omega (arith, there.within, there.place, length-drop a.cursor.at s)

pub bounds-bytes-from-3 : goal.bounds-bytes-from-3
bounds-bytes-from-3 c = let a = c.args in
    let s = a.bytes.now in
    let there = taken-given s a.cursor.at 3 c.in-Some.from c.in-Some.next (sym c.next_bytes.ensures ∙ c.in-Some.is) in
    omega (arith, there.within, there.place, length-drop a.cursor.at s)

pub returns : goal.returns
returns c = let a = c.args in
    let s = a.bytes.now in
    let there = taken-given s a.cursor.at 3 c.in-Some.from c.in-Some.next (sym c.next_bytes.ensures ∙ c.in-Some.is) in
    block-some s a.cursor.at c.in-Some.from c.in-Some.next there
