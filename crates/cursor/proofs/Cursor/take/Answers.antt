-- `Cursor::take`: each branch is a case of how many bytes are left.
use Rattle.std.specs.Prelude.{Some}
use mathlib.Core.Path.{◌≡◌, sym, ap, ◌∙◌}
use Prim.Native.Nat.{ℕ, ◌+◌}
use native.Mathlib.Omega.{arith}
use lib.ListN.{length-drop}
use Rattle.cursor.proofs.Laws.{taken_here, taken-end}
use Rattle.cursor.proofs.Cursor.take.Goals as goal

pub returns-then-n-eq0 : goal.returns-then-n-eq0
returns-then-n-eq0 c = let a = c.args in
    let stays : a.self.at ≡ a.self.at + a.n = omega (arith, c.if-n-eq0.true) in
    ap (λ (k : ℕ). Some (a.self.at, record { at = k })) stays ∙ sym (taken_here a.bytes.now a.self.at a.n (omega (arith, c.if-n-eq0.true)))

pub returns-then-bytes-at : goal.returns-then-bytes-at
returns-then-bytes-at c = let a = c.args in sym (taken-end a.bytes.now a.self.at a.n (omega (arith, length-drop a.self.at a.bytes.now)))

pub returns-then-bytes-at-2 : goal.returns-then-bytes-at-2
returns-then-bytes-at-2 c = let a = c.args in sym (taken-end a.bytes.now a.self.at a.n (omega (arith, length-drop a.self.at a.bytes.now)))

pub returns : goal.returns
returns c = let a = c.args in sym (taken_here a.bytes.now a.self.at a.n (omega (arith, length-drop a.self.at a.bytes.now)))
