-- `encode::put_block` meets its contract: three bytes, one written behind the other.
use native.Mathlib.Omega.{arith}
use Prim.Native.Nat.{◌+◌}
use mathlib.Core.List.{[], ◌∷◌}
use mathlib.Core.Path.{refl}
use Rattle.le.proofs.Laws.{more}
use Rattle.encode.proofs.put_block.Goals as goal

pub returns : goal.returns
returns c = let a = c.args in
    let d = a.out.now in
    let p = c.requires in
    let b = a.block in
    more d a.at (omega arith) (b.first ∷ b.len ∷ []) (b.count ∷ []) (a.at + 2) refl
    (more d a.at (omega arith) (b.first ∷ []) (b.len ∷ []) (a.at + 1) refl c.put_u8.ensures c.put_u8-2.ensures) c.put_u8-3.ensures
