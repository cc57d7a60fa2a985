-- `put_first`: six bytes, one written behind the other.
use mathlib.Core.Path.{refl}
use mathlib.Core.List.{[], ◌∷◌}
use native.Mathlib.Omega.{arith}
use Rattle.le.proofs.Laws.{more}
use Rattle.record_writer.proofs.put_first.Goals as goal

pub returns : goal.returns
returns c = let d = c.args.out.now in
    more d 0 (omega arith) (86 ∷ 87 ∷ 75 ∷ 79 ∷ 2 ∷ []) (70 ∷ []) 5 refl
    (more d 0 (omega arith) (86 ∷ 87 ∷ 75 ∷ 79 ∷ []) (2 ∷ []) 4 refl
    (more d 0 (omega arith) (86 ∷ 87 ∷ 75 ∷ []) (79 ∷ []) 3 refl
    (more d 0 (omega arith) (86 ∷ 87 ∷ []) (75 ∷ []) 2 refl
    (more d 0 (omega arith) (86 ∷ []) (87 ∷ []) 1 refl c.put_u8.ensures c.put_u8-2.ensures)
    c.put_u8-3.ensures) c.put_u8-4.ensures) c.put_u8-5.ensures) c.put_u8-6.ensures
