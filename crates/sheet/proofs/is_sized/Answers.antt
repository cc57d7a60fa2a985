-- `is_sized`: a sheet without a whole count has another length.
use lib.ListN.{length}
use lib.Dec.{leb, eqb}
use Prim.Native.Nat.{ℕ, ◌+◌, ◌*◌}
use mathlib.Core.Path.{ap}
use mathlib.Core.Bool.{◌&&◌}
use Rattle.sheet.specs.Sheet.{size_ok}
use Rattle.sheet.proofs.Laws.{too_short}
use Rattle.sheet.proofs.is_sized.Goals as goal

pub returns-then-sheet-lt2 : goal.returns-then-sheet-lt2
returns-then-sheet-lt2 c = too_short c.args.sheet.now c.if-sheet-lt2.true

pub returns : goal.returns
unfolding size_ok
returns c = ap (λ (n : ℕ). leb 1 n && leb n 4096 && eqb (length c.args.sheet.now) (2 + 9 * n)) c.count_of-n.ensures.0
