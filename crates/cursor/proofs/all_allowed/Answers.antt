-- `all_allowed`: the fold over the bytes is what the definition asks of them.
use mathlib.Core.Bool.{Bool, true, ◌&&◌}
use mathlib.Core.Path.{◌≡◌, ap, ◌∙◌}
use Prim.Native.Nat.{ℕ, ◌+◌, ◌-◌}
use native.Mathlib.Omega.{arith}
use lib.ListN.{take, drop}
use Rattle.std.proofs.Common.{rules, tests}
use Rattle.std.proofs.lemmas.Iterator.{YieldsList-from_slice}
use Rattle.std.proofs.lemmas.Iterator.Consumers.{fold_from_yields_List}
use Rattle.std.specs.List.{fold}
use Rattle.common.specs.Lists.{all}
use Rattle.names.specs.Names.{allowed}
use Rattle.names.proofs.All.{all-folded}
use Rattle.cursor.proofs.all_allowed.Goals as goal

pub returns : goal.returns
returns c = let a = c.args in
    let part = drop a.from a.bytes.now in
    let n : a.from + a.n - a.from ≡ a.n = omega arith in
    let text = take (a.from + a.n - a.from) part in
    let run : c.fold.result ≡ fold (λ (t : Bool) (b : ℕ). t && allowed b) true text =
    fold_from_yields_List _ (λ (t : Bool) (b : ℕ). t && allowed b) true _ c.fold.ensures.ran (YieldsList-from_slice text cc) (λ t x b q k. search (rules, tests)) in
    run ∙ all-folded allowed true text ∙ ap (λ (k : ℕ). all allowed (take k part)) n
