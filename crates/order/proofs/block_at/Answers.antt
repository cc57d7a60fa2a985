-- `block_at`: what the library finds in the blocks in use is what the definition does.
use Rattle.std.proofs.Common.{rules, tests}
use Rattle.std.proofs.lemmas.Iterator.{YieldsList-from_slice, YieldsList-from_take}
use Rattle.std.proofs.lemmas.Iterator.Consumers.{YieldsList-from_copied}
use Rattle.std.proofs.lemmas.Iterator.Search.{find_from_yields_List}
use mathlib.Core.Path.{◌∙◌, sym}
use lib.ListN.{take}
use Rattle.order.specs.Order.{holds}
use Rattle.order.proofs.Laws.{as-it-is, find-block}
use Rattle.order.proofs.block_at.Goals as goal

pub returns : goal.returns
returns c = let a = c.args in
    sym (as-it-is c.find.result)
    ∙ find_from_yields_List (λ b. holds b a.index) _ _ _ c.find.ensures.ran (YieldsList-from_copied (YieldsList-from_take a.count (YieldsList-from_slice a.blocks cc) cc)) (λ x b q k. search (rules, tests))
    ∙ find-block (take a.count a.blocks) a.index
