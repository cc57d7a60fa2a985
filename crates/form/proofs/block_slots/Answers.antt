-- `block_slots`: what the library finds of the places past those in use is what the definition asks of them.
use Rattle.std.proofs.Common.{rules, tests}
use Rattle.std.proofs.lemmas.Iterator.{YieldsList-from_slice}
use Rattle.std.proofs.lemmas.Iterator.Adapters.{YieldsList-from_skip}
use Rattle.names.proofs.All.{all-found}
use Rattle.form.specs.Form.{block_slots, is_no_block}
use Rattle.form.proofs.block_slots.Goals as goal

pub returns : goal.returns
unfolding block_slots
returns c = let a = c.args in
    all-found is_no_block _ _ _ c.all.ensures.ran (YieldsList-from_skip a.count (YieldsList-from_slice a.blocks cc) cc) (λ x b q k. search (rules, tests))
