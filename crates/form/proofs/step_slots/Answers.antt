-- `step_slots`: what the library finds of the places in use, and of those past them, is what the definition asks of them.
use Rattle.std.proofs.Common.{rules, tests}
use Rattle.std.proofs.lemmas.Iterator.{YieldsList-from_slice, YieldsList-from_take}
use Rattle.std.proofs.lemmas.Iterator.Adapters.{YieldsList-from_skip}
use mathlib.Core.Bool.{◌&&◌}
use mathlib.Core.Path.{ap₂}
use Rattle.names.proofs.All.{all-found}
use Rattle.form.specs.Form.{step_slots, note_ok, is_no_step}
use Rattle.form.proofs.step_slots.Goals as goal

pub returns : goal.returns
unfolding step_slots
returns c = let a = c.args in
    ap₂ (λ s t. s && t)
    (all-found note_ok _ _ _ c.all.ensures.ran (YieldsList-from_take a.count (YieldsList-from_slice a.steps cc) cc) (λ x b q k. search (rules, tests)))
    (all-found is_no_step _ _ _ c.all-2.ensures.ran (YieldsList-from_skip a.count (YieldsList-from_slice a.steps cc) cc) (λ x b q k. search (rules, tests)))
