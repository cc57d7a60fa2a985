-- `steps_sound`: what the library finds of the steps in use is what the definition asks of them.
use Rattle.std.proofs.Common.{rules, tests}
use Rattle.std.proofs.lemmas.Iterator.{YieldsList-from_slice, YieldsList-from_take}
use Rattle.names.proofs.All.{all-found}
use Rattle.validation.specs.Sound.{step_ok}
use Rattle.validation.proofs.steps_sound.Goals as goal

pub returns : goal.returns
returns c = let a = c.args in
    all-found step_ok _ _ _ c.all.ensures.ran (YieldsList-from_take a.count (YieldsList-from_slice a.steps cc) cc) (λ x b q k. search (rules, tests))
