-- `is_no_step`: a step equals `NO_STEP` exactly where its four parts pass.
use Rattle.std.proofs.Common.{rules}
use mathlib.Core.Path.{◌≡◌}
use lib.ListN.{length}
use Rattle.form.proofs.Laws.{no-step-test}
use Rattle.form.proofs.is_no_step.Goals as goal

pub returns : goal.returns
returns c = let s = c.args.step in
    let long : length s.note.bytes ≡ 20 = search rules in
    no-step-test s c.eq.result long (λ e. search rules) (λ e. search rules)
