-- `extend_by`: what the core becomes, in its player.
use Rattle.state.specs.declared.Player.{Player}
use mathlib.Core.Path.{ap, ◌∙◌}
use Rattle.outcomes.specs.Outcomes.{extend_by, extended_by}
use Rattle.outcomes.proofs.extend_by.Goals as goal

pub returns : goal.returns
unfolding extend_by
returns c = let p = c.args.player in
    ap (λ (q : Player). record { answer = c.extend_core-made.result.answer; player = q; extended = c.extend_core-made.result.extended }) c.with_core.ensures
    ∙ ap (extended_by p) c.extend_core-made.ensures
