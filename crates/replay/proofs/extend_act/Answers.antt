-- `extend_act`: done does nothing; else question 15.
use Rattle.std.specs.Prelude.{Ok}
use Rattle.replay.specs.Acts.{eventless_act, of_extended}
use Rattle.replay.specs.declared.Acted.{Acted}
use Rattle.outcomes.specs.Outcomes.{extend_core}
use mathlib.Core.Bool.{Bool, cond}
use mathlib.Core.Path.{sym, ap, ◌∙◌}
use Rattle.replay.proofs.extend_act.Goals as goal

pub returns-then-core : goal.returns-then-core
returns-then-core c = let a = c.args in let k = a.core in
    c.eventless.ensures ∙ sym (ap (λ (b : Bool). cond {A = Acted} b (eventless_act (Ok tt) k) (of_extended (extend_core a.secs a.metres k.on.length k))) c.if-core.true)

pub extend_core-made-requires : goal.extend_core-made-requires
extend_core-made-requires c = c.requires c.if-core.false

pub returns : goal.returns
returns c = let a = c.args in let k = a.core in
    c.eventless-2.ensures ∙ ap of_extended c.extend_core-made.ensures
    ∙ sym (ap (λ (b : Bool). cond {A = Acted} b (eventless_act (Ok tt) k) (of_extended (extend_core a.secs a.metres k.on.length k))) c.if-core.false)
