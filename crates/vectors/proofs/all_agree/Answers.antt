-- `vectors::all_agree` compares each word. The invariant: what was found and what is left come to the whole answer.
use mathlib.Core.Path.{◌∙◌, sym}
use mathlib.Core.Bool.{true}
use native.Mathlib.Omega.{arith}
use Rattle.vectors.proofs.Laws.{agrees_start, agrees-next, agrees-end}
use Rattle.vectors.proofs.all_agree.Goals as goal

pub loop-i-init : goal.loop-i-init
loop-i-init c = agrees_start _ _ _ _ 0 true

pub loop-i-preserved : goal.loop-i-preserved
loop-i-preserved c = let a = c.args in let at = c.loop-i in
    rw (c.any_word.ensures, c.word_at.ensures)
    (agrees-next a.question a.input.now a.answer.now a.words at.i at.same (omega arith) ∙ at.invariant)

pub returns : goal.returns
returns c = sym (agrees-end _ _ _ _ _ _ (omega arith)) ∙ c.loop-i.invariant
