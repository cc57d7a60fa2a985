-- `is_act`: by the kind.
use mathlib.Core.Path.{sym, ap, ap₂, ◌∙◌}
use mathlib.Core.Bool.{Bool, false, not, ◌&&◌}
use mathlib.Core.List.{[], ◌∷◌}
use Prim.Native.Nat.{◌+◌}
use lib.Dec.{eqb}
use lib.ListN.{get_or-eq_default}
use Rattle.sheet.specs.Sheet.{place_of, sample_ok, unused_at, valueless_ok, act_by, act_ok}
use Rattle.common.proofs.Matches.{at_least}
use Rattle.sheet.proofs.Laws.{valueless}
use Rattle.sheet.proofs.is_act.Goals as goal

pub returns-in-0 : goal.returns-in-0
unfolding act_ok
returns-in-0 c = let a = c.args in let s = a.sheet.now in let at = place_of a.n a.i in ap (λ (u : Bool). eqb a.i 0 && u) c.is_unused-in-0.ensures ∙ sym (ap (act_by (eqb a.i 0) s at) c.in-0.is)

pub returns-in-1 : goal.returns-in-1
unfolding act_ok
returns-in-1 c = let a = c.args in let s = a.sheet.now in let at = place_of a.n a.i in ap (λ (u : Bool). not (eqb a.i 0) && u) c.is_sample.ensures ∙ sym (ap (act_by (eqb a.i 0) s at) c.in-1.is)

pub returns-in-2 : goal.returns-in-2
unfolding act_ok
returns-in-2 c = let a = c.args in let s = a.sheet.now in let at = place_of a.n a.i in sym (ap (act_by (eqb a.i 0) s at) c.in-2.is)

pub returns-in-3-to-5 : goal.returns-in-3-to-5
unfolding act_ok
returns-in-3-to-5 c = let a = c.args in let s = a.sheet.now in let at = place_of a.n a.i in ap₂ (λ (u v : Bool). not (eqb a.i 0) && (u && v)) c.is_unused.ensures c.is_unused-2.ensures ∙ sym (valueless (eqb a.i 0) s at _ (at_least 3 _ c.in-3-to-5.in_default-own.rest) c.in-3-to-5.if-kind-lt6-own.true)

pub returns-in_default : goal.returns-in_default
unfolding act_ok
returns-in_default c = let a = c.args in let s = a.sheet.now in let at = place_of a.n a.i in let first = eqb a.i 0 in sym (get_or-eq_default ((first && unused_at s (at + 4)) ∷ (not first && sample_ok s at) ∷ not first ∷ valueless_ok first s at ∷ valueless_ok first s at ∷ valueless_ok first s at ∷ []) false c.in_default.if-kind-lt6-own.false)
