-- `compare_cut::play` plays a call by its kind.
use mathlib.Core.Path.{◌∙◌, sym, ap}
use Prim.Native.Nat.{ℕ}
use borrow.Author.Tests.{ne_eqb}
use Rattle.compare_player.specs.declared.Turn.{Turn}
use Rattle.compare_cut.specs.Cuts.{played_cut, played_by, with_check}
use Rattle.compare_cut.proofs.play.Goals as goal

pub returns-in-1 : goal.returns-in-1
unfolding played_cut
returns-in-1 c = let a = c.args in c.ride.ensures ∙ sym (ap (λ (k : ℕ). played_by k a.player a.call a.check) c.in-1.is)

pub returns-in-3 : goal.returns-in-3
unfolding played_cut
returns-in-3 c = let a = c.args in c.skip.ensures ∙ sym (ap (λ (k : ℕ). played_by k a.player a.call a.check) c.in-3.is)

pub returns-in-4 : goal.returns-in-4
unfolding played_cut
returns-in-4 c = let a = c.args in
    c.with_check.ensures
    ∙ ap (λ (t : Turn). with_check t a.check) c.extend_with.ensures
    ∙ sym (ap (λ (k : ℕ). played_by k a.player a.call a.check) c.in-4.is)

pub returns-in-5 : goal.returns-in-5
unfolding played_cut
returns-in-5 c = let a = c.args in
    c.with_check-in-5.ensures
    ∙ ap (λ (t : Turn). with_check t a.check) c.extend.ensures
    ∙ sym (ap (λ (k : ℕ). played_by k a.player a.call a.check) c.in-5.is)

pub returns-in_default : goal.returns-in_default
unfolding played_cut
returns-in_default c = let a = c.args in
    let m = c.in_default.in_default-own.rest in
    simp (ne_eqb _ _ m.0.0.0.1, ne_eqb _ _ m.0.0.1, ne_eqb _ _ m.0.1, ne_eqb _ _ m.1) (c.with_check-in_default.ensures ∙ ap (λ (t : Turn). with_check t a.check) c.read.ensures)
