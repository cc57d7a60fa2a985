-- `compare_places::update` plays a call by its kind.
use mathlib.Core.Path.{◌∙◌, refl, sym, ap}
use Prim.Native.Nat.{ℕ}
use lib.ListN.{length}
use borrow.Author.Tests.{ne_eqb}
use Rattle.outcomes.proofs.Laws.{answers-is, eventless-answers}
use Rattle.player.specs.Calls.{extend_with, extend_of}
use Rattle.compare_places.specs.Places.{called_of, called_by, extended_update, read_update}
use Rattle.compare_places.proofs.update.Goals as goal

pub returns-in-1 : goal.returns-in-1
unfolding called_of
returns-in-1 c = let a = c.args in
    answers-is (sym (ap (λ (k : ℕ). called_by k a.player a.call (length a.kinds.now) (length a.values.now)) c.in-1.is)) c.ride.ensures

pub returns-in-2 : goal.returns-in-2
unfolding called_of
returns-in-2 c = let a = c.args in
    answers-is (sym (ap (λ (k : ℕ). called_by k a.player a.call (length a.kinds.now) (length a.values.now)) c.in-2.is)) c.add.ensures

pub returns-in-3 : goal.returns-in-3
unfolding called_of
returns-in-3 c = let a = c.args in
    answers-is (sym (ap (λ (k : ℕ). called_by k a.player a.call (length a.kinds.now) (length a.values.now)) c.in-3.is)) c.skip.ensures

pub returns-in-4 : goal.returns-in-4
unfolding called_of
returns-in-4 c = let a = c.args in
    let x = extend_with a.call.power a.call.heart a.player in
    eventless-answers _ _ x.player _ _ x.answer (c.extended.ensures ∙ ap extended_update c.extend_with.ensures) (sym (ap (λ (k : ℕ). called_by k a.player a.call (length a.kinds.now) (length a.values.now)) c.in-4.is))

pub returns-in-5 : goal.returns-in-5
unfolding called_of
returns-in-5 c = let a = c.args in
    let x = extend_of a.player in
    eventless-answers _ _ x.player _ _ x.answer (c.extended-in-5.ensures ∙ ap extended_update c.extend.ensures) (sym (ap (λ (k : ℕ). called_by k a.player a.call (length a.kinds.now) (length a.values.now)) c.in-5.is))

pub returns-in_default : goal.returns-in_default
unfolding called_of
returns-in_default c = let a = c.args in
    let m = c.in_default.in_default-own.rest in
    simp (ne_eqb _ _ m.0.0.0.0.1, ne_eqb _ _ m.0.0.0.1, ne_eqb _ _ m.0.0.1, ne_eqb _ _ m.0.1, ne_eqb _ _ m.1)
    (eventless-answers _ _ (read_update a.player a.call).player _ _ (read_update a.player a.call).answer c.read.ensures refl)
