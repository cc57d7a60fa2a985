-- `fixed_at`: the bytes at their places are those of the definition. The other returns are found.
use mathlib.Core.Path.{sym, ap, ◌∙◌}
use Prim.Native.Nat.{ℕ, ◌+◌}
use lib.ListN.{get_or}
use borrow.Author.Tests.{eq-eqb}
use Rattle.le.specs.Le.{number_of, part}
use Rattle.steps.specs.Steps.{length_of, target_of}
use Rattle.steps.proofs.Laws.{fixed-place}
use Rattle.steps.proofs.fixed_at.Goals as goal

pub returns-in_err-target : goal.returns-in_err-target
returns-in_err-target c = let a = c.args in
    let s = a.bytes.now in
    let at = a.at in
    rw (c.from_residual-in_err-target.ensures, fixed-place s at) (simp (
      sym c.intensity_of.ensures ∙ c.in_ok-intensity.was,
      ap (length_of (get_or s (at + 1) 0)) (sym c.get_u32-value.ensures) ∙ sym c.length_of.ensures ∙ c.in_ok-length.was,
      (ap (λ (x : ℕ). target_of (get_or s (at + 6) 0) x (number_of (part s (at + 9) 2)) (number_of (part s (at + 11) 2))) (sym c.get_u16-a.ensures)
          ∙ ap (λ (x : ℕ). target_of (get_or s (at + 6) 0) c.get_u16-a.result x (number_of (part s (at + 11) 2))) (sym c.get_u16-b.ensures)
          ∙ ap (target_of (get_or s (at + 6) 0) c.get_u16-a.result c.get_u16-b.result) (sym c.get_u16-c.ensures)
          ∙ sym c.target_of.ensures ∙ c.in_err-target.was),
    ))

pub returns : goal.returns
returns c = let a = c.args in
    let s = a.bytes.now in
    let at = a.at in
    rw (fixed-place s at) (simp (
      sym c.intensity_of.ensures ∙ c.in_ok-intensity.was,
      ap (length_of (get_or s (at + 1) 0)) (sym c.get_u32-value.ensures) ∙ sym c.length_of.ensures ∙ c.in_ok-length.was,
      (ap (λ (x : ℕ). target_of (get_or s (at + 6) 0) x (number_of (part s (at + 9) 2)) (number_of (part s (at + 11) 2))) (sym c.get_u16-a.ensures)
          ∙ ap (λ (x : ℕ). target_of (get_or s (at + 6) 0) c.get_u16-a.result x (number_of (part s (at + 11) 2))) (sym c.get_u16-b.ensures)
          ∙ ap (target_of (get_or s (at + 6) 0) c.get_u16-a.result c.get_u16-b.result) (sym c.get_u16-c.ensures)
          ∙ sym c.target_of.ensures ∙ c.in_ok-target.was),
      eq-eqb _ _ c.if-bytes-at-ne0.false,
    ))
