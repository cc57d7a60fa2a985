-- `step_writer::put_fixed` meets its contract: eight runs of bytes, one written behind the other.
use lib.ListN.{length}
use native.Mathlib.Omega.{arith}
use Prim.Native.Nat.{◌+◌, ◌≤◌}
use mathlib.Core.List.{[], ◌∷◌, ◌++◌}
use mathlib.Core.Path.{◌∙◌, refl}
use Rattle.steps.specs.Bytes.{fixed_bytes}
use Rattle.le.proofs.Laws.{more}
use Rattle.le.specs.Le.{bytes_of}
use Rattle.step_writer.proofs.put_fixed.Goals as goal

pub overflow_add-at-7 : goal.overflow_add-at-7
overflow_add-at-7 c = let p = c.requires in let g = c.well_formed in omega arith

pub returns : goal.returns
unfolding fixed_bytes bytes_of
returns c = let a = c.args in
    let d = a.out.now in
    let h = c.requires in
    let l : a.at ≤ length d = omega arith in
    let ik = c.intensity_kind.result in
    let lk = c.length_kind.result in
    let lv = c.length_value.result in
    let v = c.values_of-values.result in
    let b₂ = ik ∷ lk ∷ [] in
    let b₃ = b₂ ++ bytes_of 4 lv in
    let b₄ = b₃ ++ (v.kind ∷ []) in
    let b₅ = b₄ ++ bytes_of 2 v.a in
    let b₆ = b₅ ++ bytes_of 2 v.b in
    let b₇ = b₆ ++ bytes_of 2 v.c in
    more d a.at l b₇ (0 ∷ []) (a.at + 13) refl
    (more d a.at l b₆ (bytes_of 2 v.c) (a.at + 11) refl
    (more d a.at l b₅ (bytes_of 2 v.b) (a.at + 9) refl
    (more d a.at l b₄ (bytes_of 2 v.a) (a.at + 7) refl
    (more d a.at l b₃ (v.kind ∷ []) (a.at + 6) refl
    (more d a.at l b₂ (bytes_of 4 lv) (a.at + 2) refl
    (more d a.at l (ik ∷ []) (lk ∷ []) (a.at + 1) refl c.put_u8.ensures c.put_u8-2.ensures)
    c.put_u32.ensures) c.put_u8-3.ensures) c.put_u16.ensures) c.put_u16-2.ensures) c.put_u16-3.ensures) c.put_u8-4.ensures
    ∙ simp (c.intensity_kind.ensures, c.length_kind.ensures, c.length_value.ensures, c.values_of-values.ensures)
