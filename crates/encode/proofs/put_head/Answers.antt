-- `encode::put_head` meets its contract: seven runs of bytes, one written behind the other.
use mathlib.Core.List.{List, [], ◌∷◌, ◌++◌, append_assoc}
use Prim.Native.Nat.{ℕ, ◌+◌, ◌≤◌}
use lib.ListN.{length, length-append}
use native.Mathlib.Omega.{arith}
use mathlib.Core.Path.{◌≡◌, refl, ap, ◌∙◌}
use Rattle.le.specs.Le.{written}
use Rattle.cursor.specs.Names.{name_bytes}
use Rattle.le.proofs.Laws.{more}
use Rattle.encode.proofs.Sizes.{head-length}
use Rattle.encode.specs.Encode.{head_bytes}
use Rattle.encode.proofs.put_head.Goals as goal

pub put_u8-requires : goal.put_u8-requires
put_u8-requires c = let a = c.args in
    let p = c.requires in
    omega (arith, head-length a.workout)

pub put_u8-requires-2 : goal.put_u8-requires-2
put_u8-requires-2 c = let a = c.args in
    let p = c.requires in
    let k0 = c.put_u8.auto.bytes in
    omega (arith, head-length a.workout)

pub put_u8-requires-3 : goal.put_u8-requires-3
put_u8-requires-3 c = let a = c.args in
    let p = c.requires in
    let k0 = c.put_u8.auto.bytes in
    let k1 = c.put_u8-2.auto.bytes in
    omega (arith, head-length a.workout)

pub put_u8-requires-4 : goal.put_u8-requires-4
put_u8-requires-4 c = let a = c.args in
    let p = c.requires in
    let k0 = c.put_u8.auto.bytes in
    let k1 = c.put_u8-2.auto.bytes in
    let k2 = c.put_u8-3.auto.bytes in
    omega (arith, head-length a.workout)

pub put_name-place-requires : goal.put_name-place-requires
put_name-place-requires c = let a = c.args in
    let p = c.requires in
    let k0 = c.put_u8.auto.bytes in
    let k1 = c.put_u8-2.auto.bytes in
    let k2 = c.put_u8-3.auto.bytes in
    let k3 = c.put_u8-4.auto.bytes in
    (p.0, omega (arith, head-length a.workout))

pub put_u8-requires-5 : goal.put_u8-requires-5
put_u8-requires-5 c = let a = c.args in
    let p = c.requires in
    let k0 = c.put_u8.auto.bytes in
    let k1 = c.put_u8-2.auto.bytes in
    let k2 = c.put_u8-3.auto.bytes in
    let k3 = c.put_u8-4.auto.bytes in
    let k4 = c.put_name-place.auto.out in
    let e = c.put_name-place.ensures.0 in
    omega (arith, head-length a.workout)

pub overflow_add-place : goal.overflow_add-place
overflow_add-place c = let a = c.args in
    let p = c.requires in
    let k0 = c.put_u8.auto.bytes in
    let k1 = c.put_u8-2.auto.bytes in
    let k2 = c.put_u8-3.auto.bytes in
    let k3 = c.put_u8-4.auto.bytes in
    let k4 = c.put_name-place.auto.out in
    let k5 = c.put_u8-5.auto.bytes in
    let e = c.put_name-place.ensures.0 in
    omega (arith, head-length a.workout)

pub put_u8-requires-6 : goal.put_u8-requires-6
put_u8-requires-6 c = let a = c.args in
    let p = c.requires in
    let k0 = c.put_u8.auto.bytes in
    let k1 = c.put_u8-2.auto.bytes in
    let k2 = c.put_u8-3.auto.bytes in
    let k3 = c.put_u8-4.auto.bytes in
    let k4 = c.put_name-place.auto.out in
    let k5 = c.put_u8-5.auto.bytes in
    let e = c.put_name-place.ensures.0 in
    omega (arith, head-length a.workout)

pub overflow_add-result : goal.overflow_add-result
overflow_add-result c = let a = c.args in
    let p = c.requires in
    let k0 = c.put_u8.auto.bytes in
    let k1 = c.put_u8-2.auto.bytes in
    let k2 = c.put_u8-3.auto.bytes in
    let k3 = c.put_u8-4.auto.bytes in
    let k4 = c.put_name-place.auto.out in
    let k5 = c.put_u8-5.auto.bytes in
    let k6 = c.put_u8-6.auto.bytes in
    let e = c.put_name-place.ensures.0 in
    omega (arith, head-length a.workout)

pub returns : goal.returns
unfolding head_bytes
returns c = let a = c.args in
    let p = c.requires in
    let k0 = c.put_u8.auto.bytes in
    let k1 = c.put_u8-2.auto.bytes in
    let k2 = c.put_u8-3.auto.bytes in
    let k3 = c.put_u8-4.auto.bytes in
    let k4 = c.put_name-place.auto.out in
    let k5 = c.put_u8-5.auto.bytes in
    let k6 = c.put_u8-6.auto.bytes in
    let e = c.put_name-place.ensures.0 in
    let d = a.out.now in
    let w = a.workout in
    let name = name_bytes w.name in
    let t = c.test_kind.result in
    let low : 0 ≤ length d = omega arith in
    let b₁ : List ℕ = 86 ∷ 87 ∷ 1 ∷ t ∷ [] in
    let place : c.put_name-place.result ≡ 0 + length (b₁ ++ name) = omega (arith, length-append b₁ name) in
    let last : c.put_name-place.result + 1 ≡ 0 + length ((b₁ ++ name) ++ (w.step_count ∷ [])) = omega (arith, length-append b₁ name, length-append (b₁ ++ name) (w.step_count ∷ [])) in (
      omega (arith, head-length w),
      more d 0 low ((b₁ ++ name) ++ (w.step_count ∷ [])) (w.block_count ∷ []) (c.put_name-place.result + 1) last
          (more d 0 low (b₁ ++ name) (w.step_count ∷ []) c.put_name-place.result place
          (more d 0 low b₁ name 4 refl
          (more d 0 low (86 ∷ 87 ∷ 1 ∷ []) (t ∷ []) 3 refl
          (more d 0 low (86 ∷ 87 ∷ []) (1 ∷ []) 2 refl
          (more d 0 low (86 ∷ []) (87 ∷ []) 1 refl c.put_u8.ensures c.put_u8-2.ensures)
          c.put_u8-3.ensures) c.put_u8-4.ensures) c.put_name-place.ensures.1) c.put_u8-5.ensures) c.put_u8-6.ensures
          ∙ ap (written d 0) (append_assoc (b₁ ++ name) (w.step_count ∷ []) (w.block_count ∷ []) ∙ append_assoc b₁ name (w.step_count ∷ w.block_count ∷ []))
          ∙ ap (λ (k : ℕ). written d 0 ((86 ∷ 87 ∷ 1 ∷ k ∷ []) ++ (name ++ (w.step_count ∷ w.block_count ∷ [])))) c.test_kind.ensures,
    )
