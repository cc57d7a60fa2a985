-- `put_ride`: five runs, one written behind the other.
use mathlib.Core.Path.{refl, ap₂, ◌∙◌}
use mathlib.Core.List.{[], ◌∷◌, ◌++◌}
use Prim.Native.Nat.{ℕ}
use native.Mathlib.Omega.{arith}
use lib.ListN.{length-append}
use Rattle.le.specs.Le.{bytes_of, written}
use Rattle.le.proofs.Laws.{more, length-bytes}
use Rattle.record_writer.proofs.put_ride.Goals as goal

pub returns : goal.returns
returns c = let a = c.args in
    let d = a.out.now in
    let r = a.stored in
    let flags = c.flags_of-flags.result in
    let ms = c.unwrap_or-start.result in
    let two = r.journal ∷ flags ∷ [] in
    let id = bytes_of 4 r.ride_id in
    let at-id = length-bytes 4 r.ride_id in
    more d 6 (omega arith) ((two ++ id) ++ bytes_of 8 ms) (r.name.len ∷ []) 20 (omega (arith, length-append (two ++ id) (bytes_of 8 ms), length-append two id, at-id, length-bytes 8 ms))
    (more d 6 (omega arith) (two ++ id) (bytes_of 8 ms) 12 (omega (arith, length-append two id, at-id))
    (more d 6 (omega arith) two id 8 refl
    (more d 6 (omega arith) (r.journal ∷ []) (flags ∷ []) 7 refl c.put_u8.ensures c.put_u8-2.ensures)
    c.put_u32.ensures) c.put_u64.ensures) c.put_u8-3.ensures
    ∙ ap₂ (λ (f v : ℕ). written d 6 ((((r.journal ∷ f ∷ []) ++ id) ++ bytes_of 8 v) ++ (r.name.len ∷ []))) c.flags_of-flags.ensures c.unwrap_or-start.ensures
