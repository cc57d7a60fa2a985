-- `put_counts`: four runs, one written behind the other.
use mathlib.Core.Path.{refl, ap, ◌∙◌}
use mathlib.Core.List.{[], ◌∷◌, ◌++◌}
use Prim.Native.Nat.{ℕ}
use native.Mathlib.Omega.{arith}
use lib.ListN.{length-append}
use Rattle.le.specs.Le.{bytes_of, written}
use Rattle.le.proofs.Laws.{more, length-bytes}
use Rattle.record_writer.proofs.put_counts.Goals as goal

pub returns : goal.returns
returns c = let a = c.args in
    let d = a.out.now in
    let s = a.summary in
    let kind = c.test_kind-kind.result in
    let one = (kind ∷ []) ++ bytes_of 2 s.steps_done in
    let two = one ++ bytes_of 2 s.steps in
    more d 41 (omega arith) two (bytes_of 2 s.skipped) 46
    (omega (arith, length-append one (bytes_of 2 s.steps), length-append (kind ∷ []) (bytes_of 2 s.steps_done), length-bytes 2 s.steps, length-bytes 2 s.steps_done))
    (more d 41 (omega arith) one (bytes_of 2 s.steps) 44 (omega (arith, length-append (kind ∷ []) (bytes_of 2 s.steps_done), length-bytes 2 s.steps_done))
    (more d 41 (omega arith) (kind ∷ []) (bytes_of 2 s.steps_done) 42 refl c.put_u8.ensures c.put_u16.ensures)
    c.put_u16-2.ensures) c.put_u16-3.ensures
    ∙ ap (λ (k : ℕ). written d 41 ((((k ∷ []) ++ bytes_of 2 s.steps_done) ++ bytes_of 2 s.steps) ++ bytes_of 2 s.skipped)) c.test_kind-kind.ensures
