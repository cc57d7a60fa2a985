-- `turn`: the part that the definition cuts, ridden, with its last seconds.
use mathlib.Core.Path.{refl, ap, ◌∙◌}
use Prim.Native.Nat.{◌-◌}
use native.Mathlib.Omega.{arith}
use Rattle.rounds.specs.Rounds.{riding, advanced}
use Rattle.state.specs.declared.Part.{Part}
use Rattle.rounds.proofs.turn.Goals as goal

pub until_end-part-requires : goal.until_end-part-requires
until_end-part-requires c = (c.requires.0.left-ms, c.requires.0.left_mm)

pub advance-ridden-requires : goal.advance-ridden-requires
advance-ridden-requires c = (rw c.until_end-part.ensures c.requires.0.advance, c.requires.1)

pub countdown-counted-requires : goal.countdown-counted-requires
countdown-counted-requires c = (c.requires.0.kinds, c.requires.0.values)

pub overflow_sub-result : goal.overflow_sub-result
overflow_sub-result c = rw c.until_end-part.ensures c.requires.0.ms

pub overflow_sub-result-2 : goal.overflow_sub-result-2
overflow_sub-result-2 c = rw c.until_end-part.ensures c.requires.0.mm

pub overflow_add-result : goal.overflow_add-result
overflow_add-result c = omega (arith, c.requires.0.parts)

pub returns : goal.returns
returns c = let a = c.args in
    record {
      riding_is = c.advance-ridden.ensures.0 ∙ ap (λ (t : Part). advanced a.test a.profile t.ms.0 t.mm.0 (riding a.ride.core a.minute.now)) c.until_end-part.ensures;
      ms = ap (λ (t : Part). a.ride.ms.0 - t.ms.0) c.until_end-part.ensures;
      mm = ap (λ (t : Part). a.ride.mm.0 - t.mm.0) c.until_end-part.ensures;
      parts = refl;
      wrote = c.countdown-counted.ensures;
      energy = c.advance-ridden.ensures.1;
    }
