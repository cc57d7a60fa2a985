-- `act_at`: by the kind.
use mathlib.Core.Path.{sym, ap, ap₂, ◌∙◌}
use Prim.Native.Nat.{ℕ}
use lib.ListN.{get_or, get_or-eq_default}
use Rattle.zones.specs.declared.TrainingProfile.{TrainingProfile}
use Rattle.readings.specs.declared.Sample.{Sample}
use Rattle.sheet.specs.declared.Act.TheVariants.{Profile, Read, Ride, Extend}
use Rattle.sheet.specs.Sheet.{place_of, acts_at, act_in}
use Rattle.common.proofs.Matches.{at_least}
use Rattle.sheet.proofs.act_at.Goals as goal

pub returns-in-0 : goal.returns-in-0
unfolding act_in
returns-in-0 c = let a = c.args in let s = a.sheet.now in ap (λ (p : TrainingProfile). Profile p) c.profile_at.ensures ∙ sym (ap (λ (k : ℕ). get_or (acts_at s (place_of a.n a.i)) k Extend) c.in-0.is)

pub returns-in-1 : goal.returns-in-1
unfolding act_in
returns-in-1 c = let a = c.args in let s = a.sheet.now in ap (λ (p : Sample). Read p) c.sample_at.ensures ∙ sym (ap (λ (k : ℕ). get_or (acts_at s (place_of a.n a.i)) k Extend) c.in-1.is)

pub returns-in-2 : goal.returns-in-2
unfolding act_in
returns-in-2 c = let a = c.args in let s = a.sheet.now in ap₂ (λ (x y : ℕ). Ride (record { 0 = x }) (record { 0 = y })) c.get_u32-ms.ensures c.get_u32-mm.ensures ∙ sym (ap (λ (k : ℕ). get_or (acts_at s (place_of a.n a.i)) k Extend) c.in-2.is)

pub returns-in-3 : goal.returns-in-3
unfolding act_in
returns-in-3 c = let a = c.args in let s = a.sheet.now in sym (ap (λ (k : ℕ). get_or (acts_at s (place_of a.n a.i)) k Extend) c.in-3.is)

pub returns-in-4 : goal.returns-in-4
unfolding act_in
returns-in-4 c = let a = c.args in let s = a.sheet.now in sym (ap (λ (k : ℕ). get_or (acts_at s (place_of a.n a.i)) k Extend) c.in-4.is)

pub returns-in_default : goal.returns-in_default
unfolding act_in
returns-in_default c = let a = c.args in let s = a.sheet.now in sym (get_or-eq_default (acts_at s (place_of a.n a.i)) Extend (at_least 5 _ c.in_default.in_default-own.rest))
