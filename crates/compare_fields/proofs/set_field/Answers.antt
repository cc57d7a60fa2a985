-- `compare_fields::set_field` sets a field of the core, of the workout or of the note, or a place of the ring.
use borrow.Author.Tests.{lt-ltb, le-ltb, eq-eqb, ne_eqb}
use Rattle.compare_fields.specs.Fields.{set_field}
use Rattle.compare_fields.proofs.set_field.Goals as goal

pub returns-then-group-lt6 : goal.returns-then-group-lt6
unfolding set_field
returns-then-group-lt6 c = simp (lt-ltb _ _ c.if-group-lt6.true, c.set_core-set.ensures)

pub returns-then-group-eq6 : goal.returns-then-group-eq6
unfolding set_field
returns-then-group-eq6 c = simp (le-ltb _ _ c.if-group-lt6.false, eq-eqb _ _ c.if-group-eq6.true, c.set_workout-set.ensures)

pub returns-then-group-eq7 : goal.returns-then-group-eq7
unfolding set_field
returns-then-group-eq7 c = simp (le-ltb _ _ c.if-group-lt6.false, ne_eqb _ _ c.if-group-eq6.false, eq-eqb _ _ c.if-group-eq7.true, c.low8-len.ensures)

pub returns : goal.returns
unfolding set_field
returns c = simp (le-ltb _ _ c.if-group-lt6.false, ne_eqb _ _ c.if-group-eq6.false, ne_eqb _ _ c.if-group-eq7.false, c.low16.ensures)
