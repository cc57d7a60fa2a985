-- `compare_frame::compare_grant` plays the four lists and asks for the grant.
use native.Mathlib.Omega.{arith}
use Rattle.compare_frame.proofs.Laws.{answer-small}
use Rattle.compare_frame.proofs.compare_grant.Goals as goal

pub overflow_mul-result : goal.overflow_mul-result
overflow_mul-result c = omega (arith, c.refused_number.ensures, answer-small _ _ _ c.grant-granted.ensures)

pub overflow_add-result : goal.overflow_add-result
overflow_add-result c = omega (arith, c.refused_number.ensures, answer-small _ _ _ c.grant-granted.ensures)

pub returns : goal.returns
returns c = simp (c.refused_number.ensures, c.grant-granted.ensures, c.bike_after-fourth.ensures, c.bike_after-third.ensures, c.bike_after-second.ensures, c.bike_after-first.ensures)
