-- `class_grants`: the watts of four calls.
use Rattle.class.proofs.class_grants.Goals as goal

pub returns : goal.returns
returns c = simp (c.grant-fourth.ensures, c.grant-third.ensures, c.grant-second.ensures, c.grant-first.ensures)
