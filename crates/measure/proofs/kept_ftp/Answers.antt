-- `kept_ftp`: only 50 to 600 is kept.
use borrow.Author.Tests.{le-leb, lt-leb}
use Rattle.measure.proofs.kept_ftp.Goals as goal

pub returns-then-watts-lt50 : goal.returns-then-watts-lt50
returns-then-watts-lt50 c = simp (lt-leb _ _ c.if-watts-lt50.true)

pub returns-then-watts-gt600 : goal.returns-then-watts-gt600
returns-then-watts-gt600 c = simp (le-leb _ _ c.if-watts-lt50.false, lt-leb _ _ c.if-watts-gt600.true)

pub returns : goal.returns
returns c = simp (le-leb _ _ c.if-watts-lt50.false, le-leb _ _ c.if-watts-gt600.false)
