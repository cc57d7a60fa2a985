-- `vectors::entry_at` reads the entry at a place: each return rewrites with the tests that led there.
use native.Mathlib.Omega.{arith}
use borrow.Author.Tests.{lt-ltb, le-ltb, le-leb, lt-leb}
use Rattle.vectors.specs.Replays.{entry_at}
use Rattle.vectors.proofs.entry_at.Goals as goal

pub returns-then-list-at : goal.returns-then-list-at
unfolding entry_at
returns-then-list-at c = (simp (le-leb _ _ c.if-list-at.true), tt)

pub returns-then-list-at-lt8 : goal.returns-then-list-at-lt8
unfolding entry_at
returns-then-list-at-lt8 c = (simp (lt-leb _ _ c.if-list-at.false, lt-ltb _ _ c.if-list-at-lt8.true), tt)

pub returns-then-list-at-2 : goal.returns-then-list-at-2
unfolding entry_at
returns-then-list-at-2 c = (simp (lt-leb _ _ c.if-list-at.false, le-ltb _ _ c.if-list-at-lt8.false, ← c.get_u32-size.ensures, lt-ltb _ _ c.if-list-at-2.true), tt)

pub returns-then-list-end-lt4 : goal.returns-then-list-end-lt4
unfolding entry_at
returns-then-list-end-lt4 c = (simp (lt-leb _ _ c.if-list-at.false, le-ltb _ _ c.if-list-at-lt8.false, ← c.get_u32-size.ensures, le-ltb _ _ c.if-list-at-2.false, lt-ltb _ _ c.if-list-end-lt4.true), tt)

pub returns-then-list-end : goal.returns-then-list-end
unfolding entry_at
returns-then-list-end c = (simp (lt-leb _ _ c.if-list-at.false, le-ltb _ _ c.if-list-at-lt8.false, ← c.get_u32-size.ensures, le-ltb _ _ c.if-list-at-2.false, le-ltb _ _ c.if-list-end-lt4.false, ← c.get_u32-words.ensures, lt-ltb _ _ c.if-list-end.true), tt)

pub returns : goal.returns
unfolding entry_at
returns c = (simp (lt-leb _ _ c.if-list-at.false, le-ltb _ _ c.if-list-at-lt8.false, ← c.get_u32-size.ensures, le-ltb _ _ c.if-list-at-2.false, le-ltb _ _ c.if-list-end-lt4.false, ← c.get_u32-words.ensures, le-ltb _ _ c.if-list-end.false, ← c.get_u32-question.ensures), (omega arith, omega arith))
