-- `compare_player::player_word` gives a word after as many calls as come before it.
use mathlib.Core.Path.{◌∙◌}
use borrow.Author.Tests.{lt-ltb, le-ltb, le-leb, lt-leb}
use Rattle.compare_player.proofs.Laws.{word_after_lem}
use Rattle.compare_player.specs.Calls.{player_word}
use Rattle.compare_player.proofs.player_word.Goals as goal

pub returns-then-input-lt4 : goal.returns-then-input-lt4
unfolding player_word
returns-then-input-lt4 c = simp (lt-ltb _ _ c.if-input-lt4.true)

pub returns-then-input-size : goal.returns-then-input-size
unfolding player_word
returns-then-input-size c = simp (le-ltb _ _ c.if-input-lt4.false, ← c.word_at-size.ensures, lt-ltb _ _ c.if-input-size.true)

pub returns-then-place-ge1000000 : goal.returns-then-place-ge1000000
unfolding player_word
returns-then-place-ge1000000 c = simp (le-ltb _ _ c.if-input-lt4.false, ← c.word_at-size.ensures, le-ltb _ _ c.if-input-size.false, le-leb _ _ c.if-place-ge1000000.true)

pub returns : goal.returns
unfolding player_word
returns c = simp (le-ltb _ _ c.if-input-lt4.false, ← c.word_at-size.ensures, le-ltb _ _ c.if-input-size.false, lt-leb _ _ c.if-place-ge1000000.false) (c.seen_word.ensures ∙ word_after_lem _ _ _ c.seen_at-seen.result c.seen_at-seen.ensures)
