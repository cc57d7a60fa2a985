-- `compare_files::text_word` gives a name's length, or the word of its bytes behind it.
use mathlib.Core.List.{[], ◌∷◌}
use mathlib.Core.Path.{◌∙◌}
use Prim.Native.Nat.{◌-◌}
use Rattle.common.proofs.Matches.{past, at_least}
use Rattle.compare.specs.Input.{word_at}
use Rattle.compare_files.specs.Files.{text_word}
use Rattle.compare_files.proofs.text_word.Goals as goal

pub returns-in-0 : goal.returns-in-0
unfolding text_word
returns-in-0 c = rw c.in-0.is

pub returns-in_default : goal.returns-in_default
unfolding text_word
returns-in_default c = let a = c.args in c.word_at.ensures ∙ past (a.name.len ∷ []) a.place (word_at a.name.bytes (a.place - 1)) (at_least 1 _ c.in_default.in_default-own.rest)
