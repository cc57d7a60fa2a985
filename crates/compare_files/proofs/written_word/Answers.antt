-- `compare_files::written_word` gives the answer of the writer, or a word of the bytes it leaves.
use mathlib.Core.List.{List, [], ◌∷◌}
use mathlib.Core.Path.{◌∙◌, ap}
use Prim.Native.Nat.{ℕ, ◌-◌}
use Rattle.common.proofs.Matches.{past, at_least}
use Rattle.compare.specs.Input.{word_at}
use Rattle.decode.specs.Decode.{decode_of}
use Rattle.encode.specs.Encode.{encoded_of, output_of}
use Rattle.compare_files.specs.Files.{written_number, lent, written_word}
use Rattle.compare_files.proofs.written_word.Goals as goal

pub returns-in-0 : goal.returns-in-0
unfolding written_word
returns-in-0 c = rw c.in-0.is c.compare_written-size.ensures.value

pub returns-in_default : goal.returns-in_default
unfolding written_word
returns-in_default c = let a = c.args in
    let w = (decode_of a.file.now).workout in
    c.word_at.ensures
    ∙ ap (λ (out : List ℕ). word_at out (a.place - 1)) c.compare_written-size.ensures.out_after
    ∙ past (written_number (encoded_of w 484) ∷ []) a.place (word_at (output_of w lent) (a.place - 1)) (at_least 1 _ c.in_default.in_default-own.rest)
