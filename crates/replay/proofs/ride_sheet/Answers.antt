-- `ride_sheet`: question after question.
use Rattle.replay.proofs.Sheets.{file-refused, new-refused, sheet-refused, no_room, acts-played, new-fresh}
use Rattle.sheet.proofs.Laws.{accepted-sized}
use Rattle.replay.specs.Replay.{Fresh, play_sheet}
use Rattle.replay.specs.Acts.{nothing_ridden}
use Rattle.decode.specs.declared.Decoded.{Decoded}
use Rattle.start.specs.Start.{new_of}
use Rattle.start.specs.declared.NewPlayer.{NewPlayer}
use Rattle.sheet.specs.declared.ActAnswer.{ActAnswer}
use mathlib.Core.Path.{sym, ap, subst, ◌∙◌}
use Rattle.decode.specs.Decode.{decode_of}
use Rattle.replay.proofs.ride_sheet.Goals as goal

pub returns-in-Err : goal.returns-in-Err
returns-in-Err c = let a = c.args in
    c.nothing_ridden.ensures ∙ ap nothing_ridden c.refused_at.ensures
    ∙ file-refused a.file.now a.sheet.now a.room _ (sym (ap (λ (d : Decoded). d.answer) c.decode-decoded.ensures) ∙ c.in-Err.is)

pub returns-in-Err-begun : goal.returns-in-Err-begun
returns-in-Err-begun c = let a = c.args in
    let f = a.file.now in
    let s = a.sheet.now in
    let e = sym (ap (λ (d : Decoded). d.answer) c.decode-decoded.ensures) ∙ c.in_default.is in
    let m = c.new-made.ensures ∙ ap (λ (d : Decoded). new_of d.workout) c.decode-decoded.ensures in
    c.nothing_ridden-in-Err-begun.ensures ∙ ap nothing_ridden c.refused_at-in-Err-begun.ensures
    ∙ new-refused f s a.room e _ (sym (ap (λ (m : NewPlayer). m.answer) m) ∙ c.in-Err-begun.is)

pub returns-in-Err-acts : goal.returns-in-Err-acts
returns-in-Err-acts c = let a = c.args in
    let f = a.file.now in
    let s = a.sheet.now in
    let e = sym (ap (λ (d : Decoded). d.answer) c.decode-decoded.ensures) ∙ c.in_default.is in
    let m = c.new-made.ensures ∙ ap (λ (d : Decoded). new_of d.workout) c.decode-decoded.ensures in
    let g = sym (ap (λ (m : NewPlayer). m.answer) m) ∙ c.in_default-begun.is in
    c.nothing_ridden-in-Err-acts.ensures ∙ ap nothing_ridden c.check-checked.ensures
    ∙ sheet-refused f s a.room e g _ (sym (ap (λ (x : ActAnswer). x.answer) c.check-checked.ensures) ∙ c.in-Err-acts.is)

pub returns-then-room-lt-RECORD_BYTES : goal.returns-then-room-lt-RECORD_BYTES
returns-then-room-lt-RECORD_BYTES c = let a = c.args in
    let f = a.file.now in
    let s = a.sheet.now in
    let e = sym (ap (λ (d : Decoded). d.answer) c.decode-decoded.ensures) ∙ c.in_default.is in
    let m = c.new-made.ensures ∙ ap (λ (d : Decoded). new_of d.workout) c.decode-decoded.ensures in
    let g = sym (ap (λ (m : NewPlayer). m.answer) m) ∙ c.in_default-begun.is in
    let k = sym (ap (λ (x : ActAnswer). x.answer) c.check-checked.ensures) ∙ c.in_default-acts.is in
    c.nothing_ridden-then-room-lt-RECORD_BYTES.ensures ∙ ap nothing_ridden c.refused_at-then-room-lt-RECORD_BYTES.ensures ∙ no_room f s a.room e g k c.if-room-lt-RECORD_BYTES.true

pub play_sheet-requires : goal.play_sheet-requires
play_sheet-requires c = let a = c.args in
    let f = a.file.now in
    let s = a.sheet.now in
    let e = sym (ap (λ (d : Decoded). d.answer) c.decode-decoded.ensures) ∙ c.in_default.is in
    let m = c.new-made.ensures ∙ ap (λ (d : Decoded). new_of d.workout) c.decode-decoded.ensures in
    let g = sym (ap (λ (m : NewPlayer). m.answer) m) ∙ c.in_default-begun.is in
    let k = sym (ap (λ (x : ActAnswer). x.answer) c.check-checked.ensures) ∙ c.in_default-acts.is in
    (subst (λ (m : NewPlayer). Fresh m.player) (sym m) (new-fresh (decode_of f).workout g), accepted-sized s k)

pub returns : goal.returns
returns c = let a = c.args in
    let f = a.file.now in
    let s = a.sheet.now in
    let e = sym (ap (λ (d : Decoded). d.answer) c.decode-decoded.ensures) ∙ c.in_default.is in
    let m = c.new-made.ensures ∙ ap (λ (d : Decoded). new_of d.workout) c.decode-decoded.ensures in
    let g = sym (ap (λ (m : NewPlayer). m.answer) m) ∙ c.in_default-begun.is in
    let k = sym (ap (λ (x : ActAnswer). x.answer) c.check-checked.ensures) ∙ c.in_default-acts.is in
    c.play_sheet.ensures ∙ ap (λ (m : NewPlayer). play_sheet m.player s) m ∙ acts-played f s a.room e g k c.if-room-lt-RECORD_BYTES.false
