-- `decode::read_file`: each return is the first of the questions 1 to 4 that fails, or the contents.
use mathlib.Core.Path.{sym, ◌∙◌}
use Rattle.decode.proofs.File.{too_short, too_long, no-magic, no-version, no-check, checked}
use Rattle.decode.proofs.read_file.Goals as goal

pub returns-then-len-lt4 : goal.returns-then-len-lt4
returns-then-len-lt4 c = too_short c.args.bytes.now c.if-len-lt4.true

pub returns-then-len-gt475 : goal.returns-then-len-gt475
returns-then-len-gt475 c = too_long c.args.bytes.now c.if-len-lt4.false c.if-len-gt475.true

pub returns-then-not-is_workout : goal.returns-then-not-is_workout
returns-then-not-is_workout c = no-magic c.args.bytes.now c.if-len-lt4.false c.if-len-gt475.false (sym c.is_workout.ensures ∙ c.if-not-is_workout.true)

pub returns-then-byte_or_0-ne1 : goal.returns-then-byte_or_0-ne1
returns-then-byte_or_0-ne1 c = no-version c.args.bytes.now c.if-len-lt4.false c.if-len-gt475.false (sym c.is_workout.ensures ∙ c.if-not-is_workout.false) (λ e. c.if-byte_or_0-ne1.true (c.byte_or_0.ensures ∙ e))

pub returns-then-crc32-get_u32 : goal.returns-then-crc32-get_u32
returns-then-crc32-get_u32 c = no-check c.args.bytes.now c.if-len-lt4.false c.if-len-gt475.false (sym c.is_workout.ensures ∙ c.if-not-is_workout.false) (sym c.byte_or_0.ensures ∙ c.if-byte_or_0-ne1.false)
    (λ e. c.if-crc32-get_u32.true (c.crc32.ensures ∙ e ∙ sym c.get_u32.ensures))

pub returns : goal.returns
returns c = c.contents.ensures ∙ checked c.args.bytes.now c.if-len-lt4.false c.if-len-gt475.false (sym c.is_workout.ensures ∙ c.if-not-is_workout.false) (sym c.byte_or_0.ensures ∙ c.if-byte_or_0-ne1.false)
    (sym c.crc32.ensures ∙ c.if-crc32-get_u32.false ∙ c.get_u32.ensures)
