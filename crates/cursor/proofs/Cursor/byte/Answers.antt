-- `Cursor::byte`: the byte at the cursor, or the end where there is none.
use mathlib.Core.Path.{sym}
use Rattle.cursor.proofs.Laws.{next_here, next-end}
use Rattle.cursor.proofs.Cursor.byte.Goals as goal

pub returns-then-at-bytes : goal.returns-then-at-bytes
returns-then-at-bytes c = sym (next_here c.args.bytes.now c.args.self.at c.if-at-bytes.true)

pub returns-else-at-bytes : goal.returns-else-at-bytes
returns-else-at-bytes c = sym (next-end c.args.bytes.now c.args.self.at c.if-at-bytes.false)
