-- `written_is_read` states what RoundTrip.antt proves.
use Rattle.sheet.proofs.RoundTrip.{written-is-read}
use Rattle.sheet.proofs.written_is_read.Goals as goal

pub returns : goal.returns
returns c = written-is-read
