-- `read_is_written` states what RoundTrip.antt proves.
use Rattle.sheet.proofs.RoundTrip.{read-is-written}
use Rattle.sheet.proofs.read_is_written.Goals as goal

pub returns : goal.returns
returns c = read-is-written
