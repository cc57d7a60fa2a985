-- `stored_record` states what Stored.antt proves.
use Rattle.replay_machine.proofs.Stored.{stored-record}
use Rattle.replay_machine.proofs.stored_record.Goals as goal

pub returns : goal.returns
returns c = stored-record
