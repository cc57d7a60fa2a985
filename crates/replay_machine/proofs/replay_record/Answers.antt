-- `replay_record` states what Acts.antt proves.
use Rattle.replay_machine.proofs.Acts.{replay-machine}
use Rattle.replay_machine.proofs.replay_record.Goals as goal

pub returns : goal.returns
returns c = replay-machine
