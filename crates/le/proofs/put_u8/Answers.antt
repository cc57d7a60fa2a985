-- A byte stored is a run of one written.
use native.Mathlib.Omega.{arith}
use Rattle.le.proofs.Laws.{put_one}
use Rattle.le.proofs.put_u8.Goals as goal

pub returns : goal.returns
returns c = put_one c.args.bytes.now c.args.at c.args.value (omega arith)
