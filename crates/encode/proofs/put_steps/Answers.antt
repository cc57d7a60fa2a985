-- `encode::put_steps` meets its contract: the steps so far stand behind the place, and the next has room.
use native.Mathlib.Omega.{arith}
use lib.ListN.{take}
use Rattle.steps.specs.Bytes.{step_bytes}
use Rattle.encode.proofs.Sizes.{note-fits}
use Rattle.encode.proofs.Many.{wrote_none, wrote-more, room}
use Rattle.encode.proofs.put_steps.Goals as goal

pub loop-step-init : goal.loop-step-init
loop-step-init c = let a = c.args in wrote_none step_bytes (take a.n a.steps) a.out.now a.at

pub put_step-place-requires : goal.put_step-place-requires
put_step-place-requires c =
    let a = c.args in
    let l = c.loop-step in
    let p = c.requires in
    let steps = take a.n a.steps in
    (note-fits steps l.step-index _ c.loop-step-test.true p.1, room step_bytes steps a.out.now a.at l.step-index l.place l.out _ c.loop-step-test.true p.2 l.invariant)

pub loop-step-preserved : goal.loop-step-preserved
loop-step-preserved c =
    let a = c.args in
    let l = c.loop-step in
    let p = c.requires in
    rw c.put_step-place.ensures.0
    (wrote-more step_bytes (take a.n a.steps) a.out.now a.at l.step-index l.place l.out _ _ c.loop-step-test.true (omega arith) l.invariant c.put_step-place.auto.out c.put_step-place.ensures.1)
