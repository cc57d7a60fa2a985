-- `compare_player::play` plays a call by its kind.
use mathlib.Core.Path.{◌∙◌, sym, ap}
use Prim.Native.Nat.{ℕ}
use lib.ListN.{get_or}
use Rattle.common.proofs.Matches.{past, at_least}
use Rattle.compare_player.specs.Calls.{played, turns, set_turn}
use Rattle.compare_player.proofs.play.Goals as goal

pub returns-in-0 : goal.returns-in-0
unfolding played
returns-in-0 c = let a = c.args in c.read.ensures ∙ sym (ap (λ (k : ℕ). get_or (turns a.player a.call) k (set_turn a.player a.call)) c.in-0.is)

pub returns-in-1 : goal.returns-in-1
unfolding played
returns-in-1 c = let a = c.args in c.ride.ensures ∙ sym (ap (λ (k : ℕ). get_or (turns a.player a.call) k (set_turn a.player a.call)) c.in-1.is)

pub returns-in-2 : goal.returns-in-2
unfolding played
returns-in-2 c = let a = c.args in c.add.ensures ∙ sym (ap (λ (k : ℕ). get_or (turns a.player a.call) k (set_turn a.player a.call)) c.in-2.is)

pub returns-in-3 : goal.returns-in-3
unfolding played
returns-in-3 c = let a = c.args in c.skip.ensures ∙ sym (ap (λ (k : ℕ). get_or (turns a.player a.call) k (set_turn a.player a.call)) c.in-3.is)

pub returns-in-4 : goal.returns-in-4
unfolding played
returns-in-4 c = let a = c.args in c.extend_with.ensures ∙ sym (ap (λ (k : ℕ). get_or (turns a.player a.call) k (set_turn a.player a.call)) c.in-4.is)

pub returns-in-5 : goal.returns-in-5
unfolding played
returns-in-5 c = let a = c.args in c.extend.ensures ∙ sym (ap (λ (k : ℕ). get_or (turns a.player a.call) k (set_turn a.player a.call)) c.in-5.is)

pub returns-in_default : goal.returns-in_default
unfolding played
returns-in_default c = let a = c.args in c.set.ensures ∙ past (turns a.player a.call) a.call.kind (set_turn a.player a.call) (at_least 6 _ c.in_default.in_default-own.rest)
