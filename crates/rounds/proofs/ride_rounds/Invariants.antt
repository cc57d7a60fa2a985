-- `ride_rounds`: after each round the events so far and what the rest of the loop gives are those of the whole loop (Loop).
use Rattle.rounds.proofs.Loop.{At}
use Rattle.rounds.proofs.ride_rounds.Given as goal

abbrev pub invariant-loop : goal.invariant-loop
invariant-loop l = At l.workout l.profile l.initial.minute l.initial.kinds l.initial.values l.initial.ride l.counter l.minute l.kinds l.values l.ride
