-- `TrainingProfile::power_zone`: what the library sums of the upper bounds is what the definition counts; six ones fit.
use Rattle.std.proofs.Common.{rules, tests, ◌≡◌, ◌^◌, refl, ℕ, Bool, cond, arith, ltb, count_by}
use Rattle.std.proofs.lemmas.Iterator.{YieldsList-from_slice, YieldsList-from_map}
use Rattle.std.proofs.lemmas.Iterator.Consumers.{sum_by_from_yields_List}
use Rattle.std.proofs.lemmas.Iterator.Adapters.{fits_from_length, at_most_from_yields_List}
use Rattle.zones.specs.Zones.{power_zone, percent_of, power_upper}
use Rattle.zones.proofs.TrainingProfile.power_zone.Goals as goal

pub sum-exceeded-requires-clause-fits : goal.sum-exceeded-requires-clause-fits
sum-exceeded-requires-clause-fits c =
    fits_from_length _ _ 6 (2 ^ 8) (at_most_from_yields_List (YieldsList-from_slice _ refl) (search (rules, tests))) c.map.ensures.closure (omega arith) (λ x r q k. search (rules, tests))

pub overflow_add-result : goal.overflow_add-result
overflow_add-result c =
    let p = c.sum-exceeded.ensures.runs tt in
    let fits = fits_from_length _ _ 6 255 (at_most_from_yields_List (YieldsList-from_slice _ refl) (search (rules, tests))) c.map.ensures.closure (omega arith) (λ x r q k. search (rules, tests)) p.0 p.0.seen p.1 in
    omega (arith, fits, p.3)

pub returns : goal.returns
unfolding power_zone
returns c =
    let test : ℕ → Bool = λ pct. ltb (percent_of c.args.self.ftp_watts pct) c.args.watts in
    let passed : c.sum-exceeded.result ≡ count_by test power_upper =
    sum_by_from_yields_List (λ pct. cond (test pct) 1 0) power_upper _ c.sum-exceeded.result c.sum-exceeded.ensures.ran (YieldsList-from_map _ (λ pct. cond (test pct) 1 0) (YieldsList-from_slice power_upper cc) c.map.ensures.closure (λ x r q k. search (rules, tests))) in
    omega (arith, passed)
