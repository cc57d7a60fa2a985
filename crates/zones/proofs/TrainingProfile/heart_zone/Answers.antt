-- `TrainingProfile::heart_zone`: what the library sums of the lower bounds is what the definition counts; four ones fit.
use Rattle.std.proofs.Common.{rules, tests, ◌≡◌, ◌^◌, refl, ℕ, Bool, cond, arith, leb, count_by}
use Rattle.std.proofs.lemmas.Iterator.{YieldsList-from_slice, YieldsList-from_map}
use Rattle.std.proofs.lemmas.Iterator.Consumers.{sum_by_from_yields_List}
use Rattle.std.proofs.lemmas.Iterator.Adapters.{fits_from_length, at_most_from_yields_List}
use Rattle.zones.specs.Zones.{heart_zone, percent_of, heart_lower}
use Rattle.zones.proofs.TrainingProfile.heart_zone.Goals as goal

pub sum-reached-requires-clause-fits : goal.sum-reached-requires-clause-fits
sum-reached-requires-clause-fits c =
    fits_from_length _ _ 4 (2 ^ 8) (at_most_from_yields_List (YieldsList-from_slice _ refl) (search (rules, tests))) c.map.ensures.closure (omega arith) (λ x r q k. search (rules, tests))

pub overflow_add-result : goal.overflow_add-result
overflow_add-result c =
    let p = c.sum-reached.ensures.runs tt in
    let fits = fits_from_length _ _ 4 255 (at_most_from_yields_List (YieldsList-from_slice _ refl) (search (rules, tests))) c.map.ensures.closure (omega arith) (λ x r q k. search (rules, tests)) p.0 p.0.seen p.1 in
    omega (arith, fits, p.3)

pub returns : goal.returns
unfolding heart_zone
returns c =
    let test : ℕ → Bool = λ pct. leb (percent_of c.args.self.lthr_bpm pct) c.args.bpm in
    let passed : c.sum-reached.result ≡ count_by test heart_lower =
    sum_by_from_yields_List (λ pct. cond (test pct) 1 0) heart_lower _ c.sum-reached.result c.sum-reached.ensures.ran (YieldsList-from_map _ (λ pct. cond (test pct) 1 0) (YieldsList-from_slice heart_lower cc) c.map.ensures.closure (λ x r q k. search (rules, tests))) in
    omega (arith, passed)
