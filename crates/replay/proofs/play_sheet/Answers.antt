-- `play_sheet`: question 10, then the acts.
use Rattle.replay.proofs.Sheets.{fresh-made-of, fresh-ready, profile-passed, profile-refused, sheet-played}
use Rattle.sheet.specs.Sheet.{acts_from}
use Rattle.replay.specs.Acts.{nothing_ridden, play_acts}
use Rattle.sheet.proofs.Laws.{sized}
use lib.ListN.{length}
use native.Mathlib.Omega.{arith}
use Prim.Native.Nat.{ℕ, ◌+◌, ◌*◌, ◌-◌}
use mathlib.Core.Path.{◌≡◌, sym, ap, ◌∙◌}
use borrow.Author.Rules.{rules}
use Rattle.replay.proofs.play_sheet.Goals as goal

pub count_of-n-requires : goal.count_of-n-requires
count_of-n-requires c = omega (arith, (sized c.args.sheet.now c.requires.1).long)

pub profile_at-profile-requires : goal.profile_at-profile-requires
profile_at-profile-requires c = let z = sized c.args.sheet.now c.requires.1 in omega (arith, c.count_of-n.ensures.0, z.long, z.some)

pub play-requires : goal.play-requires
play-requires c = let a = c.args in
    let z = sized a.sheet.now c.requires.1 in
    let n = c.count_of-n.ensures.0 in
    let twelve : length a.fresh.workout.steps ≡ 12 = search rules in
    let sixty : length a.fresh.minute ≡ 60 = search (rules, c.well_formed.0.1.1.1.1.1.0) in
    (fresh-ready a.fresh c.requires.0 twelve sixty, profile-passed a.fresh a.sheet.now _ _ n c.profile_at-profile.ensures (sym c.check.ensures ∙ c.in-Ok.is), omega (arith, n, z.some), omega (arith, n, z.most), z.long ∙ ap (λ (k : ℕ). 2 + 9 * k) (sym n))

pub returns-in-Ok : goal.returns-in-Ok
returns-in-Ok c = let a = c.args in
    let twelve : length a.fresh.workout.steps ≡ 12 = search rules in
    c.play.ensures ∙ ap (play_acts a.fresh.workout c.profile_at-profile.result (acts_from a.sheet.now c.count_of-n.result 1 (c.count_of-n.result - 1)) 1) (fresh-made-of a.fresh c.requires.0 twelve)
    ∙ sheet-played a.fresh a.sheet.now _ _ c.count_of-n.ensures.0 c.profile_at-profile.ensures (sym c.check.ensures ∙ c.in-Ok.is)

pub returns-in-Err : goal.returns-in-Err
returns-in-Err c = let a = c.args in
    c.nothing_ridden.ensures ∙ ap nothing_ridden c.refused_at.ensures
    ∙ profile-refused a.fresh a.sheet.now _ _ c.count_of-n.ensures.0 c.profile_at-profile.ensures _ (sym c.check.ensures ∙ c.in-Err.is)
