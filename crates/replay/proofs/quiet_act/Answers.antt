-- `quiet_act`: kind by kind; readings and rides are not among them.
use mathlib.Core.Path.{refl}
use mathlib.Core.List.{[]}
use Rattle.sheet.specs.declared.Act.TheVariants.{Skip, ExtendLong, Extend}
use Rattle.replay.specs.Acts.{act_called}
use Rattle.replay.proofs.Laws.{profile-acts, skip-acts, extend-acts, ready-next, ready-extra, not-quiet, played}
use Rattle.replay.proofs.quiet_act.Goals as goal

pub skip_act-requires : goal.skip_act-requires
skip_act-requires c = let a = c.args in (ready-next a.workout a.core a.minute.now [] [] c.requires.0, c.requires.2, c.requires.3)

pub extend_act-requires : goal.extend_act-requires
extend_act-requires c = let a = c.args in λ d. ready-extra a.workout a.core a.minute.now [] [] c.requires.0 d

pub extend_act-requires-in-Extend : goal.extend_act-requires-in-Extend
extend_act-requires-in-Extend c = let a = c.args in λ d. ready-extra a.workout a.core a.minute.now [] [] c.requires.0 d

pub returns-in-Profile : goal.returns-in-Profile
returns-in-Profile c = let a = c.args in
    played a.workout a.profile a.act _ a.core a.minute.now _ _ _ _ _ _ c.requires.0 c.reading_fits.ensures c.requires.0.sixty c.in-Profile.is (profile-acts a.workout a.core a.minute.now _ _ a.profile _ _ c.eventless.ensures)

pub returns-in-Read : goal.returns-in-Read
returns-in-Read c = absurd (not-quiet c.args.act _ c.in-Read.is refl c.requires.1)

pub returns-in-Ride : goal.returns-in-Ride
returns-in-Ride c = absurd (not-quiet c.args.act _ c.in-Ride.is refl c.requires.1)

pub returns-in-Skip : goal.returns-in-Skip
unfolding act_called
returns-in-Skip c = let a = c.args in
    played a.workout a.profile a.act Skip a.core a.minute.now _ _ _ _ _ _ c.requires.0 c.reading_fits.ensures c.requires.0.sixty c.in-Skip.is (skip-acts a.workout a.core a.minute.now _ _ a.profile c.requires.0.stands _ _ _ c.skip_act.ensures)

pub returns-in-ExtendLong : goal.returns-in-ExtendLong
unfolding act_called
returns-in-ExtendLong c = let a = c.args in
    played a.workout a.profile a.act ExtendLong a.core a.minute.now _ _ _ _ _ _ c.requires.0 c.reading_fits.ensures c.requires.0.sixty c.in-ExtendLong.is (extend-acts a.workout a.core a.minute.now _ _ a.profile c.requires.0.stands _ _ _ c.extend_act.ensures)

pub returns-in-Extend : goal.returns-in-Extend
unfolding act_called
returns-in-Extend c = let a = c.args in
    played a.workout a.profile a.act Extend a.core a.minute.now _ _ _ _ _ _ c.requires.0 c.reading_fits.ensures c.requires.0.sixty c.in-Extend.is (extend-acts a.workout a.core a.minute.now _ _ a.profile c.requires.0.stands _ _ _ c.extend_act-in-Extend.ensures)
