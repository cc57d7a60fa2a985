-- What the reports suppose, of a player that stands.
use mathlib.Core.Path.{◌≡◌}
use mathlib.Core.Bool.{true}
use native.Mathlib.Omega.{arith}
use Rattle.state.specs.declared.Player.{Player}
use Rattle.standing.specs.Standing.{standing_of}
use Rattle.standing.proofs.Known.{known, extra-known}
use Rattle.validation.proofs.Passes.{passes}
use Rattle.screen.specs.Screen.{ReportFits}

pub report-fits : (p : Player) → standing_of p ≡ true → ReportFits p.core
report-fits p e =
    let k = (known p e).core in
    let f = k.within in
    let most = (passes p.workout f.valid).most in
    record {
      position = omega (arith, f.position);
      steps = omega (arith, f.steps);
      step-ms = omega (arith, f.step-ms, f.total-ms);
      step-mm = omega (arith, f.step-mm, f.total-mm);
      extra-s = extra-known p.core.done p.core.on.length p.core.lap k.lap;
      test-mj = f.energy;
      test-ms = omega (arith, f.test-ms, f.total-ms);
    }
