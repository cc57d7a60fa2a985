-- model.rs: what a target asks of a rider under a profile, some seconds into its step.
use Rattle.std.specs.Prelude.{ℕ, ◌+◌, ◌-◌, ◌*◌, ◌/◌, ◌%◌, min, max, None, Option, Some}
use Rattle.zones.specs.declared.TrainingProfile.{TrainingProfile}
use Rattle.zones.specs.Zones.{percent_of, heart_range}
use Rattle.model.specs.declared.Target.{Target}
use Rattle.model.specs.declared.Target.TheVariants.{Free, Ftp, Watts, HeartZone, Lthr, Cadence, FtpRamp}
use Rattle.model.specs.declared.Target.TheVariants as targets
use Rattle.model.specs.declared.Metric.{Metric}
use Rattle.model.specs.declared.Metric.TheVariants as metrics
use Rattle.model.specs.declared.Ramp.{Ramp}
use Rattle.model.specs.declared.Band.{Band}

-- A percentage as a 16-bit number that tops out.
unfoldable pub capped : ℕ → ℕ → ℕ
capped base pct = min (percent_of base pct) 65535

-- The 16 bits that the Rust's `as u16` keeps. Under a profile that passes question 10 nothing is lost.
abbrev pub wrapped : ℕ → ℕ
wrapped n = n % 65536

-- The stage some seconds into a ramp, the first being 0.
unfoldable pub stage_of : Ramp → ℕ → ℕ
stage_of r elapsed = elapsed / max r.every 1

-- `start` watts in stage 0, and `step` more in each stage, topping out at 65,535.
unfoldable pub stage_watts : Ramp → ℕ → ℕ
stage_watts r stage = min (r.start + stage * r.step) 65535

unfoldable pub watts_at : Ramp → ℕ → ℕ
watts_at r elapsed = stage_watts r (stage_of r elapsed)

abbrev pub band : Metric → ℕ → ℕ → Band
band metric low high = record { metric = metric; low = low; high = high }

-- From 95 to 110 % of the ramp's watts.
unfoldable pub ramp_band : Ramp → ℕ → Band
ramp_band r elapsed = band metrics.Power (capped (watts_at r elapsed) 95) (capped (watts_at r elapsed) 110)

-- A ramp in percent of FTP as one in watts, whose rise is at least 1 W.
unfoldable pub of_ftp : ℕ → ℕ → ℕ → TrainingProfile → Ramp
of_ftp start step every p =
    record {
      start = wrapped (percent_of p.ftp_watts start);
      step = max (wrapped (percent_of p.ftp_watts step)) 1;
      every = every;
    }

-- "a ramp target is kind 6 or 7"
unfoldable pub ramp_option : Target → TrainingProfile → Option Ramp
ramp_option Free p = None
ramp_option (Ftp low high) p = None
ramp_option (Watts low high) p = None
ramp_option (HeartZone zone) p = None
ramp_option (Lthr low high) p = None
ramp_option (Cadence low high) p = None
ramp_option (targets.Ramp start step every) p = Some (record { start = start; step = step; every = every })
ramp_option (FtpRamp start step every) p = Some (of_ftp start step every p)

-- The band of a target, some seconds into its step.
unfoldable pub band_of : Target → TrainingProfile → ℕ → Option Band
band_of Free p elapsed = None
band_of (Ftp low high) p elapsed = Some (band metrics.Power (capped p.ftp_watts low) (capped p.ftp_watts high))
band_of (Watts low high) p elapsed = Some (band metrics.Power low high)
band_of (HeartZone zone) p elapsed = Some (band metrics.Heart (wrapped (heart_range p zone).low) (wrapped ((heart_range p zone).next - 1)))
band_of (Lthr low high) p elapsed = Some (band metrics.Heart (capped p.lthr_bpm low) (capped p.lthr_bpm high))
band_of (Cadence low high) p elapsed = Some (band metrics.Cadence low high)
band_of (targets.Ramp start step every) p elapsed = Some (ramp_band (record { start = start; step = step; every = every }) elapsed)
band_of (FtpRamp start step every) p elapsed = Some (ramp_band (of_ftp start step every p) elapsed)
