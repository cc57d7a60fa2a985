-- player.rs: the readings, the one that a metric is checked by, and where it sits against a band.
use Rattle.std.specs.Prelude.{Bool, false, cond, ℕ, ◌+◌, ◌/◌, ◌%◌, ltb, eqb, replicate, None, Option, Some}
use Rattle.zones.specs.declared.TrainingProfile.{TrainingProfile}
use Rattle.zones.specs.Zones.{clamped, heart_zone}
use Rattle.model.specs.declared.Metric.{Metric}
use Rattle.model.specs.declared.Metric.TheVariants as metrics
use Rattle.model.specs.declared.Band.{Band}
use Rattle.model.specs.declared.Target.{Target}
use Rattle.model.specs.declared.Target.TheVariants.{Free, Ftp, Watts, HeartZone, Lthr, Cadence, Ramp, FtpRamp}
use Rattle.power.specs.Power.{average_of, added}
use Rattle.readings.specs.declared.Sample.{Sample}
use Rattle.readings.specs.declared.Readings.{Readings}
use Rattle.readings.specs.declared.Compared.{Compared}
use Rattle.readings.specs.declared.Compliance.{Compliance}
use Rattle.readings.specs.declared.Compliance.TheVariants.{Under, In, Over}
use Rattle.readings.specs.declared.ComplianceOption.{ComplianceOption}
use Rattle.readings.specs.declared.ComplianceOption.TheVariants as how

-- Whether the flag of this value is among the flags.
abbrev pub flag_set : ℕ → ℕ → Bool
flag_set flags value = eqb (flags / value % 2) 1

-- Before the first sample.

abbrev pub no_sample : Sample
no_sample = record { power_watts = None; heart_bpm = None; cadence_tenths = None }

abbrev pub no_readings : Readings
no_readings =
    record {
      last_sample = no_sample;
      power = record { watts = replicate 3 0; present = replicate 3 false; next = 0 };
    }

-- player.rs, `read`: the sample's power joins the average, and the sample is the last one.
unfoldable pub taken : Sample → Readings → Readings
taken sample r = record { last_sample = sample; power = added sample.power_watts r.power }

-- The reading that a metric is checked by.

-- Tenths of a turn per minute as whole turns, rounded half up.
abbrev pub per_minute : Option ℕ → Option ℕ
per_minute None = None
per_minute (Some tenths) = Some ((tenths + 5) / 10)

-- "for power the three-reading average, else the newest reading's"
unfoldable pub reading_of : Metric → Readings → Option ℕ
reading_of metrics.Power r = average_of r.power
reading_of metrics.Heart r = r.last_sample.heart_bpm
reading_of metrics.Cadence r = per_minute r.last_sample.cadence_tenths

-- Compliance.

abbrev pub against : ℕ → ℕ → ℕ → Compliance
against low high value = cond (ltb value low) Under (cond (ltb high value) Over In)

abbrev pub by_band : Band → ℕ → Compared
by_band band value = record { low = band.low; high = band.high; value = value }

-- "For a heart zone compliance compares zones and not the band: at LTHR 160 zone 1 shows 104 to 129, and 90 bpm is In."
abbrev pub compared : Target → Band → TrainingProfile → ℕ → Compared
compared Free band p value = by_band band value
compared (Ftp low high) band p value = by_band band value
compared (Watts low high) band p value = by_band band value
compared (HeartZone zone) band p value = record { low = clamped zone 5; high = clamped zone 5; value = heart_zone p value }
compared (Lthr low high) band p value = by_band band value
compared (Cadence low high) band p value = by_band band value
compared (Ramp start step every) band p value = by_band band value
compared (FtpRamp start step every) band p value = by_band band value

abbrev pub compliance_by : Compared → Compliance
compliance_by c = against c.low c.high c.value

unfoldable pub judged : Target → Band → TrainingProfile → Option ℕ → ComplianceOption
judged target band p None = how.NoReading
judged target band p (Some value) = how.Some (compliance_by (compared target band p value))

-- Where the reading sits against the band, if there are both.
unfoldable pub compliance_of : Target → Option Band → TrainingProfile → Readings → ComplianceOption
compliance_of target None p r = how.NoBand
compliance_of target (Some band) p r = judged target band p (reading_of band.metric r)
