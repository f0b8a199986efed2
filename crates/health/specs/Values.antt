-- A controller's health, and reports of it.
use Rattle.std.specs.Prelude.{ℕ, ◌^◌, Bool, ◌&&◌, nat_lt}
use Rattle.health.specs.Status.{levels_in}
use Rattle.health.specs.declared.values.Health.{Health}
use Rattle.health.specs.declared.report.Report.{Report}

-- health, over plain numbers
pub record HealthValues : Type 0 where
  pub levels : ℕ
  pub temperature : ℕ
  pub percentage_used : ℕ
  pub available_spare : ℕ
  pub critical_warning : ℕ

-- a health of the code
abbrev pub health_of : Health → HealthValues
health_of h = record {
  levels = h.levels;
  temperature = h.temperature;
  percentage_used = h.percentage_used;
  available_spare = h.available_spare;
  critical_warning = h.critical_warning;
}

-- what a register holds of a report
abbrev pub reported_health : Report → HealthValues
reported_health p = record {
  levels = levels_in p.status;
  temperature = p.temperature;
  percentage_used = p.percentage_used;
  available_spare = p.available_spare;
  critical_warning = p.critical_warning;
}

-- no status bit of 15:9 and no critical warning bit of 7:6 is set
abbrev pub well_formed : Report → Bool
well_formed p = nat_lt p.status (2 ^ 9) && nat_lt p.critical_warning (2 ^ 6)
