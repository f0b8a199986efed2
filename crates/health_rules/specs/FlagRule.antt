-- The flag rule: which changed flags a report gains, old health against report.
use Rattle.std.specs.Prelude.{ℕ, ◌+◌, ◌/◌, ◌%◌, ◌^◌, Bool, if◌then◌else◌, not, ◌&&◌, ◌||◌, List, [], ◌∷◌, ◌++◌, ◌==◌}
use Rattle.health.specs.Words.{bit}
use Rattle.health.specs.Status.{levels_in}
use Rattle.health.specs.Values.{HealthValues, reported_health, well_formed}
use Rattle.health.specs.declared.report.Report.{Report}

-- a row of the rule: a flag's bit number, and whether the report gains it
pub record Gain : Type 0 where
  pub flag : ℕ
  pub when : Bool

-- a row, by its flag and its test
abbrev pub gain : ℕ → Bool → Gain
gain flag when = record { flag = flag; when = when }

-- status bit k differs, old against new
abbrev pub differs : ℕ → ℕ → ℕ → Bool
differs old new k = not (old / 2 ^ k % 2 == new / 2 ^ k % 2)

-- status bit k goes from 0 to 1
abbrev pub rises : ℕ → ℕ → ℕ → Bool
rises old new k = not (bit old k) && bit new k

-- one of the status bits 5:0 differs
abbrev pub level_differs : ℕ → ℕ → Bool
level_differs old new = not (levels_in old == levels_in new)

-- one of the status events 6 NAC, 7 FA and 8 TCIDA is reported
abbrev pub event_reported : ℕ → Bool
event_reported new = bit new 6 || bit new 7 || bit new 8

-- two values of a field differ
abbrev pub unequal : ℕ → ℕ → Bool
unequal old new = not (old == new)

-- 0 RDY, 1 CFS, 2 SHST, 4 NSSRO, 5 CECO, 6 NAC, 7 FA, 8 CSTS, by the status words
abbrev pub status_gains : ℕ → ℕ → List Gain
status_gains old new =
    gain 0 (differs old new 0) ∷ gain 1 (differs old new 1) ∷ gain 2 (differs old new 2 || differs old new 3) ∷ gain 4 (rises old new 4)
    ∷ gain 5 (differs old new 5) ∷ gain 6 (bit new 6) ∷ gain 7 (bit new 7) ∷ gain 8 (level_differs old new || event_reported new) ∷ []

-- 9 CTEMP, 10 PDLU, 11 SPARE, 12 CWARN, by their fields, and 13 TCIDA
abbrev pub field_gains : HealthValues → Report → List Gain
field_gains old new =
    gain 9 (unequal old.temperature new.temperature) ∷ gain 10 (unequal old.percentage_used new.percentage_used)
    ∷ gain 11 (unequal old.available_spare new.available_spare) ∷ gain 12 (unequal old.critical_warning new.critical_warning)
    ∷ gain 13 (bit new.status 8) ∷ []

-- the word of the flags that are gained
abbrev pub word_of : List Gain → ℕ
word_of [] = 0
word_of (g ∷ gs) = (if g.when then 2 ^ g.flag else 0) + word_of gs

-- the flags that a report gains against the health held before
abbrev pub gained : HealthValues → Report → ℕ
gained old new = word_of (status_gains old.levels new.status ++ field_gains old new)

-- what C is told: the old health is that of a report, and FFFFh stands for a malformed new one
abbrev pub exported : Report → Report → ℕ
exported old new = if well_formed new then gained (reported_health old) new else 0xffff
