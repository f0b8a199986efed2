-- The 8 bytes of an NVM Subsystem Health Data Structure.
use Rattle.std.specs.Prelude.{ℕ, ◌+◌, ◌-◌, Bool, List, [], ◌∷◌, length, Ok, Result, nat_lt, slice_index}
use Rattle.std.specs.Result.{result_map_both}
use Rattle.health.specs.Flags.{named_flags}
use Rattle.health.specs.Words.{bit}
use Rattle.wire.specs.Bytes.{word_at, word_then}
use Rattle.wire.specs.Refusals.{Refusal, refusal, refuse_if, cut_short}
use Rattle.wire.specs.declared.fault.WireFault.{WireFault}
use Rattle.commands.specs.Fields.{bit_at}
use Rattle.commands.specs.declared.subsystem_data.SubsystemHealthData.{SubsystemHealthData}

-- the data, over plain numbers
pub record SubsystemHealth : Type 0 where
  pub sanitize_failed : Bool
  pub functional : Bool
  pub reset_not_required : Bool
  pub port0_link_up : Bool
  pub port1_link_up : Bool
  pub critical_warning : ℕ
  pub temperature_code : ℕ
  pub percentage_used : ℕ
  pub composite : ℕ

-- the data of the code
abbrev pub subsystem_of : SubsystemHealthData → SubsystemHealth
subsystem_of d = record {
  sanitize_failed = d.sanitize_failed;
  functional = d.functional;
  reset_not_required = d.reset_not_required;
  port0_link_up = d.port0_link_up;
  port1_link_up = d.port1_link_up;
  critical_warning = d.critical_warning;
  temperature_code = d.temperature_code;
  percentage_used = d.percentage_used;
  composite = d.composite.bits;
}

-- byte 0: bit 6 sanitize failure, 5 functional, 4 reset not required, 3 and 2 link up at the lowest and the second lowest port
abbrev pub status_byte : SubsystemHealth → ℕ
status_byte h =
    bit_at 6 h.sanitize_failed + bit_at 5 h.functional + bit_at 4 h.reset_not_required + bit_at 3 h.port0_link_up
    + bit_at 2 h.port1_link_up

-- byte 1 is 255 minus the critical warnings, byte 2 the temperature code, byte 3 percentage used, bytes 5:4 the composite flags
abbrev pub subsystem_bytes : SubsystemHealth → List ℕ
subsystem_bytes h =
    status_byte h ∷ (255 - h.critical_warning) ∷ h.temperature_code ∷ h.percentage_used ∷ word_then h.composite (0 ∷ 0 ∷ [])

-- bits 7, 1 and 0 of byte 0, flags 3, 14 and 15, and bytes 7:6 are not named
abbrev pub subsystem_in : List ℕ → Result SubsystemHealth Refusal
subsystem_in bytes =
    refuse_if (nat_lt (length bytes) 8) (cut_short (length bytes))
    (Ok (record {
      sanitize_failed = bit (slice_index bytes 0) 6;
      functional = bit (slice_index bytes 0) 5;
      reset_not_required = bit (slice_index bytes 0) 4;
      port0_link_up = bit (slice_index bytes 0) 3;
      port1_link_up = bit (slice_index bytes 0) 2;
      critical_warning = 255 - slice_index bytes 1;
      temperature_code = slice_index bytes 2;
      percentage_used = slice_index bytes 3;
      composite = named_flags (word_at bytes 4);
    }))

-- an answer of the code, over plain numbers
abbrev pub subsystem_told : Result SubsystemHealthData WireFault → Result SubsystemHealth Refusal
subsystem_told r = result_map_both subsystem_of refusal r
