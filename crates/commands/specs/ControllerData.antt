-- The 16 bytes of a Controller Health Data Structure.
use Rattle.std.specs.Prelude.{ℕ, ◌%◌, ◌^◌, List, [], ◌∷◌, length, Ok, Result, nat_lt, slice_index}
use Rattle.std.specs.Result.{result_map_both}
use Rattle.health.specs.Flags.{named_flags}
use Rattle.wire.specs.Bytes.{word_at, word_then}
use Rattle.wire.specs.Refusals.{Refusal, refusal, refuse_if, cut_short}
use Rattle.wire.specs.declared.fault.WireFault.{WireFault}
use Rattle.commands.specs.declared.controller_data.ControllerHealthData.{ControllerHealthData}

-- an entry, over plain numbers
pub record Entry : Type 0 where
  pub controller_id : ℕ
  pub status : ℕ
  pub temperature : ℕ
  pub percentage_used : ℕ
  pub available_spare : ℕ
  pub critical_warning : ℕ
  pub changed : ℕ

-- an entry of the code
abbrev pub entry_of : ControllerHealthData → Entry
entry_of d = record {
  controller_id = d.controller_id;
  status = d.status.bits;
  temperature = d.temperature;
  percentage_used = d.percentage_used;
  available_spare = d.available_spare;
  critical_warning = d.critical_warning;
  changed = d.changed.bits;
}

-- bytes 1:0 Controller ID, 3:2 status, 5:4 temperature, 6 percentage used, 7 available spare, 8 critical warning, 10:9 changed flags
abbrev pub entry_bytes : Entry → List ℕ
entry_bytes e =
    word_then e.controller_id (word_then e.status (word_then e.temperature
    (e.percentage_used ∷ e.available_spare ∷ e.critical_warning ∷ word_then e.changed (0 ∷ 0 ∷ 0 ∷ 0 ∷ 0 ∷ []))))

-- status bits 15:9 and changed flags 3, 14 and 15 are not named
abbrev pub entry_in : List ℕ → Result Entry Refusal
entry_in bytes =
    refuse_if (nat_lt (length bytes) 16) (cut_short (length bytes))
    (Ok (record {
      controller_id = word_at bytes 0;
      status = word_at bytes 2 % 2 ^ 9;
      temperature = word_at bytes 4;
      percentage_used = slice_index bytes 6;
      available_spare = slice_index bytes 7;
      critical_warning = slice_index bytes 8;
      changed = named_flags (word_at bytes 9);
    }))

-- an answer of the code, over plain numbers
abbrev pub entry_told : Result ControllerHealthData WireFault → Result Entry Refusal
entry_told r = result_map_both entry_of refusal r
