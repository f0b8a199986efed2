-- The Controller Status word.
use Rattle.std.specs.Prelude.{ℕ, ◌*◌, ◌/◌, ◌%◌, ◌^◌}
use Rattle.health.specs.declared.status_bit.StatusBit.{StatusBit}
use Rattle.health.specs.declared.status_bit.StatusBit.TheVariants.{Rdy, Cfs, Nssro, Ceco, Nac, Fa, Tcida}

-- the number of a bit; bits 3:2 are the Shutdown Status
abbrev pub status_bit_number : StatusBit → ℕ
status_bit_number Rdy = 0
status_bit_number Cfs = 1
status_bit_number Nssro = 4
status_bit_number Ceco = 5
status_bit_number Nac = 6
status_bit_number Fa = 7
status_bit_number Tcida = 8

-- the level bits of a status word, 5:0
abbrev pub levels_in : ℕ → ℕ
levels_in status = status % 2 ^ 6

-- the status events of a status word, bits 8:6, at their places
abbrev pub events_in : ℕ → ℕ
events_in status = status / 2 ^ 6 % 2 ^ 3 * 2 ^ 6
