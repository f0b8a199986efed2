-- The changed flags of a controller, and the composite flags of a Responder.
use Rattle.std.specs.Prelude.{ℕ, ◌+◌, ◌*◌, ◌/◌, ◌%◌, ◌^◌}
use Rattle.health.specs.declared.flag.ChangedFlag.{ChangedFlag}
use Rattle.health.specs.declared.flag.ChangedFlag.TheVariants.{Rdy, Cfs, Shst, Nssro, Ceco, Nac, Fa, Csts, Ctemp, Pdlu, Spare, Cwarn, Tcida}

-- the bit that holds a flag
abbrev pub flag_number : ChangedFlag → ℕ
flag_number Rdy = 0
flag_number Cfs = 1
flag_number Shst = 2
flag_number Nssro = 4
flag_number Ceco = 5
flag_number Nac = 6
flag_number Fa = 7
flag_number Csts = 8
flag_number Ctemp = 9
flag_number Pdlu = 10
flag_number Spare = 11
flag_number Cwarn = 12
flag_number Tcida = 13

-- the bits of a word that name a flag: 13:4 and 2:0
abbrev pub named_flags : ℕ → ℕ
named_flags word = word / 2 ^ 4 % 2 ^ 10 * 2 ^ 4 + word % 2 ^ 3
