-- The refusals of a register, in numbers.
use Rattle.std.specs.Prelude.{ℕ, Result}
use Rattle.wire.specs.Refusals.{Refusal, with_refusals}
use Rattle.table.specs.declared.fault.TableFault.{TableFault}
use Rattle.table.specs.declared.fault.TableFault.TheVariants as table
use Rattle.register.specs.declared.register_fault.RegisterFault.{RegisterFault}
use Rattle.register.specs.declared.register_fault.RegisterFault.TheVariants as register

-- a controller has the Controller ID
abbrev pub id_present : ℕ → Refusal
id_present id = record { number = 22; layer = 2; place = id }

-- the list is at the capacity
abbrev pub register_full : ℕ → Refusal
register_full capacity = record { number = 23; layer = 2; place = capacity }

-- what each fault of the code is
abbrev pub register_refusal : RegisterFault → Refusal
register_refusal (register.Present id) = id_present id
register_refusal (register.Full capacity) = register_full capacity

-- a fault of the table, as it climbs into the register's
abbrev pub climbed : TableFault ℕ → RegisterFault
climbed (table.Present number) = register.Present number
climbed (table.Full capacity) = register.Full capacity

-- an answer of the code, its fault in numbers
abbrev pub in_numbers : {A : Type 0} → Result A RegisterFault → Result A Refusal
in_numbers r = with_refusals register_refusal r
