-- The refusals of the subsystem, in numbers.
use Rattle.std.specs.Prelude.{ℕ, ◌+◌, ◌-◌, ◌^◌, min, Result}
use Rattle.wire.specs.Refusals.{Refusal, refusal, with_refusals}
use Rattle.table.specs.declared.fault.TableFault.{TableFault}
use Rattle.table.specs.declared.fault.TableFault.TheVariants as table
use Rattle.register.specs.RegisterRefusals.{register_refusal}
use Rattle.model.specs.ServiceRefusals.{memory_too_short, malformed, no_kind, no_such_responder, responder_of_another_kind, port_present, unknown_identifier, ninth_responder, nothing_to_open, ninth_port}
use Rattle.subsystem.specs.declared.fault.Fault.{Fault}
use Rattle.subsystem.specs.declared.fault.Fault.TheVariants.{MemoryTooShort, Malformed, NoKind, NoSuchResponder, ResponderOfAnotherKind, PortPresent, UnknownIdentifier, NinthResponder, NothingToOpen, NinthPort, Register, Carrier}

-- what each fault of the code is
abbrev pub fault_refusal : Fault → Refusal
fault_refusal (MemoryTooShort needed) = memory_too_short needed
fault_refusal (Malformed id) = malformed id
fault_refusal NoKind = no_kind
fault_refusal (NoSuchResponder r) = no_such_responder r
fault_refusal (ResponderOfAnotherKind r) = responder_of_another_kind r
fault_refusal (PortPresent id) = port_present id
fault_refusal (UnknownIdentifier id) = unknown_identifier id
fault_refusal NinthResponder = ninth_responder
fault_refusal NothingToOpen = nothing_to_open
fault_refusal NinthPort = ninth_port
fault_refusal (Register fault) = register_refusal fault
fault_refusal (Carrier fault) = refusal fault

-- a fault of the port table, as it climbs into the subsystem's; a capacity has 64 bits
abbrev pub port_climbed : TableFault ℕ → Fault
port_climbed (table.Present number) = PortPresent number
port_climbed (table.Full capacity) = MemoryTooShort (min (capacity + 1) (2 ^ 64 - 1))

-- an answer of the code, its fault in numbers
abbrev pub in_numbers : {A : Type 0} → Result A Fault → Result A Refusal
in_numbers r = with_refusals fault_refusal r
