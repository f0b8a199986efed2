-- Opening: what it answers, what it leaves, and the law that then holds.
use Rattle.std.specs.Prelude.{◌≡◌, List, ◌++◌, map, drop, replicate, Ok, Err, Result}
use Rattle.health.specs.Rows.{RowValues, row_of, clear_row}
use Rattle.health.specs.declared.row.Row.{Row}
use Rattle.wire.specs.Refusals.{Refusal}
use Rattle.register.specs.Registers.{RegisterValues}
use Rattle.register.specs.declared.port.Port.{Port}
use Rattle.model.specs.Fitting.{Fitted, rows_to_open, opened}
use Rattle.model.specs.Law.{Law}
use Rattle.subsystem.specs.Faults.{fault_refusal}
use Rattle.subsystem.specs.States.{state_of}
use Rattle.subsystem.specs.declared.builder.SubsystemBuilder.{SubsystemBuilder}
use Rattle.subsystem.specs.declared.not_opened.NotOpened.{NotOpened}
use Rattle.subsystem.specs.declared.service.Subsystem.{Subsystem}

-- the rows memory after this answer: the rows in use are cleared, and no other
abbrev pub rows_after_opening : Result (Unit {0}) Refusal → Fitted → RegisterValues → List RowValues → List RowValues
rows_after_opening (Ok granted) b m ws = replicate (rows_to_open b m) clear_row ++ drop (rows_to_open b m) ws
rows_after_opening (Err refused) b m ws = ws

-- an answer of the code, its fault in numbers
abbrev pub opening_answer : Result Subsystem NotOpened → Result (Unit {0}) Refusal
opening_answer (Ok subsystem) = Ok tt
opening_answer (Err refused) = Err (fault_refusal refused.fault)

-- what a granted opening gives is the opened state, with any rest of the rows memory and any port memory
abbrev pub GivesTheOpenedState : Result Subsystem NotOpened → Fitted → RegisterValues → List Row → List Row → Type 0
GivesTheOpenedState (Ok x) b m before after =
    (rest : List Row) (ports : List Port) → state_of x m (after ++ rest) ports ≡ opened b m (map row_of (before ++ rest)) ports
GivesTheOpenedState (Err refused) b m before after = Unit {0}

-- a refused opening gives the builder back
abbrev pub GivesTheBuilderBack : Result Subsystem NotOpened → SubsystemBuilder → Type 0
GivesTheBuilderBack (Ok x) b = Unit {0}
GivesTheBuilderBack (Err refused) b = refused.builder ≡ b

-- the law of independent polling holds of the subsystem that a granted opening gives, with any rest of the rows memory and any port memory
abbrev pub PollingIsIndependent : Result Subsystem NotOpened → RegisterValues → List Row → Type 0
PollingIsIndependent (Ok x) m after = (rest : List Row) (ports : List Port) → Law (state_of x m (after ++ rest) ports)
PollingIsIndependent (Err refused) m after = Unit {0}
