-- What a subsystem in service stands for, with the register and all memory that is lent to it.
use Rattle.std.specs.Prelude.{ℕ, List, [], ◌∷◌, map, length, take, drop}
use Rattle.health.specs.Rows.{RowValues, row_of}
use Rattle.health.specs.declared.row.Row.{Row}
use Rattle.polls.specs.Shown.{status_of}
use Rattle.register.specs.Registers.{RegisterValues}
use Rattle.register.specs.declared.port.Port.{Port}
use Rattle.model.specs.State.{Drive, State, needed_rows}
use Rattle.model.specs.State as model
use Rattle.subsystem.specs.Responders.{ResponderValues, responder_of}
use Rattle.subsystem.specs.declared.service.Subsystem.{Subsystem}

-- a Responder with its rows
abbrev pub with_its_rows : ResponderValues → List RowValues → model.Responder
with_its_rows h ws = record { kind = h.kind; composite = h.composite; rows = ws }

-- each Responder with its rows, of which there are c: those of the first Responder stand first in the memory, and so on
abbrev pub responders_with_rows : ℕ → List ResponderValues → List RowValues → List model.Responder
responders_with_rows c [] ws = []
responders_with_rows c (h ∷ hs) ws = with_its_rows h (take c ws) ∷ responders_with_rows c hs (drop c ws)

-- the rows behind those in use are spare
abbrev pub state_from : Drive → List ResponderValues → List RowValues → State
state_from d hs ws = record {
  drive = d;
  responders = responders_with_rows (length d.register.controllers) hs ws;
  spare_rows = drop (needed_rows d (length hs)) ws;
}

-- what belongs to no Responder
abbrev pub drive_of : Subsystem → RegisterValues → List Port → Drive
drive_of x m ports = record { register = m; status = status_of x.status; port_count = x.port_count; ports = ports }

-- the Responders of the code
abbrev pub responders_of : Subsystem → List ResponderValues
responders_of x = map responder_of x.responders.items

-- a subsystem of the code, with the register, the rows memory and the port memory
abbrev pub state_of : Subsystem → RegisterValues → List Row → List Port → State
state_of x m rows ports = state_from (drive_of x m ports) (responders_of x) (map row_of rows)
