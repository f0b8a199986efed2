-- A subsystem in service, over plain numbers, with all memory that is lent to it.
use Rattle.std.specs.Prelude.{ℕ, ◌*◌, Bool, List, length}
use Rattle.health.specs.Rows.{RowValues}
use Rattle.register.specs.Registers.{RegisterValues}
use Rattle.register.specs.declared.port.Port.{Port}

-- a Responder: the kind of its carrier, its Composite Controller Status Flags, and one row for each controller, in their order
pub record Responder : Type 0 where
  pub kind : ℕ
  pub composite : ℕ
  pub rows : List RowValues

-- what the drive says of itself
pub record SubsystemStatus : Type 0 where
  pub functional : Bool
  pub reset_not_required : Bool
  pub sanitize_failed : Bool

-- what belongs to no Responder: the first `port_count` of the port records are in use
pub record Drive : Type 0 where
  pub register : RegisterValues
  pub status : SubsystemStatus
  pub port_count : ℕ
  pub ports : List Port

-- the rows memory is the rows of the Responders, one behind another, and then the spare rows, which nothing touches
pub record State : Type 0 where
  pub drive : Drive
  pub responders : List Responder
  pub spare_rows : List RowValues

-- how many rows are in use: row r × C + p is that of Responder r and the controller at place p, with C controllers
abbrev pub needed_rows : Drive → ℕ → ℕ
needed_rows d responders = responders * length d.register.controllers

-- the same state with other Responders
abbrev pub with_responders : State → List Responder → State
with_responders s xs = record { drive = s.drive; responders = xs; spare_rows = s.spare_rows }

-- the same state with another drive
abbrev pub with_drive : State → Drive → State
with_drive s d = record { drive = d; responders = s.responders; spare_rows = s.spare_rows }
