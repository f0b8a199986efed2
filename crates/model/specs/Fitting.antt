-- Fitting out a subsystem, and opening it.
use Rattle.std.specs.Prelude.{ℕ, ◌+◌, ◌*◌, ◌^◌, Bool, true, false, cond, not, ◌&&◌, ◌||◌, List, [], ◌∷◌, ◌++◌, map, length, drop, replicate, Some, None, Ok, Err, Option, Result, ◌==◌, nat_le, nat_lt}
use Rattle.std.specs.Ordering.{nat_cmp}
use Rattle.health.specs.Rows.{RowValues, clear_row}
use Rattle.health.specs.Values.{reported_health}
use Rattle.health.specs.declared.report.Report.{Report}
use Rattle.wire.specs.Refusals.{Refusal, refuse_if}
use Rattle.table.specs.Orders.{is_there}
use Rattle.table.specs.Tables.{table_over, in_use, table_after_insert}
use Rattle.register.specs.Controllers.{ControllerValues}
use Rattle.register.specs.Registers.{RegisterValues, enroll_answer, after_enroll}
use Rattle.register.specs.declared.port.Port.{Port}
use Rattle.model.specs.State.{Responder, SubsystemStatus, State}
use Rattle.model.specs.ServiceRefusals.{memory_too_short, malformed, no_kind, port_present, ninth_responder, nothing_to_open, ninth_port}

-- a subsystem that is fitted out: the kinds of its Responders, in order of adding, and how many ports were added
pub record Fitted : Type 0 where
  pub kinds : List ℕ
  pub port_count : ℕ

-- no Responder and no port
abbrev pub nothing_fitted : Fitted
nothing_fitted = record { kinds = []; port_count = 0 }

-- ---- Responders: kind 1 to 255, at most 8, numbered from 0

-- refused at kind 0, and at the ninth; else the number of the Responder
abbrev pub add_responder_answer : ℕ → Fitted → Result ℕ Refusal
add_responder_answer kind b = refuse_if (kind == 0) no_kind (refuse_if (nat_le 8 (length b.kinds)) ninth_responder (Ok (length b.kinds)))

-- it stands behind the others
abbrev pub after_add_responder : ℕ → Fitted → Fitted
after_add_responder kind b =
    cond (kind == 0 || nat_le 8 (length b.kinds)) b (record { kinds = b.kinds ++ (kind ∷ []); port_count = b.port_count })

-- ---- controllers: type at most 2, no status bit but 5:0, no critical warning bit of 7:6

-- type, status and critical warning are well formed
abbrev pub may_enroll : ℕ → Report → Bool
may_enroll function p = nat_le function 2 && (nat_lt p.status (2 ^ 6) && nat_lt p.critical_warning (2 ^ 6))

-- the controller that an enrolment names
abbrev pub controller_reported : ℕ → ℕ → Report → ControllerValues
controller_reported id function p = record { id = id; function = function; health = reported_health p }

-- that controller, unless the enrolment is malformed
abbrev pub controller_enrolled : ℕ → ℕ → Report → Option ControllerValues
controller_enrolled id function p = cond (may_enroll function p) (Some (controller_reported id function p)) None

-- refused if malformed, then as the register refuses
abbrev pub enrolment_answer : ℕ → ℕ → Report → RegisterValues → Result (Unit {0}) Refusal
enrolment_answer id function p m =
    refuse_if (not (may_enroll function p)) (malformed id) (enroll_answer (controller_reported id function p) m)

-- the register after it
abbrev pub after_enrolment : ℕ → ℕ → Report → RegisterValues → RegisterValues
after_enrolment id function p m = cond (may_enroll function p) (after_enroll (controller_reported id function p) m) m

-- ---- ports: at most 8, in lent memory, links down

-- a port whose link is down
abbrev pub new_port : ℕ → Port
new_port id = record { id = id; link_up = false }

-- a port in use has the identifier
abbrev pub port_there : ℕ → Fitted → List Port → Bool
port_there id b ports = is_there nat_cmp (λ p. p.id) id (in_use (table_over b.port_count ports))

-- refused at the ninth, for want of memory, and if the identifier is present
abbrev pub add_port_answer : ℕ → Fitted → List Port → Result (Unit {0}) Refusal
add_port_answer id b ports =
    refuse_if (nat_le 8 b.port_count) ninth_port
    (refuse_if (nat_lt (length ports) (b.port_count + 1)) (memory_too_short (b.port_count + 1))
    (refuse_if (port_there id b ports) (port_present id) (Ok tt)))

-- the port memory after this answer
abbrev pub ports_after : Result (Unit {0}) Refusal → ℕ → Fitted → List Port → List Port
ports_after (Ok granted) id b ports = (table_after_insert nat_cmp (λ p. p.id) (new_port id) (table_over b.port_count ports)).slots
ports_after (Err refused) id b ports = ports

-- it is counted
abbrev pub fitted_after : Result (Unit {0}) Refusal → Fitted → Fitted
fitted_after (Ok granted) b = record { kinds = b.kinds; port_count = b.port_count + 1 }
fitted_after (Err refused) b = b

-- ---- opening

-- until the drive says otherwise
abbrev pub initial_status : SubsystemStatus
initial_status = record { functional = true; reset_not_required = true; sanitize_failed = false }

-- one row for each Responder and controller
abbrev pub rows_to_open : Fitted → RegisterValues → ℕ
rows_to_open b m = length b.kinds * length m.controllers

-- refused without a Responder or a controller, then for want of rows
abbrev pub open_answer : Fitted → RegisterValues → List RowValues → Result (Unit {0}) Refusal
open_answer b m rows =
    refuse_if (length b.kinds == 0 || length m.controllers == 0) nothing_to_open
    (refuse_if (nat_lt (length rows) (rows_to_open b m)) (memory_too_short (rows_to_open b m)) (Ok tt))

-- no composite flag is set, and its rows are clear
abbrev pub new_responder : ℕ → ℕ → Responder
new_responder controllers kind = record { kind = kind; composite = 0; rows = replicate controllers clear_row }

-- every row in use is cleared, and no other is touched
abbrev pub opened : Fitted → RegisterValues → List RowValues → List Port → State
opened b m rows ports = record {
  drive = record { register = m; status = initial_status; port_count = b.port_count; ports = ports };
  responders = map (new_responder (length m.controllers)) b.kinds;
  spare_rows = drop (rows_to_open b m) rows;
}
