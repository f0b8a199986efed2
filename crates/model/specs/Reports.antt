-- Reports.
use Rattle.std.specs.Prelude.{ℕ, cond, not, List, [], ◌∷◌, map, Ok, Result, ◌==◌, bit_or, nat_lt}
use Rattle.health.specs.Words.{without}
use Rattle.health.specs.Status.{events_in}
use Rattle.health.specs.Values.{reported_health, well_formed}
use Rattle.health.specs.Rows.{RowValues, gaining}
use Rattle.health.specs.declared.report.Report.{Report}
use Rattle.health_rules.specs.FlagRule.{gained}
use Rattle.wire.specs.Refusals.{Refusal, refuse_if}
use Rattle.register.specs.Controllers.{ControllerValues, present, with_health}
use Rattle.register.specs.Registers.{with_controllers}
use Rattle.model.specs.State.{Responder, Drive, State, needed_rows}
use Rattle.model.specs.ServiceRefusals.{malformed, memory_too_short, unknown_identifier}

-- refused if malformed, if too few rows are lent, or if no controller has the ID
abbrev pub report_answer : Drive → ℕ → ℕ → ℕ → Report → Result (Unit {0}) Refusal
report_answer d responders rows id p =
    refuse_if (not (well_formed p)) (malformed id)
    (refuse_if (nat_lt rows (needed_rows d responders)) (memory_too_short (needed_rows d responders))
    (refuse_if (not (present id d.register.controllers)) (unknown_identifier id) (Ok tt)))

-- the controller with this ID gets the health of the report
abbrev pub renewed : ℕ → Report → ControllerValues → ControllerValues
renewed id p c = cond (c.id == id) (with_health (reported_health p) c) c

-- its row gains the flags and the status events
abbrev pub marked_row : ℕ → Report → ControllerValues → RowValues → RowValues
marked_row id p c w = cond (c.id == id) (gaining (gained c.health p) (events_in p.status) w) w

-- the flags of its row that go from 0 to 1
abbrev pub risen : ℕ → Report → ControllerValues → RowValues → ℕ
risen id p c w = cond (c.id == id) (without (gained c.health p) w.changed) 0

-- each row by its controller
abbrev pub each_row : (ControllerValues → RowValues → RowValues) → List ControllerValues → List RowValues → List RowValues
each_row f [] ws = ws
each_row f (c ∷ cs) [] = []
each_row f (c ∷ cs) (w ∷ ws) = f c w ∷ each_row f cs ws

-- the union of a word for each row, by its controller
abbrev pub union : (ControllerValues → RowValues → ℕ) → List ControllerValues → List RowValues → ℕ
union f [] ws = 0
union f (c ∷ cs) [] = 0
union f (c ∷ cs) (w ∷ ws) = bit_or (f c w) (union f cs ws)

-- a composite flag rises where a row's flag does
abbrev pub marked : ℕ → Report → List ControllerValues → Responder → Responder
marked id p cs x = record {
  kind = x.kind;
  composite = bit_or x.composite (union (risen id p) cs x.rows);
  rows = each_row (marked_row id p) cs x.rows;
}

-- the same drive with another list of controllers
abbrev pub with_register_of : Drive → List ControllerValues → Drive
with_register_of d cs = record { register = with_controllers d.register cs; status = d.status; port_count = d.port_count; ports = d.ports }

-- an accepted report
abbrev pub reported : ℕ → Report → State → State
reported id p s = record {
  drive = with_register_of s.drive (map (renewed id p) s.drive.register.controllers);
  responders = map (marked id p s.drive.register.controllers) s.responders;
  spare_rows = s.spare_rows;
}
