-- Requests.
use Rattle.std.specs.Prelude.{ℕ, zero, suc, ◌+◌, ◌*◌, ◌^◌, max, Bool, true, false, cond, not, ◌&&◌, ◌||◌, List, [], ◌∷◌, ◌++◌, length, Ok, Err, Result, ◌==◌, bit_or, nat_le, nat_lt}
use Rattle.health.specs.Words.{bit, without}
use Rattle.health.specs.Values.{HealthValues}
use Rattle.health.specs.Rows.{RowValues, clear_row}
use Rattle.health_rules.specs.Temperature.{code_of}
use Rattle.wire.specs.Refusals.{Refusal}
use Rattle.wire.specs.Meaning.{CarrierMeaning}
use Rattle.wire.specs.declared.message.Head.{Head}
use Rattle.wire.specs.declared.message.Request.{Request}
use Rattle.commands.specs.Commands.{Asked, subsystem_poll, controller_poll, configuration_set, configuration_get, asked_in}
use Rattle.commands.specs.ControllerData.{Entry, entry_bytes}
use Rattle.commands.specs.SubsystemData.{SubsystemHealth, subsystem_bytes}
use Rattle.commands.specs.Status.{head_of, invalid_parameter, invalid_command_size}
use Rattle.commands.specs.declared.controller_poll.ControllerHealthPoll.{ControllerHealthPoll}
use Rattle.register.specs.Controllers.{ControllerValues}
use Rattle.register.specs.Registers.{RegisterValues}
use Rattle.register.specs.declared.port.Port.{Port}
use Rattle.model.specs.State.{Responder, SubsystemStatus, Drive}
use Rattle.model.specs.Drives.{ports_in_use, lowest_link, second_lowest_link}

-- what a request gives: the head of its reply, the data behind it, and the Responder afterwards
pub record Served : Type 0 where
  pub head : Head
  pub payload : List ℕ
  pub responder : Responder

-- an error reply has no data and clears nothing
abbrev pub error : Head → Responder → Served
error head x = record { head = head; payload = []; responder = x }

-- the same Responder with other rows
abbrev pub with_rows : Responder → List RowValues → Responder
with_rows x ws = record { kind = x.kind; composite = x.composite; rows = ws }

-- the same Responder with other composite flags
abbrev pub with_composite : Responder → ℕ → Responder
with_composite x c = record { kind = x.kind; composite = c; rows = x.rows }

-- ---- Controller Health Status Poll

-- the bit for a controller's type
abbrev pub includes : ControllerHealthPoll → ℕ → Bool
includes p function = cond (function == 0) p.incf (cond (function == 1) p.incpf p.incvf)

-- a selected flag is set
abbrev pub selects : ControllerHealthPoll → ℕ → Bool
selects p changed =
    (p.selection.cwarn && bit changed 12) || ((p.selection.spare && bit changed 11) || ((p.selection.pdlu && bit changed 10)
    || ((p.selection.ctemp && bit changed 9) || (p.selection.csts && bit changed 8))))

-- ID, type, and Report All or a selected flag
abbrev pub qualifies : ControllerHealthPoll → ControllerValues → RowValues → Bool
qualifies p c w = nat_le p.sctlid c.id && (includes p c.function && (p.report_all || selects p w.changed))

-- the first n that pass, each with its row
abbrev pub chosen : (ControllerValues → RowValues → Bool) → ℕ → List ControllerValues → List RowValues → List (ControllerValues × RowValues)
chosen t zero cs ws = []
chosen t (suc n) [] ws = []
chosen t (suc n) (c ∷ cs) [] = []
chosen t (suc n) (c ∷ cs) (w ∷ ws) = cond (t c w) ((c, w) ∷ chosen t n cs ws) (chosen t (suc n) cs ws)

-- the rows with those of the first n that pass cleared
abbrev pub cleared : (ControllerValues → RowValues → Bool) → ℕ → List ControllerValues → List RowValues → List RowValues
cleared t zero cs ws = ws
cleared t (suc n) [] ws = ws
cleared t (suc n) (c ∷ cs) [] = []
cleared t (suc n) (c ∷ cs) (w ∷ ws) = cond (t c w) (clear_row ∷ cleared t n cs ws) (w ∷ cleared t (suc n) cs ws)

-- the status has this Responder's copies of the status events
abbrev pub entry_for : ControllerValues → RowValues → Entry
entry_for c w = record {
  controller_id = c.id;
  status = c.health.levels + w.events;
  temperature = c.health.temperature;
  percentage_used = c.health.percentage_used;
  available_spare = c.health.available_spare;
  critical_warning = c.health.critical_warning;
  changed = w.changed;
}

-- the entries of a reply, one behind another
abbrev pub entries : List (ControllerValues × RowValues) → List ℕ
entries [] = []
entries (e ∷ es) = entry_bytes (entry_for e.0 e.1) ++ entries es

-- the largest enrolled ID
abbrev pub largest_id : List ControllerValues → ℕ
largest_id [] = 0
largest_id (c ∷ cs) = max c.id (largest_id cs)

-- the controllers that a poll returns, at most MAXRENT + 1, each with its row
abbrev pub returned : ControllerHealthPoll → List ControllerValues → List RowValues → List (ControllerValues × RowValues)
returned p cs ws = chosen (qualifies p) (p.maxrent + 1) cs ws

-- at most MAXRENT + 1 entries; NMRESP bits 23:16 are their number
abbrev pub polled : Drive → Responder → ControllerHealthPoll → Served
polled d x p =
    let cs = d.register.controllers in
    let found = chosen (qualifies p) (p.maxrent + 1) cs x.rows in
    record {
      head = head_of 0x00 (length found * 2 ^ 16);
      payload = entries found;
      responder = cond p.clear_changed_flags (with_rows x (cleared (qualifies p) (p.maxrent + 1) cs x.rows)) x;
    }

-- SCTLID above the largest ID, then MAXRENT 255, are errors
abbrev pub health_poll : Drive → Responder → ControllerHealthPoll → Served
health_poll d x p =
    cond (nat_lt (largest_id d.register.controllers) p.sctlid) (error (invalid_parameter 8) x)
    (cond (p.maxrent == 255) (error (invalid_parameter 10) x) (polled d x p))

-- ---- NVM Subsystem Health Status Poll

-- over all controllers
abbrev pub over : (ℕ → ℕ → ℕ) → (HealthValues → ℕ) → List ControllerValues → ℕ
over f field [] = 0
over f field (c ∷ cs) = f (field c.health) (over f field cs)

-- what a subsystem poll shows
abbrev pub subsystem_health : Drive → ℕ → SubsystemHealth
subsystem_health d composite =
    let cs = d.register.controllers in
    record {
      sanitize_failed = d.status.sanitize_failed;
      functional = d.status.functional;
      reset_not_required = d.status.reset_not_required;
      port0_link_up = lowest_link (ports_in_use d);
      port1_link_up = second_lowest_link (ports_in_use d);
      critical_warning = over bit_or (λ h. h.critical_warning) cs;
      temperature_code = code_of (over max (λ h. h.temperature) cs);
      percentage_used = over max (λ h. h.percentage_used) cs;
      composite = composite;
    }

-- the same, by the register, the drive's status, the ports in use and the composite flags
abbrev pub health_shown : RegisterValues → SubsystemStatus → List Port → ℕ → SubsystemHealth
health_shown m status ports composite =
    let cs = m.controllers in
    record {
      sanitize_failed = status.sanitize_failed;
      functional = status.functional;
      reset_not_required = status.reset_not_required;
      port0_link_up = lowest_link ports;
      port1_link_up = second_lowest_link ports;
      critical_warning = over bit_or (λ h. h.critical_warning) cs;
      temperature_code = code_of (over max (λ h. h.temperature) cs);
      percentage_used = over max (λ h. h.percentage_used) cs;
      composite = composite;
    }

-- ---- any request

-- each of the four commands, or the error reply for none of them
abbrev pub by_command : Drive → Responder → Result Asked Head → Served
by_command d x (Err head) = error head x
by_command d x (Ok (subsystem_poll clear)) = record {
  head = head_of 0x00 0;
  payload = subsystem_bytes (subsystem_health d x.composite);
  responder = cond clear (with_composite x 0) x;
}
by_command d x (Ok (controller_poll p)) = health_poll d x p
by_command d x (Ok (configuration_set flags)) = record { head = head_of 0x00 0; payload = []; responder = with_composite x (without x.composite flags) }
by_command d x (Ok configuration_get) = record { head = head_of 0x00 0; payload = []; responder = x }

-- error replies in their order: surplus, MEB, opcode, Configuration Identifier, SCTLID, MAXRENT
abbrev pub served : Drive → Responder → Request → Served
served d x q =
    cond (not (q.surplus == 0)) (error invalid_command_size x)
    (cond q.meb (error (invalid_parameter 2) x) (by_command d x (asked_in q.command)))

-- refused, or the bytes of the reply and the Responder afterwards
pub data Outcome : Type 0 where
  refuse : Refusal → Outcome
  grant : List ℕ → Responder → Outcome

-- refused where the test holds, else what follows
abbrev pub refused_if : Bool → Refusal → Outcome → Outcome
refused_if true f o = refuse f
refused_if false f o = o

-- the head, with the tag of the request, and the data behind it
abbrev pub replied_with : CarrierMeaning → Request → Served → Outcome
replied_with k q v = grant (k.write_head q.tag v.head ++ v.payload) v.responder

-- a request that the carrier reads is granted; what it refuses is refused
abbrev pub reply_to : Drive → Responder → CarrierMeaning → Result Request Refusal → Outcome
reply_to d x k (Ok q) = replied_with k q (served d x q)
reply_to d x k (Err f) = refuse f
