-- Worked examples: each as what is expected and what the definitions give, from a state that fitting out and opening make.
use Rattle.std.specs.Prelude.{◌≡◌, ℕ, true, List, [], ◌∷◌, ◌++◌, map}
use Rattle.health.specs.Rows.{RowValues}
use Rattle.health.specs.Values.{reported_health}
use Rattle.health.specs.declared.report.Report.{Report}
use Rattle.health_rules.specs.FlagRule.{gained}
use Rattle.health_rules.specs.Temperature.{code_of}
use Rattle.wire.specs.Endpoint.{endpoint}
use Rattle.register.specs.Registers.{RegisterValues}
use Rattle.register.specs.declared.port.Port.{Port}
use Rattle.model.specs.State.{State}
use Rattle.model.specs.Fitting.{Fitted, nothing_fitted, after_add_responder, after_enrolment, add_port_answer, ports_after, fitted_after, opened}
use Rattle.model.specs.Calls.{Call, report, set_link, request, Answer, refused, accepted, replied, answers}

-- ---- the subsystem: two endpoint Responders, controller 1 of type 0, port 1

-- a report of the controller with this status
abbrev pub with_status_word : ℕ → Report
with_status_word status = record { status = status; temperature = 298; percentage_used = 3; available_spare = 100; critical_warning = 0 }

-- a new register of capacity 4
abbrev pub empty_register : RegisterValues
empty_register = record { capacity = 4; controllers = [] }

-- controller 1, of type 0, enrolled with status 0
abbrev pub register : RegisterValues
register = after_enrolment 1 0 (with_status_word 0) empty_register

-- two Responders of kind 1
abbrev pub two_responders : Fitted
two_responders = after_add_responder 1 (after_add_responder 1 nothing_fitted)

-- memory as it was found: two rows with all bits set, one port record
abbrev pub foreign_rows : List RowValues
foreign_rows = record { changed = 0x3ff7; events = 0x1c0 } ∷ record { changed = 0x3ff7; events = 0x1c0 } ∷ []

-- one port record that was not added
abbrev pub foreign_ports : List Port
foreign_ports = record { id = 9; link_up = true } ∷ []

-- with port 1
abbrev pub fitted : Fitted
fitted = fitted_after (add_port_answer 1 two_responders foreign_ports) two_responders

-- the port memory then
abbrev pub ports : List Port
ports = ports_after (add_port_answer 1 two_responders foreign_ports) 1 two_responders foreign_ports

-- opened
abbrev pub reference : State
reference = opened fitted register foreign_rows ports

-- ---- calls and their expected answers

-- a request at an endpoint, with all rows and ports lent and just enough reply space
abbrev ask : ℕ → List ℕ → Call
ask r bytes = request r endpoint 2 1 bytes 4088

-- Report All, INCF, Clear Changed Flags, with this SCTLID and MAXRENT
abbrev poll : ℕ → ℕ → List ℕ
poll sctlid maxrent = 0x84 ∷ 0x08 ∷ 0 ∷ 0 ∷ 0x02 ∷ 0 ∷ 0 ∷ 0 ∷ sctlid ∷ 0 ∷ maxrent ∷ 0x81 ∷ 0 ∷ 0 ∷ 0 ∷ 0x80 ∷ []

-- a report, a link, the subsystem poll, the poll, again, at the other Responder, SCTLID 2, MAXRENT 255, 17 bytes, 15 bytes
abbrev pub calls : List Call
calls =
    report 2 1 (with_status_word 0x0001)
    ∷ set_link 1 1 true
    ∷ ask 0 (0x84 ∷ 0x08 ∷ 0 ∷ 0 ∷ 0x01 ∷ 0 ∷ 0 ∷ 0 ∷ 0 ∷ 0 ∷ 0 ∷ 0 ∷ 0 ∷ 0 ∷ 0 ∷ 0 ∷ [])
    ∷ ask 0 (poll 0 0)
    ∷ ask 0 (poll 0 0)
    ∷ ask 1 (poll 0 0)
    ∷ ask 0 (poll 2 0)
    ∷ ask 0 (poll 0 255)
    ∷ ask 0 (poll 0 0 ++ (0 ∷ []))
    ∷ ask 0 (0x84 ∷ 0x08 ∷ 0 ∷ 0 ∷ 0x02 ∷ 0 ∷ 0 ∷ 0 ∷ 0 ∷ 0 ∷ 0 ∷ 0x81 ∷ 0 ∷ 0 ∷ 0 ∷ [])
    ∷ []

-- one entry for controller 1, with these changed flags
abbrev entry_reply : ℕ → ℕ → List ℕ
entry_reply low high =
    0x84 ∷ 0x88 ∷ 0 ∷ 0 ∷ 0 ∷ 0 ∷ 0 ∷ 0x01
    ∷ 0x01 ∷ 0x00 ∷ 0x01 ∷ 0x00 ∷ 0x2A ∷ 0x01 ∷ 0x03 ∷ 0x64 ∷ 0x00 ∷ low ∷ high ∷ 0 ∷ 0 ∷ 0 ∷ 0 ∷ 0 ∷ []

-- a head alone, with this status and this byte at fault
abbrev error_reply : ℕ → ℕ → List ℕ
error_reply status byte = 0x84 ∷ 0x88 ∷ 0 ∷ 0 ∷ status ∷ 0 ∷ byte ∷ 0 ∷ []

-- the expected answers, in order
abbrev pub expected : List Answer
expected =
    accepted
    ∷ accepted
    ∷ replied (0x84 ∷ 0x88 ∷ 0 ∷ 0 ∷ 0 ∷ 0 ∷ 0 ∷ 0 ∷ 0x38 ∷ 0xFF ∷ 0x19 ∷ 0x03 ∷ 0x01 ∷ 0x01 ∷ 0 ∷ 0 ∷ [])
    ∷ replied (entry_reply 0x01 0x01)
    ∷ replied (entry_reply 0x00 0x00)
    ∷ replied (entry_reply 0x01 0x01)
    ∷ replied (error_reply 0x04 0x08)
    ∷ replied (error_reply 0x04 0x0A)
    ∷ replied (error_reply 0x05 0x00)
    ∷ refused (record { number = 3; layer = 3; place = 15 })
    ∷ []

-- all cases in one: temperature codes, flags gained, and the answers
pub record Findings : Type 0 where
  pub codes : List ℕ
  pub gains : List ℕ
  pub told : List Answer

-- what is expected
abbrev pub expected_findings : Findings
expected_findings = record {
  codes = 0x19 ∷ 0x7F ∷ 0x00 ∷ 0xFF ∷ 0xC5 ∷ 0xC4 ∷ 0x80 ∷ [];
  gains = 0x0101 ∷ 0x0140 ∷ [];
  told = expected;
}

-- what the definitions give
abbrev pub findings : Findings
findings = record {
  codes = map code_of (298 ∷ 400 ∷ 273 ∷ 272 ∷ 214 ∷ 213 ∷ 0 ∷ []);
  gains = map (gained (reported_health (with_status_word 0))) (with_status_word 0x0001 ∷ with_status_word 0x0040 ∷ []);
  told = answers reference calls;
}

-- one finding over all cases
abbrev pub ReferenceCasesFound : Type 0
ReferenceCasesFound = findings ≡ expected_findings
