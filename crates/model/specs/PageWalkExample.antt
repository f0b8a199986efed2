-- A history that meets every premise of composite_complete: Responder 0 clears composite flag CSTS, pages to the end, and then a report
-- changes a status.
use Rattle.std.specs.Prelude.{◌≡◌, ℕ, ◌+◌, true, false, List, [], ◌∷◌, ◌++◌, replicate}
use Rattle.health.specs.Words.{bit}
use Rattle.health.specs.Rows.{RowValues}
use Rattle.health.specs.declared.report.Report.{Report}
use Rattle.wire.specs.Bytes.{word_at}
use Rattle.wire.specs.Endpoint.{endpoint}
use Rattle.commands.specs.Commands.{subsystem_poll}
use Rattle.register.specs.Registers.{RegisterValues}
use Rattle.model.specs.State.{State}
use Rattle.model.specs.Fitting.{after_enrolment, opened}
use Rattle.model.specs.Calls.{Call, report, request, after}
use Rattle.model.specs.Histories.{Event, event, events, NoneOf, Succeeds, StandsChanged, ClearsComposite, Walks, last_page, next_page, other_event, CompositeSet}
use Rattle.model.specs.ReferenceCases.{with_status_word, empty_register, fitted, ports}

-- ---- the subsystem: two endpoint Responders, controllers 1, 2 and 3, one of each type, port 1

-- all three with status 0
abbrev pub three_controllers : RegisterValues
three_controllers =
    after_enrolment 3 2 (with_status_word 0) (after_enrolment 2 1 (with_status_word 0) (after_enrolment 1 0 (with_status_word 0) empty_register))

-- memory as it was found
abbrev pub six_rows : List RowValues
six_rows = replicate 6 (record { changed = 0x3ff7; events = 0x1c0 })

-- opened
abbrev pub start : State
start = opened fitted three_controllers six_rows ports

-- ---- the calls

-- a request at an endpoint, with all rows and ports lent and just enough reply space
abbrev ask : ℕ → List ℕ → Call
ask r bytes = request r endpoint 6 1 bytes 4088

-- Configuration Set of all composite flags
abbrev clear_all : List ℕ
clear_all = 0x84 ∷ 0x08 ∷ 0 ∷ 0 ∷ 0x03 ∷ 0 ∷ 0 ∷ 0 ∷ 0x02 ∷ 0 ∷ 0 ∷ 0 ∷ 0xF7 ∷ 0x3F ∷ 0 ∷ 0 ∷ []

-- Report All, all three types, all five selection bits, Clear Changed Flags, MAXRENT 0, with this SCTLID
abbrev page_from : ℕ → List ℕ
page_from sctlid = 0x84 ∷ 0x08 ∷ 0 ∷ 0 ∷ 0x02 ∷ 0 ∷ 0 ∷ 0 ∷ sctlid ∷ 0 ∷ 0 ∷ 0x87 ∷ 0x1F ∷ 0 ∷ 0 ∷ 0x80 ∷ []

-- a subsystem poll without Clear Status
abbrev ask_subsystem : List ℕ
ask_subsystem = 0x84 ∷ 0x08 ∷ 0 ∷ 0 ∷ 0x01 ∷ 0 ∷ 0 ∷ 0 ∷ 0 ∷ 0 ∷ 0 ∷ 0 ∷ 0 ∷ 0 ∷ 0 ∷ 0 ∷ []

-- warmer by two kelvins, with status 0
abbrev warmer : Report
warmer = record { status = 0; temperature = 300; percentage_used = 3; available_spare = 100; critical_warning = 0 }

-- the status of controller 3 changes
abbrev pub earlier : List Call
earlier = report 6 3 (with_status_word 0x0001) ∷ []

-- Responder 0 clears its composite flags
abbrev pub clearing : Call
clearing = ask 0 clear_all

-- up to the clearing
abbrev pub before_the_walk : List Call
before_the_walk = earlier ++ (clearing ∷ [])

-- three pages at Responder 0, between them a report of controller 2 and a poll at Responder 1
abbrev pub walk_calls : List Call
walk_calls = ask 0 (page_from 0) ∷ report 6 2 warmer ∷ ask 0 (page_from 2) ∷ ask 1 (page_from 0) ∷ ask 0 (page_from 3) ∷ []

-- then the status of controller 1 changes
abbrev pub since_the_clearing : List Call
since_the_clearing = walk_calls ++ (report 6 1 (with_status_word 0x0001) ∷ [])

-- all calls
abbrev pub all_calls : List Call
all_calls = before_the_walk ++ since_the_clearing

-- Responder 0 asks for the subsystem's health
abbrev pub asking_at_the_end : Event
asking_at_the_end = event (after start all_calls) (ask 0 ask_subsystem)

-- ---- what is found of them; flag 8 is CSTS

-- how many pages a walk has
abbrev pub pages_in : {s : State} {r id : ℕ} {t : List Event} → Walks s r id t → ℕ
pages_in (last_page p e) = 1
pages_in (next_page p l w) = 1 + pages_in w
pages_in (other_event w) = pages_in w

-- the pages of the walk below
abbrev pub page_count : ℕ
page_count = 3

-- the premises of composite_complete, and what it concludes
pub record PageWalkIsMet : Type 0 where
  -- the clearing succeeds
  pub cleared : ClearsComposite 0 8 (event (after start earlier) clearing)
  -- right after it controller 3 stands changed and the flag is not set: without pages the conclusion is false
  pub stands_at_the_clearing : StandsChanged start (events start before_the_walk) 0 3 8
  pub not_set_at_the_clearing : CompositeSet (after start before_the_walk) 0 8 → ⊥
  -- the premises
  pub not_cleared_since : NoneOf (ClearsComposite 0 8) (events (after start before_the_walk) since_the_clearing)
  pub walk : Walks start 0 0 (events (after start before_the_walk) since_the_clearing)
  pub stands_changed : StandsChanged start (events start all_calls) 0 1 8
  -- the walk has all pages, and at its end the flag is not set yet
  pub all_pages : pages_in walk ≡ page_count
  pub not_set_before_the_change : CompositeSet (after start (before_the_walk ++ walk_calls)) 0 8 → ⊥
  -- the conclusion, and a subsystem poll that shows it
  pub set : CompositeSet (after start all_calls) 0 8
  pub shown : (nmresp : ℕ) × (payload : List ℕ) × Succeeds 0 (subsystem_poll false) nmresp payload asking_at_the_end × (bit (word_at payload 4) 8 ≡ true)
