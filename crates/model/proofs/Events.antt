-- Events that are no success of a request and no granted reset end nothing and clear nothing.
use Rattle.std.proofs.Common.{◌≡◌, ℕ, Bool, true, List, None, refl, inl, inr}
use Rattle.health.specs.declared.report.Report.{Report}
use Rattle.wire.specs.Refusals.{Refusal}
use Rattle.commands.specs.Commands.{Asked, subsystem_poll, controller_poll, configuration_set}
use Rattle.model.specs.State.{SubsystemStatus}
use Rattle.model.specs.Calls.{Call, report, set_link, set_status, request, reset, refused, accepted}
use Rattle.model.specs.Histories.{Event, accepted_report, Succeeds, Resets, EndsStanding, ClearsComposite, by_configuration_set, by_subsystem_poll, by_reset}

pub record AsksNothing (e : Event) : Type 0 where
  pub no_success : (r : ℕ) (a : Asked) (nmresp : ℕ) (payload : List ℕ) → Succeeds r a nmresp payload e → ⊥
  pub no_reset : (r : ℕ) → Resets r e → ⊥

pub ends_nothing : {e : Event} → AsksNothing e → (r id : ℕ) → EndsStanding r id e → ⊥
ends_nothing q r id (inl h) = q.no_reset r h
ends_nothing q r id (inr h) = q.no_success r (controller_poll h.poll) h.nmresp h.payload h.succeeds

pub clears_nothing : {e : Event} → AsksNothing e → (r f : ℕ) → ClearsComposite r f e → ⊥
clears_nothing q r f (by_configuration_set flags nmresp payload h b) = q.no_success r (configuration_set flags) nmresp payload h
clears_nothing q r f (by_subsystem_poll nmresp payload h) = q.no_success r (subsystem_poll true) nmresp payload h
clears_nothing q r f (by_reset h) = q.no_reset r h

-- a report that was accepted
abbrev pub reporting : ℕ → ℕ → Report → Event
reporting rows id p = record { call = report rows id p; answer = accepted }

pub reporting_asks_nothing : (rows id : ℕ) (p : Report) → AsksNothing (reporting rows id p)
reporting_asks_nothing rows id p = record { no_success = λ _ _ _ _ h. h; no_reset = λ _ h. h }

-- a link or a status that was accepted
pub link_asks_nothing : (ports id : ℕ) (up : Bool) → AsksNothing (record { call = set_link ports id up; answer = accepted })
link_asks_nothing ports id up = record { no_success = λ _ _ _ _ h. h; no_reset = λ _ h. h }

pub status_asks_nothing : (status : SubsystemStatus) → AsksNothing (record { call = set_status status; answer = accepted })
status_asks_nothing status = record { no_success = λ _ _ _ _ h. h; no_reset = λ _ h. h }

-- a call that was refused
abbrev pub refusing : Call → Refusal → Event
refusing c x = record { call = c; answer = refused x }

pub refusing_asks_nothing : (c : Call) (x : Refusal) → AsksNothing (refusing c x)
refusing_asks_nothing (report rows id p) x = record { no_success = λ _ _ _ _ h. h; no_reset = λ _ h. h }
refusing_asks_nothing (set_link ports id up) x = record { no_success = λ _ _ _ _ h. h; no_reset = λ _ h. h }
refusing_asks_nothing (set_status status) x = record { no_success = λ _ _ _ _ h. h; no_reset = λ _ h. h }
refusing_asks_nothing (request n k rows ports bytes space) x = record { no_success = λ _ _ _ _ h. h; no_reset = λ _ h. h }
refusing_asks_nothing (reset n rows) x = record { no_success = λ _ _ _ _ h. h; no_reset = λ _ h. h }

pub refusing_no_report : (c : Call) (x : Refusal) → accepted_report (refusing c x) ≡ None
refusing_no_report (report rows id p) x = refl
refusing_no_report (set_link ports id up) x = refl
refusing_no_report (set_status status) x = refl
refusing_no_report (request n k rows ports bytes space) x = refl
refusing_no_report (reset n rows) x = refl
