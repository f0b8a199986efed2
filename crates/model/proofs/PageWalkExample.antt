-- The page walk of the example is met: its premises by computation, its conclusion by the law, and the poll that shows it by computation.
use Rattle.std.proofs.Common.{◌≡◌, ℕ, ◌≤◌, Bool, true, false, List, [], ◌∷◌, ◌++◌, Ok, Err, Result, sym, refl, ap, ◌∙◌, inl, inr, arith}
use Rattle.std.proofs.lemmas.Bool.{true≢false}
use Rattle.health.specs.declared.report.Report.{Report}
use Rattle.wire.specs.Refusals.{Refusal}
use Rattle.wire.specs.Meaning.{CarrierMeaning}
use Rattle.wire.specs.declared.message.Head.{Head}
use Rattle.wire.specs.declared.message.Request.{Request}
use Rattle.commands.specs.Commands.{Asked, controller_poll, asked_in}
use Rattle.commands.specs.declared.controller_poll.ControllerHealthPoll.{ControllerHealthPoll}
use Rattle.register.specs.Controllers.{ControllerValues}
use Rattle.model.specs.Calls.{report, request, Answer, replied, after}
use Rattle.model.specs.Histories.{Event, event, events, NoneOf, Enrolled, Succeeds, EndsStanding, StandsChanged, ClearsComposite, by_configuration_set, by_subsystem_poll, by_reset, Page, Walks, last_page, next_page, other_event}
use Rattle.model.specs.ReferenceCases.{fitted, ports}
use Rattle.model.specs.PageWalkExample.{three_controllers, six_rows, start, earlier, clearing, before_the_walk, walk_calls, since_the_clearing, all_calls, PageWalkIsMet}
use Rattle.model.proofs.Invariant.{is_controller_poll}
use Rattle.model.proofs.IndependentPolling.{independent_polling}

-- ---- what clears nothing

abbrev is_health_poll : Result Asked Head → Bool
is_health_poll (Ok a) = is_controller_poll a
is_health_poll (Err head) = false

same_request : {a b : Request} → ◌≡◌ {A = Result Request Refusal} (Ok a) (Ok b) → a ≡ b
same_request e = cc

module _ (r n : ℕ) (k : CarrierMeaning) (rows ports : ℕ) (bytes : List ℕ) (space : ℕ) (out : List ℕ) (q : Request) (reads : k.read_request bytes ≡ Ok q) where
  abbrev asking : Event
  asking = record { call = request n k rows ports bytes space; answer = replied out }

  -- a request that succeeds asks what its bytes ask
  asks : (a : Asked) (nmresp : ℕ) (payload : List ℕ) → Succeeds r a nmresp payload asking → asked_in q.command ≡ Ok a
  asks a nmresp payload h = ap (λ (u : Request). asked_in u.command) (same_request (sym reads ∙ h.1.1)) ∙ h.1.2

  poll_clears_none : (f : ℕ) → is_health_poll (asked_in q.command) ≡ true → ClearsComposite r f asking → ⊥
  poll_clears_none f poll (by_configuration_set flags nmresp payload h b) = true≢false (sym poll ∙ ap is_health_poll (asks _ nmresp payload h))
  poll_clears_none f poll (by_subsystem_poll nmresp payload h) = true≢false (sym poll ∙ ap is_health_poll (asks _ nmresp payload h))
  poll_clears_none f poll (by_reset h) = h

  no_poll_ends_none : (id : ℕ) → is_health_poll (asked_in q.command) ≡ false → EndsStanding r id asking → ⊥
  no_poll_ends_none id other (inl h) = h
  no_poll_ends_none id other (inr h) = true≢false (sym (ap is_health_poll (asks _ h.nmresp h.payload h.succeeds)) ∙ other)

report_clears_none : {r f rows id : ℕ} {p : Report} {a : Answer} → ClearsComposite r f (record { call = report rows id p; answer = a }) → ⊥
report_clears_none (by_configuration_set flags nmresp payload h b) = h
report_clears_none (by_subsystem_poll nmresp payload h) = h
report_clears_none (by_reset h) = h

none_cleared : NoneOf (ClearsComposite 0 8) (events (after start before_the_walk) since_the_clearing)
none_cleared = (
  poll_clears_none 0 0 _ _ _ _ _ _ _ refl 8 refl,
  (
    report_clears_none,
    (
      poll_clears_none 0 0 _ _ _ _ _ _ _ refl 8 refl,
      (poll_clears_none 0 1 _ _ _ _ _ _ _ refl 8 refl, (poll_clears_none 0 0 _ _ _ _ _ _ _ refl 8 refl, (report_clears_none, tt))),
    ),
  ),
)

-- ---- the pages

abbrev poll_from : ℕ → ControllerHealthPoll
poll_from sctlid = record {
  report_all = true;
  incvf = true;
  incpf = true;
  incf = true;
  maxrent = 0;
  sctlid = sctlid;
  clear_changed_flags = true;
  selection = record { cwarn = true; spare = true; pdlu = true; ctemp = true; csts = true };
}

-- a page with one entry
abbrev page : {e : Event} (payload : List ℕ) (sctlid : ℕ) → Succeeds 0 (controller_poll (poll_from sctlid)) 0x010000 payload e → Page 0 sctlid e
page {e} payload sctlid h = record {
  poll = poll_from sctlid;
  nmresp = 0x010000;
  payload = payload;
  succeeds = h;
  clearing = refl;
  all_types = (refl, refl, refl);
  all_selected = (refl, refl, refl, refl, refl);
  from = refl;
}

up_to_3 : (c : ControllerValues) → Enrolled c start.drive.register.controllers → c.id ≤ 3
up_to_3 c (inl e) = let i = ap (λ (x : ControllerValues). x.id) e in omega arith
up_to_3 c (inr (inl e)) = let i = ap (λ (x : ControllerValues). x.id) e in omega arith
up_to_3 c (inr (inr (inl e))) = let i = ap (λ (x : ControllerValues). x.id) e in omega arith
up_to_3 c (inr (inr (inr h))) = absurd h

abbrev pages : Walks start 0 0 (events (after start before_the_walk) since_the_clearing)
pages =
    next_page {id = 1} (page _ 0 (refl, (_, refl, refl), refl, refl)) (0, refl, refl)
    (other_event
    (next_page {id = 2} (page _ 2 (refl, (_, refl, refl), refl, refl)) (0, refl, refl)
    (other_event
    (last_page (page _ 3 (refl, (_, refl, refl), refl, refl)) (inr (3, (0, refl, refl), up_to_3))))))

-- ---- the changes

changed_before : StandsChanged start (events start before_the_walk) 0 3 8
changed_before = record {
  before = [];
  this = _;
  later = event (after start earlier) clearing ∷ [];
  splits = refl;
  happened = (_, inr (inr (inl refl)), refl, (refl, refl));
  not_since = (no_poll_ends_none 0 0 _ _ _ _ _ _ _ refl 3 refl, tt);
}

changed_last : StandsChanged start (events start all_calls) 0 1 8
changed_last = record {
  before = events start (before_the_walk ++ walk_calls);
  this = _;
  later = [];
  splits = refl;
  happened = (_, inl refl, refl, (refl, refl));
  not_since = tt;
}

pub page_walk_is_met : PageWalkIsMet
page_walk_is_met = record {
  cleared = by_configuration_set 0x3ff7 0 [] (refl, (_, refl, refl), refl, refl) refl;
  stands_at_the_clearing = changed_before;
  not_set_at_the_clearing = λ e. true≢false (sym e);
  not_cleared_since = none_cleared;
  walk = pages;
  stands_changed = changed_last;
  all_pages = refl;
  not_set_before_the_change = λ e. true≢false (sym e);
  set =
      ((independent_polling fitted three_controllers six_rows ports tt).composite_complete before_the_walk since_the_clearing 0 8 (omega arith)
      none_cleared pages 1 changed_last).0;
  shown = (0, _, (refl, (_, refl, refl), refl, refl), refl);
}
