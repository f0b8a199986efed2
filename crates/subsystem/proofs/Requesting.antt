-- The cases of a request.
use Rattle.std.proofs.Common.{◌≡◌, ℕ, zero, suc, ◌*◌, Bool, true, false, not, eqb, ltb, List, [], ◌∷◌, ◌++◌, map, length, take, drop, Some, None, Ok, Err, Option, Result, sym, refl, ap, ◌∙◌, subst}
use Rattle.std.specs.List.{slice_get}
use Rattle.std.proofs.lemmas.Option.{none-some}
use Rattle.health.specs.Rows.{RowValues, row_of}
use Rattle.health.specs.declared.row.Row.{Row}
use Rattle.wire.specs.Refusals.{Refusal, refuse_if, space_too_short}
use Rattle.wire.specs.Meaning.{CarrierMeaning, lengths_of}
use Rattle.wire.specs.declared.message.Request.{Request}
use Rattle.wire.specs.declared.message.Lengths.{Lengths}
use Rattle.register.specs.Registers.{RegisterValues}
use Rattle.register.specs.declared.port.Port.{Port}
use Rattle.model.specs.State.{State, with_responders}
use Rattle.model.specs.State as model
use Rattle.model.specs.ServiceRefusals.{no_such_responder, responder_of_another_kind, memory_too_short}
use Rattle.model.specs.Requests.{Outcome, refuse, grant, refused_if, served, reply_to}
use Rattle.model.specs.Calls.{request, at_place, request_outcome, outcome_answer, outcome_state, responder_at, count_of_responders, reply_space, step}
use Rattle.subsystem.specs.Responders.{ResponderValues}
use Rattle.subsystem.specs.States.{with_its_rows, responders_with_rows, responders_of, state_of}
use Rattle.subsystem.specs.Replies.{Exchange, length_answered, reply_after, exchanged, reply_bytes, Responds}
use Rattle.subsystem.specs.Admission.{lent_enough, admitted_at, admission}
use Rattle.subsystem.specs.declared.lent.Lent.{Lent}
use Rattle.subsystem.specs.declared.service.Subsystem.{Subsystem}
use Rattle.subsystem.proofs.Admitting.{admitted_there}
use Rattle.subsystem.proofs.RowGroups.{nth_responders}
use Rattle.subsystem.proofs.Reporting.{count_is}

-- what an outcome answers and leaves
abbrev exchange_of : Outcome → State → ℕ → List ℕ → Exchange
exchange_of (refuse f) s r reply = record { answer = Err f; reply = reply; state = s }
exchange_of (grant bytes x) s r reply = record { answer = Ok (length bytes); reply = bytes ++ drop (length bytes) reply; state = with_responders s (at_place s.responders r (λ _. x)) }

exchange_is : (o : Outcome) (s : State) (r : ℕ) (reply : List ℕ)
    → exchange_of o s r reply ≡ record { answer = length_answered (outcome_answer o); reply = reply_after (outcome_answer o) reply; state = outcome_state o s r }
exchange_is (refuse f) s r reply = refl
exchange_is (grant bytes x) s r reply = refl

module _ (s : State) (r : ℕ) (k : CarrierMeaning) (rows ports : ℕ) (bytes : List ℕ) (space : ℕ) (reply : List ℕ) where
  abbrev outcome : Outcome
  outcome = request_outcome s.drive (count_of_responders s) (responder_at s r) r k rows ports bytes space

  taken : (o : Outcome) → outcome ≡ o → exchange_of o s r reply ≡ exchanged (step s (request r k rows ports bytes space)) reply
  taken o e = ap (λ v. exchange_of v s r reply) (sym e) ∙ exchange_is outcome s r reply

  pub request_refused : (f : Refusal) → outcome ≡ refuse f → record { answer = Err f; reply = reply; state = s } ≡ exchanged (step s (request r k rows ports bytes space)) reply
  request_refused f e = taken (refuse f) e

  pub request_granted : (x : model.Responder) (q : Request) (n : ℕ) (after : List ℕ) (s' : State) → Responds k s r x q n reply after s'
      → outcome ≡ grant (reply_bytes k q (served s.drive x q)) (served s.drive x q).responder
      → record { answer = Ok n; reply = after; state = s' } ≡ exchanged (step s (request r k rows ports bytes space)) reply
  request_granted x q n after s' w e =
      (λ i. record { answer = Ok (w.has_the_length i); reply = w.writes_the_reply i; state = w.changes_this_responder i }) ∙ taken _ e

-- ---- the tests

-- refused by an answer, else what follows
abbrev by_answer : Result (Unit {0}) Refusal → Outcome → Outcome
by_answer (Ok passed) o = o
by_answer (Err f) o = refuse f

test_first : (b : Bool) (q : Refusal) (a : Result (Unit {0}) Refusal) (o : Outcome) → refused_if b q (by_answer a o) ≡ by_answer (refuse_if b q a) o
test_first true q a o = refl
test_first false q a o = refl

nth_none : (c : ℕ) (hs : List ResponderValues) (ws : List RowValues) (r : ℕ) → slice_get hs r ≡ None → slice_get (responders_with_rows c hs ws) r ≡ None
nth_none c [] ws r e = refl
nth_none c (h ∷ hs) ws zero e = absurd (none-some h (sym e))
nth_none c (h ∷ hs) ws (suc r) e = nth_none c hs (drop c ws) r e

module _ (x : Subsystem) (m : RegisterValues) (rows : List Row) (ports : List Port) (r : ℕ) (k : CarrierMeaning) (bytes : List ℕ) (lent : Lent)
    (needed : lent.rows_needed ≡ length x.responders.items * length m.controllers) where
  abbrev s : State
  s = state_of x m rows ports

  abbrev whole : Outcome
  whole = request_outcome s.drive (count_of_responders s) (responder_at s r) r k lent.rows lent.ports bytes lent.reply

  abbrev kind_refusal : Refusal
  kind_refusal = responder_of_another_kind r

  -- the tests of memory
  memory_tests : (o : Outcome)
      → refused_if (ltb lent.rows lent.rows_needed) (memory_too_short lent.rows_needed)
      (refused_if (ltb lent.ports x.port_count) (memory_too_short x.port_count)
      (refused_if (ltb lent.reply (reply_space k)) (space_too_short (reply_space k)) o))
      ≡ by_answer (lent_enough x.port_count k.head_length lent) o
  memory_tests o =
      let third = test_first (ltb lent.reply (reply_space k)) (space_too_short (reply_space k)) (Ok tt) o in
      let second = ap (refused_if (ltb lent.ports x.port_count) (memory_too_short x.port_count)) third ∙ test_first (ltb lent.ports x.port_count) (memory_too_short x.port_count) _ o in
      ap (refused_if (ltb lent.rows lent.rows_needed) (memory_too_short lent.rows_needed)) second ∙ test_first (ltb lent.rows lent.rows_needed) (memory_too_short lent.rows_needed) _ o

  -- with the Responder h
  module _ (h : ResponderValues) (there : slice_get (responders_of x) r ≡ Some h) where
    abbrev pub own : model.Responder
    own = with_its_rows h (take (length m.controllers) (drop (r * length m.controllers) (map row_of rows)))

    pub own_there : responder_at s r ≡ Some own
    own_there = nth_responders (length m.controllers) (responders_of x) (map row_of rows) r h there

    tests_are : whole ≡ by_answer (admitted_at (Some h) x.port_count r (lengths_of k) lent) (reply_to s.drive own k (k.read_request bytes))
    tests_are =
        let o = reply_to s.drive own k (k.read_request bytes) in
        (λ i. request_outcome s.drive (count_is x m rows ports i) (own_there i) r k lent.rows lent.ports bytes lent.reply)
        ∙ ap (λ n. refused_if (not (eqb h.kind k.kind)) kind_refusal (refused_if (ltb lent.rows n) (memory_too_short n)
        (refused_if (ltb lent.ports x.port_count) (memory_too_short x.port_count) (refused_if (ltb lent.reply (reply_space k)) (space_too_short (reply_space k)) o)))) (sym needed)
        ∙ ap (refused_if (not (eqb h.kind k.kind)) kind_refusal) (memory_tests o) ∙ test_first (not (eqb h.kind k.kind)) kind_refusal _ o

    pub admitted_then : Ok tt ≡ admission (responders_of x) x.port_count r (lengths_of k) lent → whole ≡ reply_to s.drive own k (k.read_request bytes)
    admitted_then e =
        tests_are ∙ ap (λ a. by_answer a (reply_to s.drive own k (k.read_request bytes))) (ap (λ o. admitted_at o x.port_count r (lengths_of k) lent) (sym there) ∙ sym e)

  refused_by : (o : Option ResponderValues) → slice_get (responders_of x) r ≡ o → (f : Refusal)
      → Err f ≡ admitted_at o x.port_count r (lengths_of k) lent → whole ≡ refuse f
  refused_by None there f e =
      ap (λ o. request_outcome s.drive (count_of_responders s) o r k lent.rows lent.ports bytes lent.reply) (nth_none (length m.controllers) (responders_of x) (map row_of rows) r there)
      ∙ (let z : no_such_responder r ≡ f = cc in ap refuse z)
  refused_by (Some h) there f e = tests_are h there ∙ ap (λ a. by_answer a (reply_to s.drive (own h there) k (k.read_request bytes))) (sym e)

  pub not_admitted : (f : Refusal) → Err f ≡ admission (responders_of x) x.port_count r (lengths_of k) lent → whole ≡ refuse f
  not_admitted f e = refused_by (slice_get (responders_of x) r) refl f e

-- ---- the answers of serve, from what the calls below promise

abbrev pub lent_to : ℕ → List Row → List Port → List ℕ → Lent
lent_to needed rows ports reply = record { rows_needed = needed; rows = length rows; ports = length ports; reply = length reply }

module _ (x : Subsystem) (m : RegisterValues) (rows : List Row) (ports : List Port) (r : ℕ) (k : CarrierMeaning) (bytes : List ℕ) (lent : Lent)
    (needed : lent.rows_needed ≡ length x.responders.items * length m.controllers) (lengths : Lengths) (meant : lengths ≡ lengths_of k) (reply : List ℕ) where
  abbrev before : State
  before = state_of x m rows ports

  abbrev exchange : Exchange
  exchange = exchanged (step before (request r k lent.rows lent.ports bytes lent.reply)) reply

  as_meant : (o : Result (Unit {0}) Refusal) → o ≡ admission (responders_of x) x.port_count r lengths lent → o ≡ admission (responders_of x) x.port_count r (lengths_of k) lent
  as_meant o e = e ∙ ap (λ l. admission (responders_of x) x.port_count r l lent) meant

  pub serve_not_admitted : (f : Refusal) → Err f ≡ admission (responders_of x) x.port_count r lengths lent → record { answer = Err f; reply = reply; state = before } ≡ exchange
  serve_not_admitted f e = request_refused before r k lent.rows lent.ports bytes lent.reply reply f (not_admitted x m rows ports r k bytes lent needed f (as_meant (Err f) e))

  module _ (e : Ok tt ≡ admission (responders_of x) x.port_count r lengths lent) where
    found : (h : ResponderValues) × (slice_get (responders_of x) r ≡ Some h)
    found = admitted_there (slice_get (responders_of x) r) x.port_count r lengths lent e

    abbrev asked : model.Responder
    asked = own x m rows ports r k bytes lent needed found.0 found.1

    read_then : request_outcome before.drive (count_of_responders before) (responder_at before r) r k lent.rows lent.ports bytes lent.reply
        ≡ reply_to before.drive asked k (k.read_request bytes)
    read_then = admitted_then x m rows ports r k bytes lent needed found.0 found.1 (as_meant (Ok tt) e)

    pub serve_unread : (f : Refusal) → Err f ≡ k.read_request bytes → record { answer = Err f; reply = reply; state = before } ≡ exchange
    serve_unread f read = request_refused before r k lent.rows lent.ports bytes lent.reply reply f (read_then ∙ ap (reply_to before.drive asked k) (sym read))

    pub serve_answered : (q : Request) (n : ℕ) (after : List ℕ) (s' : State) (at : ℕ) → Ok q ≡ k.read_request bytes → at ≡ r
        → ((y : model.Responder) → responder_at before at ≡ Some y → Responds k before at y q n reply after s')
        → record { answer = Ok n; reply = after; state = s' } ≡ exchange
    serve_answered q n after s' at read is h =
        request_granted before r k lent.rows lent.ports bytes lent.reply reply asked q n after s'
        (subst (λ (v : ℕ). (y : model.Responder) → responder_at before v ≡ Some y → Responds k before v y q n reply after s') is h asked
        (own_there x m rows ports r k bytes lent needed found.0 found.1))
        (read_then ∙ ap (reply_to before.drive asked k) (sym read))
