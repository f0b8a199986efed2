-- A composite flag is set exactly if some field rose for the Responder since it last cleared the flag.
use Rattle.std.proofs.Common.{◌≡◌, ℕ, ◌^◌, ◌<◌, Bool, true, false, cond, ◌&&◌, eqb, ◌↔◌, List, [], ◌∷◌, ◌++◌, Some, None, Ok, Err, Option, Result, sym, refl, ap, ◌∙◌, subst, ⊎_elim}
use lib.Bits.{bit_or}
use Rattle.std.specs.List.{slice_get}
use Rattle.std.specs.Result.{is_err}
use Rattle.std.proofs.Math.Bool.{and-true}
use Rattle.std.proofs.lemmas.Bool.{true≢false, both_ways, not-true, not_from_false, eqb-true, eq-eqb, cond-true, cases_Bool, and_parts, and_from, and_right, or_cases, or_left, or_right}
use Rattle.health.specs.Words.{bit, without}
use Rattle.health.specs.Values.{HealthValues}
use Rattle.health.specs.Rows.{RowValues}
use Rattle.health.specs.declared.report.Report.{Report}
use Rattle.health_rules.specs.FlagRule.{gained}
use Rattle.wire.specs.Bytes.{word_at, word_reads_back}
use Rattle.wire.specs.Refusals.{Refusal}
use Rattle.wire.specs.Meaning.{CarrierMeaning}
use Rattle.commands.specs.Commands.{subsystem_poll}
use Rattle.register.specs.Controllers.{ControllerValues}
use Rattle.model.specs.State.{Responder, Drive, State, with_responders, with_drive}
use Rattle.model.specs.Reports.{risen, union, marked, reported}
use Rattle.model.specs.Drives.{linked, with_status}
use Rattle.model.specs.Requests.{Served, served, Outcome, refuse, grant}
use Rattle.model.specs.Calls.{Call, report, set_link, set_status, request, reset, accepted, responder_at, count_of_responders, request_outcome, reset_answer, reset_responder, at_place, judged, unless_refused, outcome_answer, outcome_state, next, after}
use Rattle.model.specs.Histories.{Event, event, events, Accepted, accepted_report, last_accepted, Gains, Succeeds, StandsChanged, ClearsComposite, by_configuration_set, by_subsystem_poll, by_reset, Rises, Rose}
use Rattle.model.proofs.Bits.{bit-bit_or, bit_zero, bit-without}
use Rattle.model.proofs.Responders.{changed_each, changed_one}
use Rattle.model.proofs.ParallelRows.{Parallel, parallel_both, parallel_find, union_found, union_has}
use Rattle.model.proofs.Replies.{Way, by_error, by_answer, way, Granted, granted, asking, success}
use Rattle.model.proofs.RowInvariant.{RowInvariant}
use Rattle.model.proofs.Events.{AsksNothing, clears_nothing, link_asks_nothing, status_asks_nothing, reporting, reporting_asks_nothing, refusing, refusing_asks_nothing, refusing_no_report}
use Rattle.model.proofs.Invariant.{Opening, Invariant, invariant_opened, invariant_next, along_history, invariant_after}
use Rattle.model.proofs.CompositeClearing.{keeps, composite_bit, clears_own, error_clears_nothing, clears_is, is_clearing}
use Rattle.model.proofs.Standing.{since_now, since_on, since_was, since_none}

-- after the events t, a Responder's composite flags are those that rose
Exact : (s : State) (t : List Event) (r : ℕ) → Responder → Type 0
Exact s t r y = (f : ℕ) → f < 16 → (bit y.composite f ≡ true) ↔ Rose s t r f

AllExact : (s : State) (t : List Event) → State → Type 0
AllExact s t now = (r : ℕ) (y : Responder) → responder_at now r ≡ Some y → Exact s t r y

-- ---- an event that is no accepted report

module _ (s : State) (t : List Event) (e : Event) (r f : ℕ) (no_report : accepted_report e ≡ None) where
  rises_not : Rises s r f t e → ⊥
  rises_not h = subst (λ (o : Option Accepted). Gains h.0 f (last_accepted h.0 h.1.0.health t) o) no_report h.1.3

  rose_kept : (ClearsComposite r f e → ⊥) → Rose s t r f ↔ Rose s (t ++ (e ∷ [])) r f
  rose_kept n = (
    (λ h. since_on (Rises s r f) (ClearsComposite r f) t e n h),
    (λ h. ⊎_elim (λ c. absurd (rises_not c)) (λ c. c.1) (since_was (Rises s r f) (ClearsComposite r f) t e h)),
  )

  rose_cleared : ClearsComposite r f e → Rose s (t ++ (e ∷ [])) r f → ⊥
  rose_cleared l h = ⊎_elim (λ c. rises_not c) (λ c. c.0 l) (since_was (Rises s r f) (ClearsComposite r f) t e h)

exact_kept : (s : State) (t : List Event) (e : Event) (r : ℕ) (y : Responder) → accepted_report e ≡ None → ((f : ℕ) → ClearsComposite r f e → ⊥)
    → Exact s t r y → Exact s (t ++ (e ∷ [])) r y
unfolding Exact
exact_kept s t e r y no_report n h f l =
    let w = rose_kept s t e r f no_report (n f) in let g = h f l in ((λ b. w.0 (g.0 b)), (λ b. g.1 (w.1 b)))

all_kept : (s : State) (t : List Event) (e : Event) (now then : State) → AllExact s t now → accepted_report e ≡ None
    → AsksNothing e → now.responders ≡ then.responders → AllExact s (t ++ (e ∷ [])) then
unfolding AllExact
all_kept s t e now then κ no_report n q r y k = exact_kept s t e r y no_report (clears_nothing n r) (κ r y (ap (λ (xs : List Responder). slice_get xs r) q ∙ k))

-- ---- reports

module _ (s : State) (t : List Event) (r rows id f : ℕ) (small : f < 16) (p : Report) where
  abbrev e : Event
  e = reporting rows id p

  -- a row's flag goes from 0 to 1 exactly if its field rises
  risen_rises : (x c : ControllerValues) (w : RowValues) → RowInvariant s t r x c w → bit (risen id p c w) f ≡ true → Rises s r f t e
  risen_rises x c w φ h = by_test (eqb c.id id) refl h
    where
      by_test : (b : Bool) → eqb c.id id ≡ b → bit (cond b (without (gained c.health p) w.changed) 0) f ≡ true → Rises s r f t e
      by_test false q h = absurd (both_ways _ (bit_zero f) h)
      by_test true q h =
          let v = and_parts _ _ (sym (bit-without (gained c.health p) w.changed f) ∙ h) in (
            x.id,
            (x, φ.enrolled, refl, (sym (eqb-true _ _ q) ∙ φ.same_id, ap (λ (a : HealthValues). bit (gained a p) f) (sym φ.health_is) ∙ v.0)),
            (λ st. both_ways _ (not-true _ v.1) ((φ.flags_stand f small).1 st)),
          )

  rises_risen : (x c : ControllerValues) (w : RowValues) → RowInvariant s t r x c w → (n : ℕ) → x.id ≡ n
      → Gains n f (last_accepted n x.health t) (accepted_report e) → (StandsChanged s t r n f → ⊥) → bit (risen id p c w) f ≡ true
  rises_risen x c w φ n i g not_standing =
      let new : bit (gained c.health p) f ≡ true =
      ap (λ (a : HealthValues). bit (gained a p) f) (φ.health_is ∙ ap (λ (a : ℕ). last_accepted a x.health t) i) ∙ g.1 in
      let old : bit w.changed f ≡ false =
      ⊎_elim (λ b. absurd (not_standing (subst (λ (a : ℕ). StandsChanged s t r a f) i ((φ.flags_stand f small).0 b)))) (λ b. b) (cases_Bool (bit w.changed f)) in
      ap (λ (a : ℕ). bit a f) (cond-true (eqb c.id id) _ _ (eq-eqb _ _ (φ.same_id ∙ i ∙ sym g.0)))
      ∙ bit-without (gained c.health p) w.changed f ∙ and_from _ _ new (not_from_false _ old)

  composite_reported : {cs : List ControllerValues} (y : Responder) → Parallel (RowInvariant s t r) s.drive.register.controllers cs y.rows
      → (bit y.composite f ≡ true) ↔ Rose s t r f
      → (bit (bit_or y.composite (union (risen id p) cs y.rows)) f ≡ true) ↔ Rose s (t ++ (e ∷ [])) r f
  composite_reported {cs} y l g =
      let u = union (risen id p) cs y.rows in
      let b = bit-bit_or y.composite u f in (
        (λ h. ⊎_elim
            (λ k. since_on (Rises s r f) (ClearsComposite r f) t e (clears_nothing (reporting_asks_nothing rows id p) r f) (g.0 k))
            (λ k. let w = union_found (risen id p) f l k in since_now (Rises s r f) (ClearsComposite r f) t e (risen_rises w.0 w.1 w.2 w.3 w.4))
            (or_cases _ _ (sym b ∙ h))),
        (λ h. b ∙ ⊎_elim
            (λ k.
            let c = k.1 in
            let w = parallel_find c.0 c.1 (parallel_both l (union_has (risen id p) f l)) in
            or_right _ _ (w.2.1 (rises_risen c.0 w.0 w.1 w.2.0 k.0 c.2 c.3 k.2)))
            (λ k. or_left _ _ (g.1 k.1))
            (since_was (Rises s r f) (ClearsComposite r f) t e h)),
      )

-- ---- requests

module _ (d : Drive) (n : ℕ) (k : CarrierMeaning) (rows ports : ℕ) (bytes : List ℕ) (space : ℕ) (out : List ℕ) (y : Responder) (o : Option Responder) (g : Granted d o k bytes out y)
    (f : ℕ) (s : State) (t : List Event) (w : (bit g.who.composite f ≡ true) ↔ Rose s t n f) where
  abbrev asked : Event
  asked = asking d n k rows ports bytes space out y o g

  composite_same : (c : ℕ) → bit c f ≡ bit g.who.composite f → (ClearsComposite n f asked → ⊥) → (bit c f ≡ true) ↔ Rose s (t ++ (asked ∷ [])) n f
  composite_same c q h =
      let u = rose_kept s t asked n f refl h in ((λ b. u.0 (w.0 (sym q ∙ b))), (λ b. q ∙ w.1 (u.1 b)))

  composite_asked : (v : Served) → v ≡ served d g.who g.asked → Way d g.who g.asked v
      → (bit v.responder.composite f ≡ true) ↔ Rose s (t ++ (asked ∷ [])) n f
  composite_asked v q (by_error head b i) =
      composite_same _ (ap (λ (u : Served). bit u.responder.composite f) i) (error_clears_nothing d n k rows ports bytes space out y o g f head b (sym q ∙ i) n)
  composite_asked v q (by_answer a asks b i) =
      let is : bit v.responder.composite f ≡ (bit g.who.composite f && keeps f a) =
      ap (λ (u : Served). bit u.responder.composite f) i ∙ composite_bit f d g.who a in
      ⊎_elim
      (λ h. composite_same _ (is ∙ ap (λ (u : Bool). bit g.who.composite f && u) h ∙ and-true (bit g.who.composite f))
      (λ l. both_ways _ (clears_is d n k rows ports bytes space out y o g f a asks (sym q ∙ i) n l) h))
      (λ h. (
        (λ z. absurd (both_ways _ (and_right (bit g.who.composite f) (keeps f a) h) (sym is ∙ z))),
        (λ z. absurd (rose_cleared s t asked n f refl (is_clearing d n k rows ports bytes space out y o g f a asks (sym q ∙ i) h) z)),
      ))
      (cases_Bool (keeps f a))

-- ---- any call

module _ (s : State) (t : List Event) (now : State) (ι : Invariant s t now) (κ : AllExact s t now) where
  -- an event that changes Responder n alone
  exact_at : (n : ℕ) (e : Event) (x : Responder) (g : Responder → Responder) → responder_at now n ≡ Some x → accepted_report e ≡ None
      → ((r f : ℕ) → ClearsComposite r f e → n ≡ r) → Exact s (t ++ (e ∷ [])) n (g x)
      → AllExact s (t ++ (e ∷ [])) (with_responders now (at_place now.responders n g))
  unfolding AllExact
  exact_at n e x g h no_report own l r y k =
      ⊎_elim
      (λ (v : (n ≡ r) × (g x ≡ y)). subst (λ (m : ℕ). Exact s (t ++ (e ∷ [])) m y) v.0 (subst (λ (z : Responder). Exact s (t ++ (e ∷ [])) n z) v.1 l))
      (λ v. exact_kept s t e r y no_report (λ f u. v.0 (own r f u)) (κ r y v.1))
      (changed_one now.responders n g x h r y k)

  -- a call that is refused
  exact_refused : (c : Call) (x : Refusal) → AllExact s (t ++ (refusing c x ∷ [])) now
  exact_refused c x = all_kept s t (refusing c x) now now κ (refusing_no_report c x) (refusing_asks_nothing c x) refl

  exact_report : (rows id : ℕ) (p : Report) (o : Result (Unit {0}) Refusal)
      → AllExact s (t ++ (record { call = report rows id p; answer = judged o } ∷ [])) (unless_refused o now (reported id p now))
  unfolding AllExact Exact
  exact_report rows id p (Err x) = exact_refused (report rows id p) x
  exact_report rows id p (Ok done) = λ r y k f l.
      let cs = now.drive.register.controllers in
      let m = changed_each (marked id p cs) now.responders r y k in
      subst (λ (v : Responder). (bit v.composite f ≡ true) ↔ Rose s (t ++ (reporting rows id p ∷ [])) r f) m.2
      (composite_reported s t r rows id f l p m.0 (ι.rows_hold r m.0 m.1) (κ r m.0 m.1 f l))

  exact_request : (n : ℕ) (k : CarrierMeaning) (rows ports : ℕ) (bytes : List ℕ) (space : ℕ) (o : Outcome)
      → request_outcome now.drive (count_of_responders now) (responder_at now n) n k rows ports bytes space ≡ o
      → AllExact s (t ++ (record { call = request n k rows ports bytes space; answer = outcome_answer o } ∷ [])) (outcome_state o now n)
  unfolding AllExact Exact
  exact_request n k rows ports bytes space (refuse x) q = exact_refused (request n k rows ports bytes space) x
  exact_request n k rows ports bytes space (grant out y) q =
      let d = now.drive in
      let g = granted d (count_of_responders now) (responder_at now n) n k rows ports bytes space out y q in
      let e = asking d n k rows ports bytes space out y (responder_at now n) g in
      exact_at n e g.who (λ _. y) g.there refl (λ r f l. clears_own d n k rows ports bytes space out y (responder_at now n) g f r l)
      (subst (λ (v : Responder). Exact s (t ++ (e ∷ [])) n v) (sym g.leaves)
      (λ f l. composite_asked d n k rows ports bytes space out y (responder_at now n) g f s t (κ n g.who g.there f l) _ refl (way d g.who g.asked)))

  exact_reset : (n rows : ℕ) (x : Option Responder) → responder_at now n ≡ x → (o : Result (Unit {0}) Refusal)
      → reset_answer now.drive (count_of_responders now) x n rows ≡ o
      → AllExact s (t ++ (record { call = reset n rows; answer = judged o } ∷ [])) (unless_refused o now (with_responders now (at_place now.responders n reset_responder)))
  unfolding AllExact Exact
  exact_reset n rows x h (Err f) q = exact_refused (reset n rows) f
  exact_reset n rows None h (Ok done) q = absurd (true≢false (ap is_err q))
  exact_reset n rows (Some x) h (Ok done) q =
      let e : Event = record { call = reset n rows; answer = accepted } in
      exact_at n e x reset_responder h refl
      (λ r f l. elim l [ by_configuration_set flags nmresp payload h b ↦ absurd h | by_subsystem_poll nmresp payload h ↦ absurd h | by_reset h ↦ h ])
      (λ f l. ((λ b. absurd (both_ways _ (bit_zero f) b)), (λ b. absurd (rose_cleared s t e n f refl (by_reset refl) b))))

  exact_linked : (ports id : ℕ) (up : Bool) (o : Result (Unit {0}) Refusal)
      → AllExact s (t ++ (record { call = set_link ports id up; answer = judged o } ∷ [])) (unless_refused o now (with_drive now (linked id up now.drive)))
  exact_linked ports id up (Ok done) =
      all_kept s t (record { call = set_link ports id up; answer = accepted }) now (with_drive now (linked id up now.drive)) κ refl (link_asks_nothing ports id up) refl
  exact_linked ports id up (Err x) = exact_refused (set_link ports id up) x

  exact_next : (c : Call) → AllExact s (t ++ (event now c ∷ [])) (next now c)
  exact_next (report rows id p) = exact_report rows id p _
  exact_next (set_link ports id up) = exact_linked ports id up _
  exact_next (set_status status) =
      all_kept s t (record { call = set_status status; answer = accepted }) now (with_drive now (with_status status now.drive)) κ refl (status_asks_nothing status) refl
  exact_next (request n k rows ports bytes space) = exact_request n k rows ports bytes space _ refl
  exact_next (reset n rows) = exact_reset n rows _ refl _ refl

exact_opened : (s : State) → Opening s → AllExact s [] s
unfolding AllExact Exact
exact_opened s o r y k f l = (
  (λ b. absurd (both_ways _ (ap (λ (n : ℕ). bit n f) (o.clear r y k).0 ∙ bit_zero f) b)),
  (λ b. absurd (since_none _ _ b)),
)

exact_after : (s : State) → Opening s → (h : List Call) → AllExact s (events s h) (after s h)
exact_after s o h =
    (along_history (λ t now. Invariant s t now × AllExact s t now)
    (λ t now c κ. (invariant_next s o.ascending t now κ.0 c, exact_next s t now κ.0 κ.1 c)) h [] s (invariant_opened s o, exact_opened s o)).1

-- the composite flags that a subsystem poll shows are the Responder's
pub composite_shown : (now : State) (c : Call) (r : ℕ) (clear : Bool) (nmresp : ℕ) (payload : List ℕ) → Succeeds r (subsystem_poll clear) nmresp payload (event now c)
    → ((y : Responder) → responder_at now r ≡ Some y → y.composite < 2 ^ 16)
    → (y : Responder) × (responder_at now r ≡ Some y) × (word_at payload 4 ≡ y.composite)
composite_shown now c r clear nmresp payload h fits =
    let u = success now c r (subsystem_poll clear) nmresp payload h in
    (u.who, u.there, ap (λ (b : List ℕ). word_at b 4) (sym u.payload_is) ∙ word_reads_back u.who.composite (fits u.who u.there))

-- the fourth field of the law
pub composite_exact : (s : State) → Opening s → (h : List Call) (c : Call) (r : ℕ) (clear : Bool) (nmresp : ℕ) (payload : List ℕ)
    → Succeeds r (subsystem_poll clear) nmresp payload (event (after s h) c)
    → (f : ℕ) → f < 16 → (bit (word_at payload 4) f ≡ true) ↔ Rose s (events s h) r f
unfolding AllExact Exact
composite_exact s o h c r clear nmresp payload z f l =
    let u = composite_shown (after s h) c r clear nmresp payload z ((invariant_after s o h).composite_fits r) in
    subst (λ (n : ℕ). (bit n f ≡ true) ↔ Rose s (events s h) r f) (sym u.2)
    (exact_after s o h r u.0 u.1 f l)
