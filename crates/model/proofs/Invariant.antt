-- What holds of every Responder along every history.
use Rattle.std.proofs.Common.{◌≡◌, ℕ, ◌+◌, ◌*◌, ◌^◌, ◌<◌, Bool, true, false, eqb, ◌↔◌, List, [], ◌∷◌, ◌++◌, map, length, replicate, Some, None, Ok, Err, Option, Result, sym, refl, ap, ◌∙◌, subst, inl, inr, ⊎_elim, append_assoc, append-nil, arith}
use lib.Bits.{or_lt}
use Rattle.std.specs.List.{AllByRecursion as All, slice_get}
use Rattle.std.specs.Result.{is_err}
use Rattle.std.proofs.lemmas.Bool.{true≢false, both_ways, cond_both}
use Rattle.health.specs.Rows.{RowValues, clear_row}
use Rattle.health.specs.declared.report.Report.{Report}
use Rattle.wire.specs.Refusals.{Refusal}
use Rattle.wire.specs.Meaning.{CarrierMeaning}
use Rattle.commands.specs.Commands.{Asked, subsystem_poll, controller_poll, configuration_set, configuration_get, asked_in}
use Rattle.commands.specs.declared.controller_poll.ControllerHealthPoll.{ControllerHealthPoll}
use Rattle.register.specs.Controllers.{ControllerValues}
use Rattle.model.specs.State.{Responder, Drive, State, with_responders, with_drive}
use Rattle.model.specs.Reports.{renewed, marked_row, risen, union, marked, reported}
use Rattle.model.specs.Drives.{linked, with_status}
use Rattle.model.specs.Requests.{Served, error, qualifies, chosen, cleared, entries, served, Outcome, refuse, grant}
use Rattle.model.specs.Calls.{Call, report, set_link, set_status, request, reset, responder_at, count_of_responders, request_outcome, reset_answer, reset_responder, at_place, judged, unless_refused, outcome_answer, outcome_state, next, after}
use Rattle.model.specs.Histories.{Event, event, events, accepted_report, Enrolled, EndsStanding}
use Rattle.model.proofs.Responders.{changed_each, changed_one}
use Rattle.model.proofs.SelectableFlags.{gained_selectable, zero_selectable}
use Rattle.model.proofs.Bits.{bit_zero}
use Rattle.model.proofs.Controllers.{Ascends}
use Rattle.model.proofs.Entries.{Fits, HasId, Returns, returns_chosen}
use Rattle.model.proofs.ParallelRows.{Parallel, none, more, parallel_map, parallel_report, parallel_reset, parallel_chosen, parallel_cleared}
use Rattle.model.proofs.Replies.{answered, Way, by_error, by_answer, way, Granted, granted, ErrorHead, asking, error_fails, success_same, answer_succeeds}
use Rattle.model.proofs.RowInvariant.{RowInvariant, row_kept, row_cleared, row_reported}
use Rattle.model.proofs.Events.{AsksNothing, ends_nothing, reporting, link_asks_nothing, status_asks_nothing, refusing, refusing_asks_nothing, refusing_no_report}
use Rattle.model.proofs.Standing.{since_none}

-- the state right after opening: controllers in ascending ID, no composite flag, clear rows
pub record Opening (s : State) : Type 0 where
  pub ascending : Ascends 0 s.drive.register.controllers
  pub clear : (r : ℕ) (y : Responder) → responder_at s r ≡ Some y
      → (y.composite ≡ 0) × (y.rows ≡ replicate (length s.drive.register.controllers) clear_row)

-- opened at s, after the events t: each Responder's rows have the flags that stand, and its composite flags have 16 bits
pub record Invariant (s : State) (t : List Event) (now : State) : Type 0 where
  pub rows_hold : (r : ℕ) (y : Responder) → responder_at now r ≡ Some y
      → Parallel (RowInvariant s t r) s.drive.register.controllers now.drive.register.controllers y.rows
  pub composite_fits : (r : ℕ) (y : Responder) → responder_at now r ≡ Some y → y.composite < 2 ^ 16

abbrev pub is_controller_poll : Asked → Bool
is_controller_poll (subsystem_poll clear) = false
is_controller_poll (controller_poll p) = true
is_controller_poll (configuration_set flags) = false
is_controller_poll configuration_get = false

-- ---- opening

rows_opened : (s : State) (r n : ℕ) (cs : List ControllerValues) → Ascends n cs
    → ((x : ControllerValues) → Enrolled x cs → Enrolled x s.drive.register.controllers)
    → Parallel (RowInvariant s [] r) cs cs (replicate (length cs) clear_row)
rows_opened s r n [] a i = none
rows_opened s r n (x ∷ cs) a i =
    more (record {
      same_id = refl;
      enrolled = i x (inl refl);
      id_fits = a.1;
      health_is = refl;
      selectable = zero_selectable;
      flags_stand = λ f l. ((λ b. absurd (both_ways _ (bit_zero f) b)), (λ b. absurd (since_none _ _ b)));
    }) (rows_opened s r (x.id + 1) cs a.2 (λ y j. i y (inr j)))

pub invariant_opened : (s : State) → Opening s → Invariant s [] s
invariant_opened s o = record {
  rows_hold = λ r y h.
      let cs = s.drive.register.controllers in
      subst (λ (ws : List RowValues). Parallel (RowInvariant s [] r) cs cs ws) (sym (o.clear r y h).1) (rows_opened s r 0 cs o.ascending (λ x i. i));
  composite_fits = λ r y h. let z = (o.clear r y h).0 in omega arith;
}

-- ---- an event that is no report, and ends nothing

invariant_kept : (s : State) (t : List Event) (e : Event) (now then : State) → Invariant s t now → accepted_report e ≡ None
    → AsksNothing e → now.drive.register.controllers ≡ then.drive.register.controllers
    → now.responders ≡ then.responders → Invariant s (t ++ (e ∷ [])) then
invariant_kept s t e now then ι no_report h d q = record {
  rows_hold = λ r y k.
      subst (λ (cs : List ControllerValues). Parallel (RowInvariant s (t ++ (e ∷ [])) r) s.drive.register.controllers cs y.rows) d
      (parallel_map (λ x c w φ. row_kept s t e r x c w φ no_report (ends_nothing h r x.id)) (ι.rows_hold r y (ap (λ (xs : List Responder). slice_get xs r) q ∙ k)));
  composite_fits = λ r y k. ι.composite_fits r y (ap (λ (xs : List Responder). slice_get xs r) q ∙ k);
}

invariant_refused : (s : State) (t : List Event) (now : State) → Invariant s t now → (c : Call) (x : Refusal) → Invariant s (t ++ (refusing c x ∷ [])) now
invariant_refused s t now ι c x = invariant_kept s t (refusing c x) now now ι (refusing_no_report c x) (refusing_asks_nothing c x) refl refl

-- ---- reports

union_fits : (id : ℕ) (p : Report) (cs : List ControllerValues) (ws : List RowValues) → union (risen id p) cs ws < 2 ^ 16
union_fits id p [] ws = omega arith
union_fits id p (c ∷ cs) [] = omega arith
union_fits id p (c ∷ cs) (w ∷ ws) =
    or_lt 16 (risen id p c w) (union (risen id p) cs ws)
    (cond_both (eqb c.id id) _ _ (λ (n : ℕ). n < 2 ^ 16) (λ _. omega (arith, (gained_selectable c.health p).sixteen_bits)) (λ _. omega arith))
    (union_fits id p cs ws)

module _ (s : State) (asc : Ascends 0 s.drive.register.controllers) (t : List Event) (now : State) (ι : Invariant s t now) where
  invariant_reported : (rows id : ℕ) (p : Report) → Invariant s (t ++ (reporting rows id p ∷ [])) (reported id p now)
  invariant_reported rows id p = record {
    rows_hold = λ r y k.
        let cs = now.drive.register.controllers in
        let m = changed_each (marked id p cs) now.responders r y k in
        subst (λ (v : Responder). Parallel (RowInvariant s (t ++ (reporting rows id p ∷ [])) r) s.drive.register.controllers (map (renewed id p) cs) v.rows) m.2
        (parallel_report (renewed id p) (marked_row id p) (λ x c w φ. row_reported s asc t r rows id p x c w φ) (ι.rows_hold r m.0 m.1));
    composite_fits = λ r y k.
        let cs = now.drive.register.controllers in
        let m = changed_each (marked id p cs) now.responders r y k in
        subst (λ (v : Responder). v.composite < 2 ^ 16) m.2 (or_lt 16 _ _ (ι.composite_fits r m.0 m.1) (union_fits id p cs m.0.rows));
  }

  invariant_report : (rows id : ℕ) (p : Report) (o : Result (Unit {0}) Refusal)
      → Invariant s (t ++ (record { call = report rows id p; answer = judged o } ∷ [])) (unless_refused o now (reported id p now))
  invariant_report rows id p (Ok done) = invariant_reported rows id p
  invariant_report rows id p (Err f) = invariant_refused s t now ι (report rows id p) f

-- ---- requests

composite_answered_fits : (d : Drive) (x : Responder) (a : Asked) → x.composite < 2 ^ 16 → (answered d x a).responder.composite < 2 ^ 16
composite_answered_fits d x (subsystem_poll clear) h = cond_both clear _ _ (λ (v : Responder). v.composite < 2 ^ 16) (λ _. omega arith) (λ _. h)
composite_answered_fits d x (controller_poll p) h = cond_both p.clear_changed_flags _ _ (λ (v : Responder). v.composite < 2 ^ 16) (λ _. h) (λ _. h)
composite_answered_fits d x (configuration_set flags) h = omega arith
composite_answered_fits d x configuration_get h = h

-- ID and flags of what is chosen have 16 bits
pub chosen_fits : (s : State) (t : List Event) (r : ℕ) {xs cs : List ControllerValues} {ws : List RowValues} (k : ControllerValues → RowValues → Bool) (n : ℕ)
    → Parallel (RowInvariant s t r) xs cs ws → All Fits (chosen k n cs ws)
chosen_fits s t r k n l =
    parallel_chosen Fits k n (λ x c w φ. (let i = φ.same_id in omega (arith, φ.id_fits), φ.selectable.sixteen_bits)) l

module _ (d : Drive) (n : ℕ) (k : CarrierMeaning) (rows ports : ℕ) (bytes : List ℕ) (space : ℕ) (out : List ℕ) (y : Responder) (o : Option Responder) (g : Granted d o k bytes out y) where
  abbrev e : Event
  e = asking d n k rows ports bytes space out y o g

  -- it ends nothing for another Responder
  ends_own : (r id : ℕ) → EndsStanding r id e → n ≡ r
  ends_own r id (inl h) = absurd h
  ends_own r id (inr h) = h.succeeds.0

  error_ends_nothing : (head : _) → ErrorHead head → served d g.who g.asked ≡ error head g.who → (r id : ℕ) → EndsStanding r id e → ⊥
  error_ends_nothing head b i r id (inl h) = h
  error_ends_nothing head b i r id (inr h) =
      error_fails d n k rows ports bytes space out y o g head b i r (controller_poll h.poll) h.nmresp h.payload h.succeeds

  module _ (s : State) (t : List Event) (asc : Ascends 0 s.drive.register.controllers)
      (l : Parallel (RowInvariant s t n) s.drive.register.controllers d.register.controllers g.who.rows) where
    abbrev Holds : List RowValues → Type 0
    Holds ws = Parallel (RowInvariant s (t ++ (e ∷ [])) n) s.drive.register.controllers d.register.controllers ws

    rows_kept : ((id : ℕ) → EndsStanding n id e → ⊥) → Holds g.who.rows
    rows_kept h = parallel_map (λ x c w φ. row_kept s t e n x c w φ refl (h x.id)) l

    module _ (a : Asked) (asks : asked_in g.asked.command ≡ Ok a) (is : served d g.who g.asked ≡ answered d g.who a) where
      -- what it ends, it returns, and it is a poll that clears
      ended : (r id : ℕ) → EndsStanding r id e
          → (p : ControllerHealthPoll) × (controller_poll p ≡ a) × (p.clear_changed_flags ≡ true) × Returns (answered d g.who a).head.nmresp (answered d g.who a).payload id
      ended r id (inl h) = absurd h
      ended r id (inr h) =
          let u = success_same d n k rows ports bytes space out y o g a asks is r (controller_poll h.poll) h.nmresp h.payload h.succeeds in (
            h.poll,
            u.same_asked,
            h.clearing,
            subst (λ (m : ℕ). Returns m (answered d g.who a).payload id) (sym u.same_nmresp)
                (subst (λ (b : List ℕ). Returns h.nmresp b id) (sym u.same_payload) h.returns_it),
          )

      no_poll_keeps : ((p : ControllerHealthPoll) → controller_poll p ≡ a → p.clear_changed_flags ≡ true → ⊥) → Holds g.who.rows
      no_poll_keeps h = rows_kept (λ id z. let u = ended n id z in h u.0 u.1 u.2)

      others_keep : is_controller_poll a ≡ false → Holds g.who.rows
      others_keep other = no_poll_keeps (λ p q z. true≢false (ap is_controller_poll q ∙ other))

    rows_answered : (a : Asked) → asked_in g.asked.command ≡ Ok a → served d g.who g.asked ≡ answered d g.who a → Holds (answered d g.who a).responder.rows
    rows_answered (subsystem_poll clear) asks is =
        cond_both clear _ _ (λ (v : Responder). Holds v.rows) (λ _. same) (λ _. same)
      where
        same : Holds g.who.rows
        same = others_keep (subsystem_poll clear) asks is refl
    rows_answered (controller_poll p) asks is =
        cond_both p.clear_changed_flags _ _ (λ (v : Responder). Holds v.rows) (λ c. cleared_rows c)
        (λ c. no_poll_keeps (controller_poll p) asks is (λ p' q z. both_ways _ c (let same : p' ≡ p = cc in ap (λ (v : ControllerHealthPoll). v.clear_changed_flags) (sym same) ∙ z)))
      where
        es : List (ControllerValues × RowValues)
        es = chosen (qualifies p) (p.maxrent + 1) d.register.controllers g.who.rows

        returned : p.clear_changed_flags ≡ true → (id : ℕ) → EndsStanding n id e ↔ HasId id es
        returned c id =
            let r = returns_chosen es id (chosen_fits s t n (qualifies p) (p.maxrent + 1) l) in (
              (λ z. r.0 (ended (controller_poll p) asks is n id z).3),
              (λ z. inr (record {
                poll = p;
                nmresp = length es * 2 ^ 16;
                payload = entries es;
                succeeds = answer_succeeds d n k rows ports bytes space out y o g (controller_poll p) asks is;
                clearing = c;
                returns_it = r.1 z;
              })),
            )

        cleared_rows : p.clear_changed_flags ≡ true → Holds (cleared (qualifies p) (p.maxrent + 1) d.register.controllers g.who.rows)
        cleared_rows c =
            parallel_cleared (qualifies p) (λ id. EndsStanding n id e) (λ x c w φ. φ.same_id) (λ x c w φ h. row_cleared s t e n x c w φ refl h)
            (λ x c w φ h. row_kept s t e n x c w φ refl h) (p.maxrent + 1) 0 asc (λ id _. returned c id) l
    rows_answered (configuration_set flags) asks is =
        others_keep (configuration_set flags) asks is refl
    rows_answered configuration_get asks is =
        others_keep configuration_get asks is refl

    rows_asked : (v : Served) → v ≡ served d g.who g.asked → Way d g.who g.asked v → Holds v.responder.rows
    rows_asked v q (by_error head b i) =
        subst (λ (u : Served). Holds u.responder.rows) (sym i) (rows_kept (error_ends_nothing head b (sym q ∙ i) n))
    rows_asked v q (by_answer a asks b i) = subst (λ (u : Served). Holds u.responder.rows) (sym i) (rows_answered a asks (sym q ∙ i))

composite_asked_fits : (d : Drive) (x : Responder) (q : _) (v : Served) → Way d x q v → x.composite < 2 ^ 16 → v.responder.composite < 2 ^ 16
composite_asked_fits d x q v (by_error head b i) h = subst (λ (u : Served). u.responder.composite < 2 ^ 16) (sym i) h
composite_asked_fits d x q v (by_answer a asks b i) h = subst (λ (u : Served). u.responder.composite < 2 ^ 16) (sym i) (composite_answered_fits d x a h)

-- ---- any call

module _ (s : State) (asc : Ascends 0 s.drive.register.controllers) (t : List Event) (now : State) (ι : Invariant s t now) where
  -- an event that changes Responder n alone
  invariant_at : (n : ℕ) (e : Event) (x : Responder) (f : Responder → Responder) → responder_at now n ≡ Some x → accepted_report e ≡ None
      → ((r id : ℕ) → EndsStanding r id e → n ≡ r)
      → Parallel (RowInvariant s (t ++ (e ∷ [])) n) s.drive.register.controllers now.drive.register.controllers (f x).rows → (f x).composite < 2 ^ 16
      → Invariant s (t ++ (e ∷ [])) (with_responders now (at_place now.responders n f))
  invariant_at n e x f h no_report own l c = record {
    rows_hold = λ r y k. ⊎_elim
        (λ (v : (n ≡ r) × (f x ≡ y)). subst (λ (m : ℕ). Holds m y.rows) v.0 (subst (λ (z : Responder). Holds n z.rows) v.1 l))
        (λ v. parallel_map (λ z c w φ. row_kept s t e r z c w φ no_report (λ u. v.0 (own r z.id u))) (ι.rows_hold r y v.1))
        (changed_one now.responders n f x h r y k);
    composite_fits = λ r y k. ⊎_elim (λ (v : (n ≡ r) × (f x ≡ y)). subst (λ (z : Responder). z.composite < 2 ^ 16) v.1 c)
        (λ v. ι.composite_fits r y v.1) (changed_one now.responders n f x h r y k);
  }
    where
      Holds : ℕ → List RowValues → Type 0
      Holds m ws = Parallel (RowInvariant s (t ++ (e ∷ [])) m) s.drive.register.controllers now.drive.register.controllers ws

  invariant_request : (n : ℕ) (k : CarrierMeaning) (rows ports : ℕ) (bytes : List ℕ) (space : ℕ) (o : Outcome)
      → request_outcome now.drive (count_of_responders now) (responder_at now n) n k rows ports bytes space ≡ o
      → Invariant s (t ++ (record { call = request n k rows ports bytes space; answer = outcome_answer o } ∷ [])) (outcome_state o now n)
  invariant_request n k rows ports bytes space (refuse f) q = invariant_refused s t now ι (request n k rows ports bytes space) f
  invariant_request n k rows ports bytes space (grant out y) q =
      let d = now.drive in
      let g = granted d (count_of_responders now) (responder_at now n) n k rows ports bytes space out y q in
      let e = asking d n k rows ports bytes space out y (responder_at now n) g in
      let w = way d g.who g.asked in
      invariant_at n e g.who (λ _. y) g.there refl (ends_own d n k rows ports bytes space out y (responder_at now n) g)
      (subst (λ (v : Responder). Parallel (RowInvariant s (t ++ (e ∷ [])) n) s.drive.register.controllers d.register.controllers v.rows) (sym g.leaves)
      (rows_asked d n k rows ports bytes space out y (responder_at now n) g s t asc (ι.rows_hold n g.who g.there) _ refl w))
      (subst (λ (v : Responder). v.composite < 2 ^ 16) (sym g.leaves) (composite_asked_fits d g.who g.asked _ w (ι.composite_fits n g.who g.there)))

  invariant_reset : (n rows : ℕ) (x : Option Responder) → responder_at now n ≡ x → (o : Result (Unit {0}) Refusal)
      → reset_answer now.drive (count_of_responders now) x n rows ≡ o
      → Invariant s (t ++ (record { call = reset n rows; answer = judged o } ∷ [])) (unless_refused o now (with_responders now (at_place now.responders n reset_responder)))
  invariant_reset n rows x h (Err f) q = invariant_refused s t now ι (reset n rows) f
  invariant_reset n rows None h (Ok done) q = absurd (true≢false (ap is_err q))
  invariant_reset n rows (Some x) h (Ok done) q =
      invariant_at n _ x reset_responder h refl (λ r id u. ⊎_elim (λ z. z) (λ z. absurd z.succeeds) u)
      (parallel_reset (λ z c w φ. row_cleared s t _ n z c w φ refl (inl refl)) (ι.rows_hold n x h)) (omega arith)

  invariant_linked : (ports id : ℕ) (up : Bool) (o : Result (Unit {0}) Refusal)
      → Invariant s (t ++ (record { call = set_link ports id up; answer = judged o } ∷ [])) (unless_refused o now (with_drive now (linked id up now.drive)))
  invariant_linked ports id up (Ok done) =
      invariant_kept s t _ now (with_drive now (linked id up now.drive)) ι refl (link_asks_nothing ports id up) refl refl
  invariant_linked ports id up (Err f) = invariant_refused s t now ι (set_link ports id up) f

  pub invariant_next : (c : Call) → Invariant s (t ++ (event now c ∷ [])) (next now c)
  invariant_next (report rows id p) = invariant_report s asc t now ι rows id p _
  invariant_next (set_link ports id up) = invariant_linked ports id up _
  invariant_next (set_status status) =
      invariant_kept s t _ now (with_drive now (with_status status now.drive)) ι refl (status_asks_nothing status) refl refl
  invariant_next (request n k rows ports bytes space) = invariant_request n k rows ports bytes space _ refl
  invariant_next (reset n rows) = invariant_reset n rows _ refl _ refl

-- what each call keeps holds along every history
pub along_history : (P : List Event → State → Type 0) → ((t : List Event) (now : State) (c : Call) → P t now → P (t ++ (event now c ∷ [])) (next now c))
    → (h : List Call) (t : List Event) (now : State) → P t now → P (t ++ events now h) (after now h)
along_history P keeps [] t now p = subst (λ (l : List Event). P l now) (sym (append-nil t)) p
along_history P keeps (c ∷ cs) t now p =
    subst (λ (l : List Event). P l (after (next now c) cs)) (append_assoc t (event now c ∷ []) (events (next now c) cs))
    (along_history P keeps cs (t ++ (event now c ∷ [])) (next now c) (keeps t now c p))

-- after any history
pub invariant_after : (s : State) → Opening s → (h : List Call) → Invariant s (events s h) (after s h)
invariant_after s o h = along_history (Invariant s) (λ t now c ι. invariant_next s o.ascending t now ι c) h [] s (invariant_opened s o)
