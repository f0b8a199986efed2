-- After pages to the end no field stands changed without its composite flag.
use Rattle.std.proofs.Common.{◌≡◌, ℕ, ◌+◌, ◌*◌, ◌^◌, ◌<◌, ◌≤◌, Bool, true, false, cond, ◌||◌, eqb, List, [], ◌∷◌, ◌++◌, map, length, Some, None, Ok, Err, Option, Result, sym, refl, ap, ◌∙◌, subst, inl, inr, ⊎_elim, arith}
use lib.Bits.{bit_or}
use Rattle.std.specs.List.{AllByRecursion as All, slice_get}
use Rattle.std.specs.Result.{is_err}
use Rattle.std.proofs.lemmas.List.{length-map}
use Rattle.std.proofs.lemmas.Option.{slice_get_within, slice_get_cases}
use Rattle.std.proofs.lemmas.Bool.{true≢false, both_ways, not_from_false, cond_both, cond-true, cases_Bool, cases_lt, and_from, or_cases, or_left, or_right}
use Rattle.health.specs.Words.{bit, without}
use Rattle.health.specs.Status.{events_in}
use Rattle.health.specs.Rows.{RowValues, clear_row, gaining}
use Rattle.health.specs.declared.report.Report.{Report}
use Rattle.health_rules.specs.FlagRule.{gained}
use Rattle.wire.specs.Bytes.{word_at}
use Rattle.wire.specs.Refusals.{Refusal}
use Rattle.wire.specs.Meaning.{CarrierMeaning}
use Rattle.wire.specs.declared.message.Request.{Request}
use Rattle.commands.specs.Commands.{Asked, subsystem_poll, controller_poll, configuration_set, configuration_get}
use Rattle.register.specs.Controllers.{ControllerValues}
use Rattle.model.specs.State.{Responder, Drive, State, with_responders, with_drive}
use Rattle.model.specs.Reports.{report_answer, renewed, marked_row, risen, union, marked, reported}
use Rattle.model.specs.Drives.{link_answer, linked, with_status}
use Rattle.model.specs.Requests.{Served, with_rows, qualifies, chosen, cleared, entries, served, Outcome, refuse, grant}
use Rattle.model.specs.Calls.{Call, report, set_link, set_status, request, reset, responder_at, count_of_responders, request_outcome, reset_answer, reset_responder, at_place, judged, unless_refused, outcome_answer, outcome_state, next, after}
use Rattle.model.specs.Histories.{Event, event, events, NoneOf, Enrolled, Succeeds, entry_at, entry_count, id_in, StandsChanged, ClearsComposite, by_reset, Page, LastIs, IsEnd, Walks, last_page, next_page, other_event, HasComposite, CompositeSet}
use Rattle.model.proofs.Bits.{bit-bit_or, bit_zero, bit-without}
use Rattle.model.proofs.Responders.{length_changed, changed_each, changed_alone, changed_one}
use Rattle.model.proofs.Controllers.{Ascends}
use Rattle.model.proofs.Entries.{bytes_of, Fits, id_read, entry_all}
use Rattle.model.proofs.ParallelRows.{Parallel, parallel_map, parallel_both, parallel_report, parallel_cleared_too, parallel_find, union_has}
use Rattle.model.proofs.Replies.{answered, Way, by_error, by_answer, way, Granted, granted, asking, success}
use Rattle.model.proofs.RowInvariant.{RowInvariant}
use Rattle.model.proofs.Invariant.{Opening, Invariant, invariant_next, invariant_after, chosen_fits}
use Rattle.model.proofs.CompositeClearing.{keeps, composite_bit, is_clearing}
use Rattle.model.proofs.CompositeExact.{composite_shown}
use Rattle.model.proofs.Pages.{PagedRow, parallel_paged, unqualified}

-- of a controller with an ID below n, flag f is not in the row without being in the composite flags
abbrev RowCovered : (f n composite : ℕ) → ControllerValues → ControllerValues → RowValues → Type 0
RowCovered f n composite x c w = x.id < n → bit w.changed f ≡ true → bit composite f ≡ true

-- so it is of each controller, for r
Covered : (s : State) (r f n : ℕ) → State → Type 0
Covered s r f n now = (y : Responder) → responder_at now r ≡ Some y
    → Parallel (RowCovered f n y.composite) s.drive.register.controllers now.drive.register.controllers y.rows

-- ---- an event that does not clear the composite flag

-- rows that a request leaves or clears
rows_left_or_cleared : {P : ControllerValues → ControllerValues → RowValues → Type 0} {xs : List ControllerValues} (d : Drive) (x : Responder) (a : Asked)
    → ((y c : ControllerValues) (w : RowValues) → P y c w → P y c clear_row) → Parallel P xs d.register.controllers x.rows
    → Parallel P xs d.register.controllers (answered d x a).responder.rows
rows_left_or_cleared {P} {xs} d x (subsystem_poll clear) h l =
    cond_both clear _ _ (λ (v : Responder). Parallel P xs d.register.controllers v.rows) (λ _. l) (λ _. l)
rows_left_or_cleared {P} {xs} d x (controller_poll p) h l =
    cond_both p.clear_changed_flags _ _ (λ (v : Responder). Parallel P xs d.register.controllers v.rows)
    (λ _. parallel_cleared_too (qualifies p) (p.maxrent + 1) h l) (λ _. l)
rows_left_or_cleared d x (configuration_set flags) h l = l
rows_left_or_cleared d x configuration_get h l = l

module _ (s : State) (r f n : ℕ) where
  covered_same : (now then : State) → Covered s r f n now → now.drive.register.controllers ≡ then.drive.register.controllers
      → now.responders ≡ then.responders → Covered s r f n then
  unfolding Covered
  covered_same now then c d q y k =
      subst (λ (cs : List ControllerValues). Parallel (RowCovered f n y.composite) s.drive.register.controllers cs y.rows) d
      (c y (ap (λ (xs : List Responder). slice_get xs r) q ∙ k))

  row_still_covered : (id : ℕ) (p : Report) (composite u : ℕ) (x c : ControllerValues) (w : RowValues) → RowCovered f n composite x c w
      → (bit (risen id p c w) f ≡ true → bit u f ≡ true) → RowCovered f n (bit_or composite u) x (renewed id p c) (marked_row id p c w)
  row_still_covered id p composite u x c w k h l b = bit-bit_or composite u f ∙ by_test (eqb c.id id) h b
    where
      by_test : (t : Bool) → (bit (cond t (without (gained c.health p) w.changed) 0) f ≡ true → bit u f ≡ true)
          → bit (cond t (gaining (gained c.health p) (events_in p.status) w) w).changed f ≡ true → (bit composite f || bit u f) ≡ true
      by_test false h b = or_left _ _ (k l b)
      by_test true h b =
          ⊎_elim (λ old. or_left _ _ (k l old))
          (λ old. or_right _ _ (h (bit-without (gained c.health p) w.changed f ∙ and_from _ _ (newly old) (not_from_false _ old))))
          (cases_Bool (bit w.changed f))
        where
          newly : bit w.changed f ≡ false → bit (gained c.health p) f ≡ true
          newly old =
              ⊎_elim (λ z. absurd (both_ways _ old z)) (λ z. z) (or_cases _ _ (sym (bit-bit_or w.changed (gained c.health p) f) ∙ b))

  covered_reported : (now : State) (id : ℕ) (p : Report) → Covered s r f n now → Covered s r f n (reported id p now)
  unfolding Covered
  covered_reported now id p c y k =
      let cs = now.drive.register.controllers in
      let m = changed_each (marked id p cs) now.responders r y k in
      let l = c m.0 m.1 in
      subst (λ (v : Responder). Parallel (RowCovered f n v.composite) s.drive.register.controllers (map (renewed id p) cs) v.rows) m.2
      (parallel_report (renewed id p) (marked_row id p)
      (λ x d w φ. row_still_covered id p m.0.composite (union (risen id p) cs m.0.rows) x d w φ.0 φ.1) (parallel_both l (union_has (risen id p) f l)))

  covered_at : (now : State) (i : ℕ) (x : Responder) (g : Responder → Responder) → responder_at now i ≡ Some x → Covered s r f n now
      → (i ≡ r → Parallel (RowCovered f n (g x).composite) s.drive.register.controllers now.drive.register.controllers (g x).rows)
      → Covered s r f n (with_responders now (at_place now.responders i g))
  unfolding Covered
  covered_at now i x g h c l y k =
      ⊎_elim
      (λ (v : (i ≡ r) × (g x ≡ y)). subst (λ (z : Responder). Parallel (RowCovered f n z.composite) s.drive.register.controllers now.drive.register.controllers z.rows) v.1 (l v.0))
      (λ v. c y v.1)
      (changed_one now.responders i g x h r y k)

  -- rows that are left or cleared, and a composite flag that is kept
  rows_covered : (d : Drive) (x : Responder) (q : Request) (v : Served) → Way d x q v → (bit x.composite f ≡ true → bit v.responder.composite f ≡ true)
      → Parallel (RowCovered f n x.composite) s.drive.register.controllers d.register.controllers x.rows
      → Parallel (RowCovered f n v.responder.composite) s.drive.register.controllers d.register.controllers v.responder.rows
  rows_covered d x q v w h l = by_way w (parallel_map (λ a c w φ i j. h (φ i j)) l)
    where
      Holds : List RowValues → Type 0
      Holds ws = Parallel (RowCovered f n v.responder.composite) s.drive.register.controllers d.register.controllers ws

      by_way : Way d x q v → Holds x.rows → Holds v.responder.rows
      by_way (by_error head b i) k = subst (λ (u : Served). Holds u.responder.rows) (sym i) k
      by_way (by_answer a asks b i) k =
          subst (λ (u : Served). Holds u.responder.rows) (sym i) (rows_left_or_cleared d x a (λ y c w φ l j. absurd (both_ways _ (bit_zero f) j)) k)

  covered_request : (now : State) (i : ℕ) (k : CarrierMeaning) (rows ports : ℕ) (bytes : List ℕ) (space : ℕ) (o : Outcome)
      → request_outcome now.drive (count_of_responders now) (responder_at now i) i k rows ports bytes space ≡ o
      → (ClearsComposite r f (record { call = request i k rows ports bytes space; answer = outcome_answer o }) → ⊥)
      → Covered s r f n now → Covered s r f n (outcome_state o now i)
  unfolding Covered
  covered_request now i k rows ports bytes space (refuse x) e h c = c
  covered_request now i k rows ports bytes space (grant out y) e h c =
      let d = now.drive in
      let g = granted d (count_of_responders now) (responder_at now i) i k rows ports bytes space out y e in
      covered_at now i g.who (λ _. y) g.there c (λ q.
      subst (λ (v : Responder). Parallel (RowCovered f n v.composite) s.drive.register.controllers d.register.controllers v.rows) (sym g.leaves)
      (rows_covered d g.who g.asked (served d g.who g.asked) (way d g.who g.asked)
      (composite_kept g q (served d g.who g.asked) refl (way d g.who g.asked))
      (c g.who (subst (λ (m : ℕ). responder_at now m ≡ Some g.who) q g.there))))
    where
      composite_kept : (g : Granted now.drive (responder_at now i) k bytes out y) → i ≡ r → (v : Served) → v ≡ served now.drive g.who g.asked
          → Way now.drive g.who g.asked v → bit g.who.composite f ≡ true → bit v.responder.composite f ≡ true
      composite_kept g q v z (by_error head b j) t = ap (λ (u : Served). bit u.responder.composite f) j ∙ t
      composite_kept g q v z (by_answer a asks b j) t =
          ap (λ (u : Served). bit u.responder.composite f) j ∙ composite_bit f now.drive g.who a
          ∙ and_from _ _ t (⊎_elim (λ u. u)
          (λ u. absurd (h (subst (λ (m : ℕ). ClearsComposite m f (asking now.drive i k rows ports bytes space out y (responder_at now i) g)) q
          (is_clearing now.drive i k rows ports bytes space out y (responder_at now i) g f a asks (sym z ∙ j) u))))
          (cases_Bool (keeps f a)))

  covered_reset : (now : State) (i rows : ℕ) (x : Option Responder) → responder_at now i ≡ x → (o : Result (Unit {0}) Refusal)
      → reset_answer now.drive (count_of_responders now) x i rows ≡ o
      → (ClearsComposite r f (record { call = reset i rows; answer = judged o }) → ⊥)
      → Covered s r f n now → Covered s r f n (unless_refused o now (with_responders now (at_place now.responders i reset_responder)))
  covered_reset now i rows x e (Err a) q h c = c
  covered_reset now i rows None e (Ok done) q h c = absurd (true≢false (ap is_err q))
  covered_reset now i rows (Some x) e (Ok done) q h c = covered_at now i x reset_responder e c (λ p. absurd (h (by_reset p)))

  covered_report : (now : State) (id : ℕ) (p : Report) (o : Result (Unit {0}) Refusal) → Covered s r f n now → Covered s r f n (unless_refused o now (reported id p now))
  covered_report now id p (Ok done) c = covered_reported now id p c
  covered_report now id p (Err x) c = c

  covered_linked : (now : State) (id : ℕ) (up : Bool) (o : Result (Unit {0}) Refusal) → Covered s r f n now
      → Covered s r f n (unless_refused o now (with_drive now (linked id up now.drive)))
  covered_linked now id up (Ok done) c = covered_same now (with_drive now (linked id up now.drive)) c refl refl
  covered_linked now id up (Err x) c = c

  covered_next : (now : State) (c : Call) → (ClearsComposite r f (event now c) → ⊥) → Covered s r f n now → Covered s r f n (next now c)
  covered_next now (report rows id p) h c = covered_report now id p _ c
  covered_next now (set_link ports id up) h c = covered_linked now id up _ c
  covered_next now (set_status status) h c = covered_same now (with_drive now (with_status status now.drive)) c refl refl
  covered_next now (request i k rows ports bytes space) h c = covered_request now i k rows ports bytes space _ refl h c
  covered_next now (reset i rows) h c = covered_reset now i rows _ refl _ refl h c

  covered_on : (k : List Call) (now : State) → NoneOf (ClearsComposite r f) (events now k) → Covered s r f n now → Covered s r f n (after now k)
  covered_on [] now h c = c
  covered_on (x ∷ xs) now h c = covered_on xs (next now x) h.1 (covered_next now x h.0 c)

-- ---- a page

ids_read : (n : ℕ) (es : List (ControllerValues × RowValues)) → All Fits es → All (λ e. e.0.id < n) es → All (λ e. id_in (bytes_of e) < n) es
ids_read n [] a b = tt
ids_read n (e ∷ es) a b = (let i = id_read e a.0 in omega (arith, b.0), ids_read n es a.1 b.1)

-- no controller with an ID below m lies beyond the page
Reaches : (s : State) (m : ℕ) {r start : ℕ} {e : Event} → Page r start e → Type 0
Reaches s m p =
    (x : ControllerValues) → Enrolled x s.drive.register.controllers → p.poll.maxrent + 1 ≤ entry_count p.nmresp
    → ((i : ℕ) → i < entry_count p.nmresp → id_in (entry_at p.payload i) < x.id) → x.id < m → ⊥

module _ (s : State) (asc : Ascends 0 s.drive.register.controllers) (t : List Event) (now : State) (ι : Invariant s t now) (r f n m : ℕ) (small : f < 16)
    (covered : Covered s r f n now) (c : Call) (p : Page r n (event now c)) (reaches : Reaches s m p) where
  row_paged : (composite : ℕ) (es : List (ControllerValues × RowValues)) → All Fits es → length es * 2 ^ 16 ≡ p.nmresp → entries es ≡ p.payload
      → (x d : ControllerValues) (w : RowValues)
      → PagedRow (λ x d w. RowInvariant s t r x d w × RowCovered f n composite x d w) (qualifies p.poll) 0 (p.poll.maxrent + 1) es x d w
      → RowCovered f m composite x d w
  unfolding Reaches
  row_paged composite es fits nm b x d w φ l k =
      let fact = φ.held.0 in
      let same = fact.same_id in
      let from = p.from in
      ⊎_elim
      (λ (z : w ≡ clear_row). absurd (both_ways _ (ap (λ (v : RowValues). bit v.changed f) z ∙ bit_zero f) k))
      (λ z.
      let k' : bit φ.was.changed f ≡ true = ap (λ (v : RowValues). bit v.changed f) (sym z.0) ∙ k in
      ⊎_elim
      (λ h. ⊎_elim
      (λ (i : x.id < n). φ.held.1 i k')
      (λ (i : n ≤ x.id).
      let none = fact.selectable.none_alone (unqualified p.poll p.all_types p.all_selected d φ.was (omega arith) h) in
      absurd (both_ways _ (ap (λ (v : ℕ). bit v f) none ∙ bit_zero f) k'))
      (cases_lt x.id n))
      (λ h. absurd (reaches x fact.enrolled (omega (arith, h.0))
      (λ i j. subst (λ (v : List ℕ). id_in (entry_at v i) < x.id) b
      (subst (λ (v : ℕ). id_in (entry_at (entries es) i) < v) same (entry_all (λ v. id_in v < d.id) es (ids_read d.id es fits h.1) i (omega arith)))) l))
      z.1)
      φ.way

  covered_by_page : Covered s r f m (next now c)
  unfolding Covered
  covered_by_page =
      let q = p.poll in
      let u = success now c r (controller_poll q) p.nmresp p.payload p.succeeds in
      let x = u.who in
      let cs = now.drive.register.controllers in
      let es = chosen (qualifies q) (q.maxrent + 1) cs x.rows in
      let ws = cleared (qualifies q) (q.maxrent + 1) cs x.rows in
      let left : (answered now.drive x (controller_poll q)).responder ≡ with_rows x ws = cond-true q.clear_changed_flags _ _ p.clearing in
      let facts = ι.rows_hold r x u.there in
      let l = parallel_map (row_paged x.composite es (chosen_fits s t r (qualifies q) (q.maxrent + 1) facts) u.nmresp_is u.payload_is)
      (parallel_paged (qualifies q) (λ a d w φ. φ.0.same_id) (q.maxrent + 1) 0 asc (parallel_both facts (covered x u.there))) in
      subst (λ (z : State). (y : Responder) → responder_at z r ≡ Some y → Parallel (RowCovered f m y.composite) s.drive.register.controllers z.drive.register.controllers y.rows)
      (sym (u.leaves ∙ ap (λ (a : Responder). with_responders now (at_place now.responders r (λ _. a))) left))
      (λ y k. subst (λ (a : Responder). Parallel (RowCovered f m a.composite) s.drive.register.controllers cs a.rows) (changed_alone now.responders r (λ _. with_rows x ws) x y u.there k) l)

-- ---- pages to the end

-- the Responders stay as many
same_count_unless : (o : Result (Unit {0}) Refusal) (before after : State) → count_of_responders after ≡ count_of_responders before
    → count_of_responders (unless_refused o before after) ≡ count_of_responders before
same_count_unless (Ok done) before after e = e
same_count_unless (Err x) before after e = refl

same_count_outcome : (o : Outcome) (now : State) (i : ℕ) → count_of_responders (outcome_state o now i) ≡ count_of_responders now
same_count_outcome (refuse x) now i = refl
same_count_outcome (grant out y) now i = length_changed (λ _. y) now.responders i

same_count : (now : State) (c : Call) → count_of_responders (next now c) ≡ count_of_responders now
same_count now (report rows id p) =
    same_count_unless (report_answer now.drive (count_of_responders now) rows id p) now (reported id p now) (length-map now.responders _)
same_count now (set_link ports id up) = same_count_unless (link_answer now.drive ports id) now (with_drive now (linked id up now.drive)) refl
same_count now (set_status status) = refl
same_count now (request i k rows ports bytes space) =
    same_count_outcome (request_outcome now.drive (count_of_responders now) (responder_at now i) i k rows ports bytes space) now i
same_count now (reset i rows) =
    same_count_unless (reset_answer now.drive (count_of_responders now) (responder_at now i) i rows) now
    (with_responders now (at_place now.responders i reset_responder)) (length_changed reset_responder now.responders i)

same_count_after : (k : List Call) (now : State) → count_of_responders (after now k) ≡ count_of_responders now
same_count_after [] now = refl
same_count_after (c ∷ cs) now = same_count_after cs (next now c) ∙ same_count now c

end_reaches : (s : State) {r start : ℕ} {e : Event} (p : Page r start e) → IsEnd s p → Reaches s (2 ^ 16) p
unfolding Reaches
end_reaches s p (inl h) x i full early l = omega arith
end_reaches s p (inr h) x i full early l =
    let a = early h.1.0 (let k = h.1.1 in omega arith) in let b = h.1.2 in let c = h.2 x i in omega arith

last_reaches : (s : State) {r start : ℕ} {e : Event} (p : Page r start e) (id : ℕ) → LastIs p id → Reaches s (id + 1) p
unfolding Reaches
last_reaches s p id h x i full early m = let a = early h.0 (let k = h.1 in omega arith) in let b = h.2 in omega arith

-- the first event of a walk
data First (s : State) (r start : ℕ) (e : Event) (t : List Event) : Type 0 where
  is_last : (p : Page r start e) → IsEnd s p → First s r start e t
  is_page : (p : Page r start e) (id : ℕ) → LastIs p id → Walks s r (id + 1) t → First s r start e t
  is_other : Walks s r start t → First s r start e t

first : {s : State} {r start : ℕ} {e : Event} {t : List Event} → Walks s r start (e ∷ t) → First s r start e t
first (last_page p h) = is_last p h
first (next_page {id = id} p h q) = is_page p id h q
first (other_event q) = is_other q

module _ (s : State) (asc : Ascends 0 s.drive.register.controllers) (r f : ℕ) (small : f < 16) where
  abbrev Done : State → Type 0
  Done z = Covered s r f (2 ^ 16) z × (r < count_of_responders z)

  walked : (k : List Call) (n : ℕ) (t : List Event) (now : State) → Invariant s t now → Covered s r f n now → NoneOf (ClearsComposite r f) (events now k)
      → Walks s r n (events now k) → Done (after now k)
  walked [] n t now ι covered h p = elim p [ ]
  walked (c ∷ cs) n t now ι covered h p =
      by_first (first p) (λ m covered' q. walked cs m (t ++ (event now c ∷ [])) (next now c) (invariant_next s asc t now ι c) covered' h.1 q)
    where
      there : Page r n (event now c) → r < count_of_responders now
      there p = let u = success now c r (controller_poll p.poll) p.nmresp p.payload p.succeeds in slice_get_within now.responders r u.who u.there

      by_first : First s r n (event now c) (events (next now c) cs)
          → ((m : ℕ) → Covered s r f m (next now c) → Walks s r m (events (next now c) cs) → Done (after (next now c) cs)) → Done (after (next now c) cs)
      by_first (is_last p e) rest = (
        covered_on s r f (2 ^ 16) cs (next now c) h.1 (covered_by_page s asc t now ι r f n (2 ^ 16) small covered c p (end_reaches s p e)),
        let k = there p in let q = same_count_after cs (next now c) ∙ same_count now c in omega arith,
      )
      by_first (is_page p id e q) rest = rest (id + 1) (covered_by_page s asc t now ι r f n (id + 1) small covered c p (last_reaches s p id e)) q
      by_first (is_other q) rest = rest n (covered_next s r f n now c h.0 covered) q

after_append : (h k : List Call) (s : State) → after s (h ++ k) ≡ after (after s h) k
after_append [] k s = refl
after_append (c ∷ cs) k s = after_append cs k (next s c)

-- the third field of the law
pub composite_complete : (s : State) → Opening s → (h k : List Call) (r f : ℕ) → f < 16
    → NoneOf (ClearsComposite r f) (events (after s h) k) → Walks s r 0 (events (after s h) k)
    → (id : ℕ) → StandsChanged s (events s (h ++ k)) r id f
    → CompositeSet (after s (h ++ k)) r f
    × ((c : Call) (clear : Bool) (nmresp : ℕ) (payload : List ℕ)
    → Succeeds r (subsystem_poll clear) nmresp payload (event (after s (h ++ k)) c) → bit (word_at payload 4) f ≡ true)
unfolding Covered
composite_complete s o h k r f l z p id st =
    let ι = invariant_after s o h in
    let done = walked s o.ascending r f l k 0 (events s h) (after s h) ι (λ y e. parallel_map (λ a b w φ i j. absurd (omega arith)) (ι.rows_hold r y e)) z p in
    let end = after s (h ++ k) in
    let same = after_append h k s in
    let ι' = invariant_after s o (h ++ k) in
    let own : (y : Responder) × (responder_at end r ≡ Some y) =
    ⊎_elim (λ u. (u.0, u.2)) (λ u. let d = done.1 in let q = ap count_of_responders same in absurd (omega (arith, u.0))) (slice_get_cases end.responders r).1 in
    let y = own.0 in
    let covered : Parallel (RowCovered f (2 ^ 16) y.composite) s.drive.register.controllers end.drive.register.controllers y.rows =
    subst (λ (v : State). Covered s r f (2 ^ 16) v) (sym same) done.0 y own.1 in
    let change = st.happened in
    let found = parallel_find change.0 change.1 (parallel_both (ι'.rows_hold r y own.1) covered) in
    let fact = found.2.0 in
    let set = (fact.flags_stand f l).1 (subst (λ (v : ℕ). StandsChanged s (events s (h ++ k)) r v f) (sym change.2) st) in
    let b : bit y.composite f ≡ true = found.2.1 fact.id_fits set in (
      subst (λ (v : Option Responder). HasComposite v f) (sym own.1) b,
      (λ c clear nmresp payload q.
          let u = composite_shown end c r clear nmresp payload q (ι'.composite_fits r) in
          let which : u.0 ≡ y = let i = u.1 in let j = own.1 in cc in
          ap (λ (v : ℕ). bit v f) (u.2 ∙ ap (λ (v : Responder). v.composite) which) ∙ b),
    )
