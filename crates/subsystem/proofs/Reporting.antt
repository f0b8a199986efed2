-- The cases of a report.
use Rattle.std.proofs.Common.{◌≡◌, ℕ, zero, suc, ◌*◌, ◌<◌, ◌≤◌, true, false, ltb, List, [], ◌∷◌, ◌++◌, map, length, take, drop, Some, Ok, Err, Result, sym, refl, ap, ◌∙◌, subst, ap₂, suc-mul, arith}
use Rattle.std.specs.List.{slice_get, refill}
use Rattle.std.proofs.lemmas.Option.{slice_get_within}
use Rattle.std.proofs.lemmas.List.{length-map, length-take-le, length-drop, take_at, map-append}
use Rattle.health.specs.Rows.{RowValues, row_of}
use Rattle.health.specs.Status.{events_in}
use Rattle.health.specs.Values.{HealthValues, reported_health, well_formed}
use Rattle.health.specs.declared.report.Report.{Report}
use Rattle.health.specs.declared.row.Row.{Row}
use Rattle.health_rules.specs.FlagRule.{gained}
use Rattle.wire.specs.Refusals.{Refusal, refuse_if}
use Rattle.register.specs.Controllers.{ControllerValues, present, written}
use Rattle.register.specs.Registers.{RegisterValues, after_write}
use Rattle.register.specs.declared.port.Port.{Port}
use Rattle.model.specs.State.{Drive, State, needed_rows}
use Rattle.model.specs.State as model
use Rattle.model.specs.ServiceRefusals.{memory_too_short, unknown_identifier}
use Rattle.model.specs.Reports.{report_answer, reported, marked, with_register_of}
use Rattle.model.specs.Calls.{report, judged, unless_refused, count_of_responders, step}
use Rattle.model.proofs.Controllers.{Ascends}
use Rattle.subsystem.specs.Responders.{ResponderValues, responder_of}
use Rattle.subsystem.specs.States.{with_its_rows, responders_with_rows, state_from, drive_of, responders_of, state_of}
use Rattle.subsystem.specs.Marks.{marked_at}
use Rattle.subsystem.specs.declared.responder.Responder.{Responder}
use Rattle.subsystem.specs.declared.service.Subsystem.{Subsystem}
use Rattle.subsystem.proofs.Checks.{test_refused}
use Rattle.subsystem.proofs.Finding.{renewed_is_written, marked_is_at}
use Rattle.subsystem.proofs.RowGroups.{length_responders, state_with_rest}

-- how many Responders are in use
pub in_use : (x : Subsystem) → length (responders_of x) ≡ length x.responders.items
in_use x = length-map x.responders.items responder_of

-- the Responders of the state of a subsystem
pub count_is : (x : Subsystem) (m : RegisterValues) (rows : List Row) (ports : List Port) → count_of_responders (state_of x m rows ports) ≡ length x.responders.items
count_is x m rows ports = length_responders (length m.controllers) (responders_of x) (map row_of rows) ∙ in_use x

-- what a report is answered, and the state after it, by the answer of its tests
pub report_taken : (s : State) (rows id : ℕ) (p : Report) (o : Result (Unit {0}) Refusal) → report_answer s.drive (count_of_responders s) rows id p ≡ o
    → record { answer = judged o; state = unless_refused o s (reported id p s) } ≡ step s (report rows id p)
report_taken s rows id p o e = sym (λ i. record { answer = judged (e i); state = unless_refused (e i) s (reported id p s) })

-- the tests
module _ (x : Subsystem) (m : RegisterValues) (rows lent : List Row) (ports : List Port) (id : ℕ) (p : Report) (ok : well_formed p ≡ true) where
  abbrev s : State
  s = state_of x m rows ports

  abbrev needed : ℕ
  needed = length x.responders.items * length m.controllers

  abbrev tested : Result (Unit {0}) Refusal
  tested = report_answer s.drive (count_of_responders s) (length lent) id p

  by_count : (o : Result (Unit {0}) Refusal) → report_answer s.drive (length x.responders.items) (length lent) id p ≡ o → tested ≡ o
  by_count o e = ap (λ n. report_answer s.drive n (length lent) id p) (count_is x m rows ports) ∙ e

  pub report_short : (f : Refusal) → ◌≡◌ {A = Result (Unit {0}) Refusal} (Err f) (refuse_if (ltb (length lent) needed) (memory_too_short needed) (Ok tt)) → tested ≡ Err f
  report_short f e = by_count (Err f) (simp ok (test_refused (ltb (length lent) needed) (memory_too_short needed) f _ e))

  module _ (room : ltb (length lent) needed ≡ false) where
    pub report_unknown : present id m.controllers ≡ false → tested ≡ Err (unknown_identifier id)
    report_unknown e = by_count (Err (unknown_identifier id)) (simp (ok, room, e))

    pub report_accepted : present id m.controllers ≡ true → tested ≡ Ok tt
    report_accepted e = by_count (Ok tt) (simp (ok, room, e))

-- ---- an accepted report

length_written : (k : ℕ) (h : HealthValues) (cs : List ControllerValues) → length (written k h cs) ≡ length cs
length_written k h [] = refl
length_written zero h (c ∷ cs) = refl
length_written (suc k) h (c ∷ cs) = ap suc (length_written k h cs)

-- two changes that agree on every Responder that has c rows
same_marks : (c : ℕ) (f g : model.Responder → model.Responder) → ((x : model.Responder) → length x.rows ≡ c → f x ≡ g x)
    → (hs : List ResponderValues) (ws : List RowValues) → length hs * c ≤ length ws → map f (responders_with_rows c hs ws) ≡ map g (responders_with_rows c hs ws)
same_marks c f g e [] ws l = refl
same_marks c f g e (h ∷ hs) ws l =
    let s = suc-mul (length hs) c in
    let d = length-drop c ws in
    ap₂ {C = List model.Responder} (λ x xs. x ∷ xs) (e (with_its_rows h (take c ws)) (length-take-le c ws (omega arith))) (same_marks c f g e hs (drop c ws) (omega arith))

-- from what the parts of the code promise
module _ (d : Drive) (hs hs' : List ResponderValues) (ws ws' rest : List RowValues) (id : ℕ) (p : Report) (k : ℕ) (c : ControllerValues) where
  abbrev cs : List ControllerValues
  cs = d.register.controllers

  abbrev after : Drive
  after = with_register_of d (written k (reported_health p) cs)

  pub report_done : Ascends 0 cs → slice_get cs k ≡ Some c → c.id ≡ id → k < length cs → length hs' ≡ length hs → needed_rows d (length hs) ≤ length ws → length ws' ≡ length ws
      → responders_with_rows (length cs) hs' ws' ≡ map (marked_at k (gained c.health p) (events_in p.status)) (responders_with_rows (length cs) hs ws)
      → drop (needed_rows d (length hs)) ws' ≡ drop (needed_rows d (length hs)) ws
      → state_from after hs' (ws' ++ rest) ≡ reported id p (state_from d hs (ws ++ rest))
  report_done a at_k has_id within counts room long marks spare =
      let same = length_written k (reported_health p) cs in
      let needed : needed_rows after (length hs') ≡ needed_rows d (length hs) = ap₂ (λ n l. n * l) counts same in
      let each = same_marks (length cs) (marked_at k (gained c.health p) (events_in p.status)) (marked id p cs)
      (λ x l. marked_is_at id p c has_id cs k x a at_k (omega arith)) hs ws room in
      let responders = ap (λ n. responders_with_rows n hs' ws') same ∙ marks ∙ each in
      let spares = ap (λ n. drop n ws') needed ∙ spare in
      state_with_rest after hs' ws' rest (subst (λ (n : ℕ). n ≤ length ws') (sym needed) (omega arith))
      ∙ (λ i. record { drive = with_register_of d (sym (renewed_is_written id p c has_id 0 cs k a at_k) i); responders = responders i; spare_rows = spares i ++ rest })
      ∙ ap (reported id p) (sym (state_with_rest d hs ws rest room))

-- ---- the same over the code's values

-- elements that were lent and given back
pub given_back : {X : Type 0} (xs ws : List X) → length ws ≡ length xs → refill (length xs) xs ws ≡ ws
given_back xs ws long = take_at ws (drop (length ws) xs) (length xs) long

module _ (x : Subsystem) (m : RegisterValues) (rows rest : List Row) (ports : List Port) (id : ℕ) (p : Report) where
  -- from what the calls below a report promise
  pub report_granted : (rows' : List Row) (lent part : List Responder) (m' : RegisterValues) (k n g e : ℕ) (c : ControllerValues)
      → Ascends 0 m.controllers → slice_get m.controllers k ≡ Some c → c.id ≡ id
      → n ≡ length m.controllers → g ≡ gained c.health p → e ≡ events_in p.status
      → lent ≡ x.responders.items → length part ≡ length lent → length rows' ≡ length rows
      → length x.responders.items * length m.controllers ≤ length rows
      → m' ≡ after_write k (reported_health p) m
      → responders_with_rows n (map responder_of part) (map row_of rows') ≡ map (marked_at k g e) (responders_with_rows n (map responder_of lent) (map row_of rows))
      → drop (length lent * n) (map row_of rows') ≡ drop (length lent * n) (map row_of rows)
      → state_from (drive_of x m' ports) (map responder_of part) (map row_of (rows' ++ rest)) ≡ reported id p (state_of x m (rows ++ rest) ports)
  report_granted rows' lent part m' k n g e c a at_k has_id en eg ee el ep er room em marks spare =
      let cs = m.controllers in
      let hs = responders_of x in
      let ws = map row_of rows in
      let count : length hs ≡ length x.responders.items = in_use x in
      let many : length lent ≡ length hs = ap length el ∙ sym (length-map x.responders.items responder_of) in
      let done = report_done (drive_of x m ports) hs (map responder_of part) ws (map row_of rows') (map row_of rest) id p k c a at_k has_id
      (slice_get_within cs k c at_k) (length-map part responder_of ∙ ep ∙ many)
      (subst (λ (v : ℕ). v * length cs ≤ length ws) (sym count) (simp length-map room)) (length-map rows' row_of ∙ er ∙ sym (length-map rows row_of))
      (ap (λ v. responders_with_rows v (map responder_of part) (map row_of rows')) (sym en) ∙ marks ∙ (λ i. map (marked_at k (eg i) (ee i)) (responders_with_rows (en i) (map responder_of (el i)) ws)))
      ((λ i. drop (sym many i * sym en i) (map row_of rows')) ∙ spare ∙ (λ i. drop (many i * en i) ws)) in
      ap₂ (λ v u. state_from (drive_of x v ports) (map responder_of part) u) em (map-append row_of rows' rest)
      ∙ done ∙ ap (λ u. reported id p (state_from (drive_of x m ports) hs u)) (sym (map-append row_of rows rest))
