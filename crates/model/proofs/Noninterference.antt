-- The answers to r and to the drive do not depend on what other Responders are asked, nor on their resets.
use Rattle.std.proofs.Common.{◌≡◌, ℕ, Bool, true, false, cond, ◌≢◌, List, [], ◌∷◌, map, Ok, Err, Result, sym, refl, ap, ◌∙◌, subst, ap₂}
use Rattle.std.specs.Option.{option_map}
use Rattle.std.specs.List.{slice_get}
use Rattle.std.proofs.lemmas.List.{length-map}
use Rattle.std.proofs.lemmas.Option.{slice_get-map}
use Rattle.std.proofs.lemmas.Bool.{eqb-true, eqb-false, true≢false}
use Rattle.health.specs.declared.report.Report.{Report}
use Rattle.wire.specs.Refusals.{Refusal}
use Rattle.model.specs.State.{Responder, Drive, State, with_responders, with_drive}
use Rattle.model.specs.Reports.{report_answer, renewed, marked, with_register_of, reported}
use Rattle.model.specs.Drives.{link_answer, linked, with_status}
use Rattle.model.specs.Requests.{Outcome, refuse, grant}
use Rattle.model.specs.Calls.{Call, report, set_link, set_status, request, reset, Answer, responder_at, count_of_responders, request_outcome, reset_answer, reset_responder, at_place, judged, unless_refused, outcome_answer, outcome_state, answer, next, answers}
use Rattle.model.specs.Histories.{events, concerns, without_others, answers_without_others}
use Rattle.model.proofs.Responders.{nth_changed, nth_other, length_changed}

-- all that the calls that concern r depend on is the same in two states
pub record Alike (r : ℕ) (s t : State) : Type 0 where
  pub drives : s.drive ≡ t.drive
  pub counts : count_of_responders s ≡ count_of_responders t
  pub own : responder_at s r ≡ responder_at t r

itself : (r : ℕ) (s : State) → Alike r s s
itself r s = record { drives = refl; counts = refl; own = refl }

unless_alike : (r : ℕ) (o o' : Result (Unit {0}) Refusal) {s s' t t' : State} → o ≡ o' → Alike r s s' → Alike r t t'
    → Alike r (unless_refused o s t) (unless_refused o' s' t')
unless_alike r (Ok granted) o' {s' = s'} {t} {t'} e a b = subst (λ (v : Result (Unit {0}) Refusal). Alike r t (unless_refused v s' t')) e b
unless_alike r (Err f) o' {s} {s'} {t' = t'} e a b = subst (λ (v : Result (Unit {0}) Refusal). Alike r s (unless_refused v s' t')) e a

module _ (r : ℕ) (s t : State) (a : Alike r s t) where
  own_at : (n : ℕ) → n ≡ r → responder_at s n ≡ responder_at t n
  own_at n e = subst (λ (m : ℕ). responder_at s m ≡ responder_at t m) (sym e) a.own

  reported_alike : (id : ℕ) (p : Report) → Alike r (reported id p s) (reported id p t)
  reported_alike id p = record {
    drives = λ i. with_register_of (a.drives i) (map (renewed id p) (a.drives i).register.controllers);
    counts = length-map s.responders _ ∙ a.counts ∙ sym (length-map t.responders _);
    own = slice_get-map _ s.responders r ∙ (λ i. option_map (marked id p (a.drives i).register.controllers) (a.own i)) ∙ sym (slice_get-map _ t.responders r);
  }

  driven_alike : (f : Drive → Drive) → Alike r (with_drive s (f s.drive)) (with_drive t (f t.drive))
  driven_alike f = record { drives = ap f a.drives; counts = a.counts; own = a.own }

  changed_alike : (n : ℕ) → n ≡ r → (f : Responder → Responder)
      → Alike r (with_responders s (at_place s.responders n f)) (with_responders t (at_place t.responders n f))
  changed_alike n e f = record {
    drives = a.drives;
    counts = length_changed f s.responders n ∙ a.counts ∙ sym (length_changed f t.responders n);
    own =
        subst (λ (m : ℕ). slice_get (at_place s.responders m f) r ≡ slice_get (at_place t.responders m f) r) (sym e)
        (nth_changed f s.responders r ∙ ap (option_map f) a.own ∙ sym (nth_changed f t.responders r));
  }

  other_changed : (n : ℕ) → n ≢ r → (f : Responder → Responder) → Alike r (with_responders s (at_place s.responders n f)) t
  other_changed n e f = record {
    drives = a.drives;
    counts = length_changed f s.responders n ∙ a.counts;
    own = nth_other f s.responders n r e ∙ a.own;
  }

  outcome_alike : (n : ℕ) → n ≡ r → (o o' : Outcome) → o ≡ o' → Alike r (outcome_state o s n) (outcome_state o' t n)
  outcome_alike n e (refuse f) o' p = subst (λ (v : Outcome). Alike r s (outcome_state v t n)) p a
  outcome_alike n e (grant bytes x) o' p =
      subst (λ (v : Outcome). Alike r (with_responders s (at_place s.responders n (λ _. x))) (outcome_state v t n)) p (changed_alike n e (λ _. x))

  other_outcome : (n : ℕ) → n ≢ r → (o : Outcome) → Alike r (outcome_state o s n) t
  other_outcome n e (refuse f) = a
  other_outcome n e (grant bytes x) = other_changed n e (λ _. x)

  other_reset : (n : ℕ) → n ≢ r → (o : Result (Unit {0}) Refusal)
      → Alike r (unless_refused o s (with_responders s (at_place s.responders n reset_responder))) t
  other_reset n e (Ok granted) = other_changed n e reset_responder
  other_reset n e (Err f) = a

  same_answer : (c : Call) → concerns r c ≡ true → answer s c ≡ answer t c
  same_answer (report rows id p) e = λ i. judged (report_answer (a.drives i) (a.counts i) rows id p)
  same_answer (set_link ports id up) e = λ i. judged (link_answer (a.drives i) ports id)
  same_answer (set_status status) e = refl
  same_answer (request n k rows ports bytes space) e =
      let o = own_at n (eqb-true n r e) in
      λ i. outcome_answer (request_outcome (a.drives i) (a.counts i) (o i) n k rows ports bytes space)
  same_answer (reset n rows) e =
      let o = own_at n (eqb-true n r e) in λ i. judged (reset_answer (a.drives i) (a.counts i) (o i) n rows)

  stays_alike : (c : Call) → concerns r c ≡ true → Alike r (next s c) (next t c)
  stays_alike (report rows id p) e =
      unless_alike r _ _ (λ i. report_answer (a.drives i) (a.counts i) rows id p) a (reported_alike id p)
  stays_alike (set_link ports id up) e = unless_alike r _ _ (λ i. link_answer (a.drives i) ports id) a (driven_alike (linked id up))
  stays_alike (set_status status) e = driven_alike (with_status status)
  stays_alike (request n k rows ports bytes space) e =
      let m = eqb-true n r e in
      let o = own_at n m in
      outcome_alike n m _ _ (λ i. request_outcome (a.drives i) (a.counts i) (o i) n k rows ports bytes space)
  stays_alike (reset n rows) e =
      let m = eqb-true n r e in
      let o = own_at n m in
      unless_alike r _ _ (λ i. reset_answer (a.drives i) (a.counts i) (o i) n rows) a (changed_alike n m reset_responder)

  others_do_nothing : (c : Call) → concerns r c ≡ false → Alike r (next s c) t
  others_do_nothing (report rows id p) e = absurd (true≢false e)
  others_do_nothing (set_link ports id up) e = absurd (true≢false e)
  others_do_nothing (set_status status) e = absurd (true≢false e)
  others_do_nothing (request n k rows ports bytes space) e = other_outcome n (eqb-false n r e) _
  others_do_nothing (reset n rows) e = other_reset n (eqb-false n r e) _

-- what r and the drive are answered is what they are answered in a history of their own calls alone
pub answered_alone : (r : ℕ) (h : List Call) (s t : State) → Alike r s t → answers_without_others r (events s h) ≡ answers t (without_others r h)
answered_alone r [] s t a = refl
answered_alone r (c ∷ cs) s t a =
    go (concerns r c) refl (λ e. answered_alone r cs (next s c) (next t c) (stays_alike r s t a c e)) (λ e. answered_alone r cs (next s c) t (others_do_nothing r s t a c e))
  where
    go : (b : Bool) → concerns r c ≡ b
        → (concerns r c ≡ true → answers_without_others r (events (next s c) cs) ≡ answers (next t c) (without_others r cs))
        → (concerns r c ≡ false → answers_without_others r (events (next s c) cs) ≡ answers t (without_others r cs))
        → cond b (answer s c ∷ answers_without_others r (events (next s c) cs)) (answers_without_others r (events (next s c) cs))
        ≡ answers t (cond b (c ∷ without_others r cs) (without_others r cs))
    go true e k d = ap₂ {C = List Answer} (λ x xs. x ∷ xs) (same_answer r s t a c e) (k e)
    go false e k d = d e

-- the first field of the law
pub noninterference : (s : State) (r : ℕ) (h k : List Call) → without_others r h ≡ without_others r k
    → answers_without_others r (events s h) ≡ answers_without_others r (events s k)
noninterference s r h k e = answered_alone r h s s (itself r s) ∙ ap (answers s) e ∙ sym (answered_alone r k s s (itself r s))
