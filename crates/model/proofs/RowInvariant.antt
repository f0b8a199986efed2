-- A row has exactly the flags of the fields that stand changed for its Responder, and keeps to that at every event.
use Rattle.std.proofs.Common.{◌≡◌, ℕ, ◌^◌, ◌<◌, Bool, true, false, cond, eqb, ◌↔◌, List, [], ◌∷◌, ◌++◌, None, Option, sym, refl, ap, ◌∙◌, subst, ⊎_elim}
use Rattle.std.proofs.lemmas.Bool.{both_ways, cond-true, cond-false, eqb-true, eqb-false, eq-eqb, ne_eqb, or_cases, or_left, or_right}
use Rattle.health.specs.Words.{bit}
use Rattle.health.specs.Status.{events_in}
use Rattle.health.specs.Values.{HealthValues, reported_health}
use Rattle.health.specs.Rows.{RowValues, clear_row, gaining}
use Rattle.health.specs.declared.report.Report.{Report}
use Rattle.health_rules.specs.FlagRule.{gained}
use Rattle.register.specs.Controllers.{ControllerValues, with_health}
use Rattle.model.specs.State.{State}
use Rattle.model.specs.Reports.{renewed, marked_row}
use Rattle.model.specs.Histories.{Event, Accepted, accepted_report, health_by, last_accepted, Enrolled, Gains, Changes, EndsStanding, StandsChanged}
use Rattle.model.proofs.Bits.{bit-bit_or, bit_zero}
use Rattle.model.proofs.SelectableFlags.{Selectable, gained_selectable, zero_selectable, or_selectable}
use Rattle.model.proofs.Controllers.{Ascends, same_by_id}
use Rattle.model.proofs.Events.{reporting, reporting_asks_nothing, ends_nothing}
use Rattle.model.proofs.Standing.{stands_by_change, stands_on, stood_or_changed, last_accepted_more}

-- the controller x at opening, the same controller c now, and r's row w of it, after the events t
pub record RowInvariant (s : State) (t : List Event) (r : ℕ) (x c : ControllerValues) (w : RowValues) : Type 0 where
  pub same_id : c.id ≡ x.id
  pub enrolled : Enrolled x s.drive.register.controllers
  pub id_fits : x.id < 2 ^ 16
  pub health_is : c.health ≡ last_accepted x.id x.health t
  pub selectable : Selectable w.changed
  pub flags_stand : (f : ℕ) → f < 16 → (bit w.changed f ≡ true) ↔ StandsChanged s t r x.id f

-- a clear row has no flag
no_flag : (f : ℕ) → bit clear_row.changed f ≡ true → ⊥
no_flag f e = both_ways _ (bit_zero f) e

-- an event that is no accepted report
module _ (s : State) (t : List Event) (e : Event) (r : ℕ) (x c : ControllerValues) (w : RowValues) (φ : RowInvariant s t r x c w)
    (no_report : accepted_report e ≡ None) where
  changes_nothing : (f : ℕ) → Changes s x.id f t e → ⊥
  changes_nothing f h = subst (λ (o : Option Accepted). Gains x.id f (last_accepted x.id h.0.health t) o) no_report h.3

  same_health : c.health ≡ last_accepted x.id x.health (t ++ (e ∷ []))
  same_health =
      φ.health_is ∙ sym (last_accepted_more x.id x.health t e ∙ ap (health_by x.id (last_accepted x.id x.health t)) no_report)

  pub row_kept : (EndsStanding r x.id e → ⊥) → RowInvariant s (t ++ (e ∷ [])) r x c w
  row_kept h = record {
    same_id = φ.same_id;
    enrolled = φ.enrolled;
    id_fits = φ.id_fits;
    health_is = same_health;
    selectable = φ.selectable;
    flags_stand = λ f l. (
      (λ b. stands_on s t e r x.id f h ((φ.flags_stand f l).0 b)),
      (λ b. ⊎_elim (λ k. absurd (changes_nothing f k)) (λ k. (φ.flags_stand f l).1 k.1) (stood_or_changed s t e r x.id f b)),
    );
  }

  pub row_cleared : EndsStanding r x.id e → RowInvariant s (t ++ (e ∷ [])) r x c clear_row
  row_cleared h = record {
    same_id = φ.same_id;
    enrolled = φ.enrolled;
    id_fits = φ.id_fits;
    health_is = same_health;
    selectable = zero_selectable;
    flags_stand = λ f l. (
      (λ b. absurd (no_flag f b)),
      (λ b. ⊎_elim (λ k. absurd (changes_nothing f k)) (λ k. absurd (k.0 h)) (stood_or_changed s t e r x.id f b)),
    );
  }

-- an accepted report
module _ (s : State) (asc : Ascends 0 s.drive.register.controllers) (t : List Event) (r rows id : ℕ) (p : Report) (x c : ControllerValues) (w : RowValues)
    (φ : RowInvariant s t r x c w) where
  abbrev e : Event
  e = reporting rows id p

  -- what the report changes of this controller is what it gains
  change_gained : (f : ℕ) → Changes s x.id f t e → (id ≡ x.id) × (bit (gained c.health p) f ≡ true)
  change_gained f h =
      let u = same_by_id h.0 x 0 s.drive.register.controllers asc h.1 φ.enrolled h.2 in (
        h.3.0,
        ap (λ (v : HealthValues). bit (gained v p) f) (φ.health_is ∙ ap (λ (v : ControllerValues). last_accepted x.id v.health t) (sym u)) ∙ h.3.1,
      )

  row_of_it : c.id ≡ id
      → RowInvariant s (t ++ (e ∷ [])) r x (with_health (reported_health p) c) (gaining (gained c.health p) (events_in p.status) w)
  row_of_it q = record {
    same_id = φ.same_id;
    enrolled = φ.enrolled;
    id_fits = φ.id_fits;
    health_is = sym (last_accepted_more x.id x.health t e ∙ cond-true (eqb id x.id) _ _ (eq-eqb _ _ (sym q ∙ φ.same_id)));
    selectable = or_selectable w.changed (gained c.health p) φ.selectable (gained_selectable c.health p);
    flags_stand = λ f l.
        let old = bit w.changed f in
        let new = bit (gained c.health p) f in
        let both = bit-bit_or w.changed (gained c.health p) f in (
          (λ b. ⊎_elim
              (λ o. stands_on s t e r x.id f (ends_nothing (reporting_asks_nothing rows id p) r x.id) ((φ.flags_stand f l).0 o))
              (λ g. stands_by_change s t e r x.id f (x, φ.enrolled, refl, (sym q ∙ φ.same_id, ap (λ (v : HealthValues). bit (gained v p) f) (sym φ.health_is) ∙ g)))
              (or_cases old new (sym both ∙ b))),
          (λ b. both ∙ ⊎_elim (λ k. or_right old new (change_gained f k).1) (λ k. or_left old new ((φ.flags_stand f l).1 k.1)) (stood_or_changed s t e r x.id f b)),
        );
  }

  row_of_another : (c.id ≡ id → ⊥) → RowInvariant s (t ++ (e ∷ [])) r x c w
  row_of_another q = record {
    same_id = φ.same_id;
    enrolled = φ.enrolled;
    id_fits = φ.id_fits;
    health_is =
        φ.health_is ∙ sym (last_accepted_more x.id x.health t e ∙ cond-false (eqb id x.id) _ _ (ne_eqb _ _ (λ z. q (φ.same_id ∙ sym z))));
    selectable = φ.selectable;
    flags_stand = λ f l. (
      (λ b. stands_on s t e r x.id f (ends_nothing (reporting_asks_nothing rows id p) r x.id) ((φ.flags_stand f l).0 b)),
      (λ b. ⊎_elim (λ k. absurd (q (φ.same_id ∙ sym (change_gained f k).0))) (λ k. (φ.flags_stand f l).1 k.1) (stood_or_changed s t e r x.id f b)),
    );
  }

  pub row_reported : RowInvariant s (t ++ (e ∷ [])) r x (renewed id p c) (marked_row id p c w)
  row_reported = by_test (eqb c.id id) refl
    where
      by_test : (b : Bool) → eqb c.id id ≡ b
          → RowInvariant s (t ++ (e ∷ [])) r x (cond b (with_health (reported_health p) c) c) (cond b (gaining (gained c.health p) (events_in p.status) w) w)
      by_test true q = row_of_it (eqb-true _ _ q)
      by_test false q = row_of_another (eqb-false _ _ q)
