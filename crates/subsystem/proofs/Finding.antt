-- Controllers by their ID and by their place.
use Rattle.std.proofs.Common.{◌≡◌, ℕ, zero, suc, ◌+◌, ◌-◌, ◌^◌, ◌<◌, ◌≤◌, true, false, eqb, List, [], ◌∷◌, map, length, get_or, set, Some, None, Option, sym, refl, ap, ◌∙◌, subst, ap₂, ⊎_elim, arith}
use lib.Bits.{bit_or, or_zero_l, or_zero_r}
use Rattle.std.specs.List.{slice_get}
use Rattle.std.specs.Option.{option_map}
use Rattle.std.proofs.lemmas.Option.{none-some}
use Rattle.std.proofs.lemmas.Bool.{lt-ltb, eq-eqb, ne_eqb, cases_lt, or_right}
use Rattle.health.specs.Values.{reported_health}
use Rattle.health.specs.Words.{without}
use Rattle.health.specs.Rows.{RowValues, clear_row, gaining}
use Rattle.health.specs.Status.{events_in}
use Rattle.health.specs.declared.report.Report.{Report}
use Rattle.health_rules.specs.FlagRule.{gained}
use Rattle.table.proofs.Places.{not_below}
use Rattle.register.specs.declared.controller.Controller.{Controller}
use Rattle.register.specs.Controllers.{ControllerValues, controller_of, first_from, present, written}
use Rattle.polls.proofs.Steps.{nth_within}
use Rattle.model.proofs.Controllers.{Ascends}
use Rattle.model.specs.Reports.{renewed, marked_row, risen, each_row, union, marked}
use Rattle.model.specs.Requests.{largest_id}
use Rattle.model.specs.State as model
use Rattle.subsystem.specs.Marks.{marked_at}

-- a controller of a list has its ID
pub present_at : (id : ℕ) (cs : List ControllerValues) (k : ℕ) (c : ControllerValues) → slice_get cs k ≡ Some c → c.id ≡ id → present id cs ≡ true
present_at id [] k c e h = absurd (none-some c e)
present_at id (x ∷ cs) zero c e h = let s : x ≡ c = cc in simp (eq-eqb x.id id (ap (λ v. v.id) s ∙ h))
present_at id (x ∷ cs) (suc k) c e h = or_right (eqb x.id id) (present id cs) (present_at id cs k c e h)

-- no controller stands at or above the ID
pub absent_past : (id : ℕ) (cs : List ControllerValues) → slice_get cs (first_from id cs) ≡ None → present id cs ≡ false
absent_past id [] e = refl
absent_past id (x ∷ cs) e =
    ⊎_elim
    (λ (lt : x.id < id). simp (ne_eqb x.id id (λ q. omega arith)) (absent_past id cs (simp (lt-ltb x.id id lt) at e)))
    (λ (ge : id ≤ x.id). let q : Some x ≡ None = simp (not_below x.id id ge) at e in absurd (none-some x (sym q)))
    (cases_lt x.id id)

-- IDs below the first are absent
absent_below : (id m : ℕ) (cs : List ControllerValues) → Ascends m cs → id < m → present id cs ≡ false
absent_below id m [] a h = refl
absent_below id m (c ∷ cs) a h =
    let above = a.0 in simp (ne_eqb c.id id (λ e. omega arith)) (absent_below id (c.id + 1) cs a.2 (omega arith))

-- the first controller at or above the ID has another
pub absent_there : (id m : ℕ) (cs : List ControllerValues) (c : ControllerValues) → Ascends m cs → slice_get cs (first_from id cs) ≡ Some c
    → (c.id ≡ id → ⊥) → present id cs ≡ false
absent_there id m [] c a e h = refl
absent_there id m (x ∷ cs) c a e h =
    ⊎_elim
    (λ (lt : x.id < id). simp (ne_eqb x.id id (λ q. omega arith)) (absent_there id (x.id + 1) cs c a.2 (simp (lt-ltb x.id id lt) at e) h))
    (λ (ge : id ≤ x.id).
    let q : Some x ≡ Some c = simp (not_below x.id id ge) at e in
    let s : x ≡ c = cc in
    let ne : x.id ≡ id → ⊥ = λ w. h (ap (λ v. v.id) (sym s) ∙ w) in
    simp (ne_eqb x.id id ne) (absent_below id (x.id + 1) cs a.2 (omega arith)))
    (cases_lt x.id id)

-- IDs have 16 bits, so there are at most 65,536 controllers
pub few_controllers : (m : ℕ) (cs : List ControllerValues) → Ascends m cs → m ≤ 2 ^ 16 → m + length cs ≤ 2 ^ 16
few_controllers m [] a h = omega arith
few_controllers m (c ∷ cs) a h =
    let above = a.0 in
    let small = a.1 in
    let rest = few_controllers (c.id + 1) cs a.2 (omega arith) in
    omega arith

-- without a last controller there is none
pub no_controller : {X : Type 0} (xs : List X) → slice_get xs (length xs - 1) ≡ None → xs ≡ []
no_controller [] e = refl
no_controller {X} (x ∷ xs) e = absurd (nth_within (x ∷ xs) (length {A = X} (x ∷ xs) - 1) (omega arith) e)

-- the largest ID is that of the last controller
pub largest_is_last : (m : ℕ) (cs : List ControllerValues) (c : ControllerValues) → Ascends m cs → slice_get cs (length cs - 1) ≡ Some c
    → (m ≤ largest_id cs) × (largest_id cs ≡ c.id)
largest_is_last m [] c a e = absurd (none-some c e)
largest_is_last m (x ∷ []) c a e =
    let s : x ≡ c = cc in
    let id : x.id ≡ c.id = ap (λ v. v.id) s in
    let above = a.0 in
    (omega arith, omega arith)
largest_is_last m (x ∷ (y ∷ cs)) c a e =
    let above = a.0 in
    let same : length {A = ControllerValues} (x ∷ (y ∷ cs)) - 1 ≡ suc (length {A = ControllerValues} (y ∷ cs) - 1) = omega arith in
    let rest = largest_is_last (x.id + 1) (y ∷ cs) c a.2 (subst (λ (k : ℕ). slice_get {X = ControllerValues} (x ∷ (y ∷ cs)) k ≡ Some c) same e) in
    (omega (arith, rest.0), omega (arith, rest.0, rest.1))

-- what is read of the last controller, 0 where there is none
pub largest_is : (cs : List ControllerValues) (o : Option Controller) (n : ℕ) → Ascends 0 cs → option_map controller_of o ≡ slice_get cs (length cs - 1)
    → (o ≡ None → n ≡ 0) → ((c : Controller) → o ≡ Some c → n ≡ c.id) → n ≡ largest_id cs
largest_is cs None n a e none some = none refl ∙ sym (ap largest_id (no_controller cs (sym e)))
largest_is cs (Some c) n a e none some = some c refl ∙ sym (largest_is_last 0 cs (controller_of c) a (sym e)).1

-- ---- a report of the controller at a place

module _ (id : ℕ) (p : Report) where
  -- controllers above the ID are not touched
  others_renewed : (m : ℕ) (cs : List ControllerValues) → Ascends m cs → id < m → map (renewed id p) cs ≡ cs
  others_renewed m [] a h = refl
  others_renewed m (c ∷ cs) a h =
      let above = a.0 in
      ap₂ {C = List ControllerValues} (λ x xs. x ∷ xs) (simp (ne_eqb c.id id (λ q. omega arith))) (others_renewed (c.id + 1) cs a.2 (omega arith))

  others_marked : (m : ℕ) (cs : List ControllerValues) (ws : List RowValues) → Ascends m cs → id < m
      → (each_row (marked_row id p) cs ws ≡ ws) × (union (risen id p) cs ws ≡ 0)
  others_marked m [] ws a h = (refl, refl)
  others_marked m (c ∷ cs) [] a h = (refl, refl)
  others_marked m (c ∷ cs) (w ∷ ws) a h =
      let above = a.0 in
      let rest = others_marked (c.id + 1) cs ws a.2 (omega arith) in
      let other = ne_eqb c.id id (λ q. omega arith) in
      (simp other (ap {B = List RowValues} (λ v. w ∷ v) rest.0), simp other (ap (bit_or 0) rest.1))

  -- the controller with the ID stands at a place
  module _ (c : ControllerValues) (has_it : c.id ≡ id) where
    above_first : (m : ℕ) (cs : List ControllerValues) (k : ℕ) → Ascends m cs → slice_get cs k ≡ Some c → m ≤ c.id
    above_first m [] k a e = absurd (none-some c e)
    above_first m (x ∷ cs) zero a e = let s : x ≡ c = cc in subst (λ (v : ControllerValues). m ≤ v.id) s a.0
    above_first m (x ∷ cs) (suc k) a e = let above = a.0 in let rest = above_first (x.id + 1) cs k a.2 e in omega arith

    this_one : (x : ControllerValues) → x ≡ c → eqb x.id id ≡ true
    this_one x s = eq-eqb x.id id (ap (λ v. v.id) s ∙ has_it)

    not_this_one : (m : ℕ) (x : ControllerValues) (cs : List ControllerValues) (k : ℕ) → Ascends m (x ∷ cs) → slice_get cs k ≡ Some c → eqb x.id id ≡ false
    not_this_one m x cs k a e = let rest = above_first (x.id + 1) cs k a.2 e in ne_eqb x.id id (λ q. omega (arith, has_it))

    pub renewed_is_written : (m : ℕ) (cs : List ControllerValues) (k : ℕ) → Ascends m cs → slice_get cs k ≡ Some c
        → map (renewed id p) cs ≡ written k (reported_health p) cs
    renewed_is_written m [] k a e = refl
    renewed_is_written m (x ∷ cs) zero a e =
        let s : x ≡ c = cc in
        let b = this_one x s in
        let low = ap (λ v. v.id) s ∙ has_it in
        ap₂ {C = List ControllerValues} (λ y ys. y ∷ ys) (simp b) (others_renewed (x.id + 1) cs a.2 (omega arith))
    renewed_is_written m (x ∷ cs) (suc k) a e =
        ap₂ {C = List ControllerValues} (λ y ys. y ∷ ys) (simp (not_this_one m x cs k a e)) (renewed_is_written (x.id + 1) cs k a.2 e)

    -- its row, and what rises, are those at the place
    pub marked_by_place : (m : ℕ) (cs : List ControllerValues) (ws : List RowValues) (k : ℕ) → Ascends m cs → slice_get cs k ≡ Some c → k < length ws
        → (each_row (marked_row id p) cs ws ≡ set ws k (gaining (gained c.health p) (events_in p.status) (get_or ws k clear_row)))
        × (union (risen id p) cs ws ≡ without (gained c.health p) (get_or ws k clear_row).changed)
    marked_by_place m [] ws k a e l = absurd (none-some c e)
    marked_by_place m (x ∷ cs) [] k a e l = absurd (omega arith)
    marked_by_place m (x ∷ cs) (w ∷ ws) zero a e l =
        let s : x ≡ c = cc in
        let b = this_one x s in
        let low = ap (λ v. v.id) s ∙ has_it in
        let rest = others_marked (x.id + 1) cs ws a.2 (omega arith) in (
          ap₂ {C = List RowValues} (λ v vs. v ∷ vs) (simp b (ap (λ y. gaining (gained y.health p) (events_in p.status) w) s)) rest.0,
          ap₂ bit_or (simp b (ap (λ y. without (gained y.health p) w.changed) s)) rest.1 ∙ or_zero_r _,
        )
    marked_by_place m (x ∷ cs) (w ∷ ws) (suc k) a e l =
        let b = not_this_one m x cs k a e in
        let rest = marked_by_place (x.id + 1) cs ws k a.2 e (omega arith) in (
          ap₂ {C = List RowValues} (λ v vs. v ∷ vs) (simp b) rest.0,
          simp b (ap (bit_or 0) rest.1) ∙ or_zero_l _,
        )

    -- so a report marks a Responder that has a row for each controller as its row at the place is marked
    pub marked_is_at : (cs : List ControllerValues) (k : ℕ) (x : model.Responder) → Ascends 0 cs → slice_get cs k ≡ Some c → k < length x.rows
        → marked_at k (gained c.health p) (events_in p.status) x ≡ marked id p cs x
    marked_is_at cs k x a e l =
        let both = marked_by_place 0 cs x.rows k a e l in
        λ i. record { kind = x.kind; composite = bit_or x.composite (sym both.1 i); rows = sym both.0 i }
