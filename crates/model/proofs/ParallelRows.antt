-- The controllers at opening, the controllers now and a Responder's rows, side by side.
use Rattle.std.proofs.Common.{◌≡◌, ℕ, zero, suc, ◌+◌, ◌≤◌, Bool, true, false, cond, ◌↔◌, List, [], ◌∷◌, map, sym, ◌∙◌, subst, inl, inr, ⊎_elim, arith}
use Rattle.std.specs.List.{AllByRecursion as All}
use Rattle.std.proofs.lemmas.Bool.{both_ways, cond_both, or_cases, or_left, or_right}
use Rattle.health.specs.Words.{bit}
use Rattle.health.specs.Rows.{RowValues, clear_row}
use Rattle.register.specs.Controllers.{ControllerValues}
use Rattle.model.specs.Reports.{each_row, union}
use Rattle.model.specs.Requests.{chosen, cleared}
use Rattle.model.specs.Histories.{Enrolled}
use Rattle.model.proofs.Bits.{bit-bit_or, bit_zero}
use Rattle.model.proofs.Controllers.{Ascends}
use Rattle.model.proofs.Entries.{HasId}

-- P holds at each place of the three lists, which are of one length
pub data Parallel (P : ControllerValues → ControllerValues → RowValues → Type 0) : List ControllerValues → List ControllerValues → List RowValues → Type 0 where
  none : Parallel P [] [] []
  more : {x c : ControllerValues} {w : RowValues} {xs cs : List ControllerValues} {ws : List RowValues} → P x c w → Parallel P xs cs ws → Parallel P (x ∷ xs) (c ∷ cs) (w ∷ ws)

pub parallel_map : {P Q : ControllerValues → ControllerValues → RowValues → Type 0} {xs cs : List ControllerValues} {ws : List RowValues}
    → ((x c : ControllerValues) (w : RowValues) → P x c w → Q x c w) → Parallel P xs cs ws → Parallel Q xs cs ws
parallel_map h none = none
parallel_map h (more p l) = more (h _ _ _ p) (parallel_map h l)

pub parallel_both : {P Q : ControllerValues → ControllerValues → RowValues → Type 0} {xs cs : List ControllerValues} {ws : List RowValues}
    → Parallel P xs cs ws → Parallel Q xs cs ws → Parallel (λ x c w. P x c w × Q x c w) xs cs ws
parallel_both none none = none
parallel_both (more p l) (more q m) = more (p, q) (parallel_both l m)

-- a report
pub parallel_report : {P Q : ControllerValues → ControllerValues → RowValues → Type 0} {xs cs : List ControllerValues} {ws : List RowValues}
    (g : ControllerValues → ControllerValues) (k : ControllerValues → RowValues → RowValues)
    → ((x c : ControllerValues) (w : RowValues) → P x c w → Q x (g c) (k c w)) → Parallel P xs cs ws → Parallel Q xs (map g cs) (each_row k cs ws)
parallel_report g k h none = none
parallel_report g k h (more p l) = more (h _ _ _ p) (parallel_report g k h l)

-- a reset
pub parallel_reset : {P Q : ControllerValues → ControllerValues → RowValues → Type 0} {xs cs : List ControllerValues} {ws : List RowValues}
    → ((x c : ControllerValues) (w : RowValues) → P x c w → Q x c clear_row) → Parallel P xs cs ws → Parallel Q xs cs (map (λ _. clear_row) ws)
parallel_reset h none = none
parallel_reset h (more p l) = more (h _ _ _ p) (parallel_reset h l)

-- the chosen come from the lists
pub parallel_chosen : {P : ControllerValues → ControllerValues → RowValues → Type 0} {xs cs : List ControllerValues} {ws : List RowValues}
    (R : ControllerValues × RowValues → Type 0) (t : ControllerValues → RowValues → Bool) (n : ℕ)
    → ((x c : ControllerValues) (w : RowValues) → P x c w → R (c, w)) → Parallel P xs cs ws → All R (chosen t n cs ws)
parallel_chosen R t zero h l = tt
parallel_chosen R t (suc n) h none = tt
parallel_chosen R t (suc n) h (more {c = c} {w = w} p l) =
    let i = parallel_chosen R t n h l in
    let j = parallel_chosen R t (suc n) h l in
    cond_both (t c w) _ _ (All R) (λ _. (h _ c w p, i)) (λ _. j)

-- among controllers from an ID on none below it is chosen
chosen_from : {P : ControllerValues → ControllerValues → RowValues → Type 0} {xs cs : List ControllerValues} {ws : List RowValues}
    (t : ControllerValues → RowValues → Bool) (n start id : ℕ)
    → ((x c : ControllerValues) (w : RowValues) → P x c w → c.id ≡ x.id) → Parallel P xs cs ws → Ascends start xs → HasId id (chosen t n cs ws) → start ≤ id
chosen_from t zero start id h l a i = absurd i
chosen_from t (suc n) start id h none a i = absurd i
chosen_from t (suc n) start id h (more {x = x} {c = c} {w = w} p l) a i =
    let s = h _ c w p in
    cond_both (t c w) _ _ (λ (es : List (ControllerValues × RowValues)). HasId id es → start ≤ id)
    (λ _. ⊎_elim (λ q. omega (arith, a.0)) (λ m. let b = chosen_from t n (x.id + 1) id h l a.2 m in omega (arith, a.0)))
    (λ _ m. let b = chosen_from t (suc n) (x.id + 1) id h l a.2 m in omega (arith, a.0)) i

-- a poll that clears, where C are the IDs returned
module _ {P Q : ControllerValues → ControllerValues → RowValues → Type 0} (t : ControllerValues → RowValues → Bool) (C : ℕ → Type 0)
    (same : (x c : ControllerValues) (w : RowValues) → P x c w → c.id ≡ x.id)
    (returned : (x c : ControllerValues) (w : RowValues) → P x c w → C x.id → Q x c clear_row)
    (not_returned : (x c : ControllerValues) (w : RowValues) → P x c w → (C x.id → ⊥) → Q x c w) where
  none_returned : {xs cs : List ControllerValues} {ws : List RowValues} (start : ℕ) → ((id : ℕ) → start ≤ id → C id → ⊥) → Ascends start xs
      → Parallel P xs cs ws → Parallel Q xs cs ws
  none_returned start h a none = none
  none_returned start h a (more {x = x} p l) =
      more (not_returned _ _ _ p (h x.id a.0)) (none_returned (x.id + 1) (λ id m. h id (omega (arith, a.0))) a.2 l)

  head_cleared : {x c : ControllerValues} {w : RowValues} {xs cs : List ControllerValues} {ws : List RowValues} (n start : ℕ) → Ascends start (x ∷ xs)
      → P x c w → Parallel P xs cs ws → (b : Bool)
      → ((id : ℕ) → start ≤ id → C id ↔ HasId id (cond b ((c, w) ∷ chosen t n cs ws) (chosen t (suc n) cs ws)))
      → (((id : ℕ) → x.id + 1 ≤ id → C id ↔ HasId id (chosen t n cs ws)) → Parallel Q xs cs (cleared t n cs ws))
      → (((id : ℕ) → x.id + 1 ≤ id → C id ↔ HasId id (chosen t (suc n) cs ws)) → Parallel Q xs cs (cleared t (suc n) cs ws))
      → Parallel Q (x ∷ xs) (c ∷ cs) (cond b (clear_row ∷ cleared t n cs ws) (w ∷ cleared t (suc n) cs ws))
  head_cleared {x} {c} {w} n start a p l true g i j =
      let s = same x c w p in
      more (returned x c w p ((g x.id a.0).1 (inl s)))
      (i (λ id m. (
        (λ v. ⊎_elim (λ q. absurd (omega arith)) (λ z. z) ((g id (omega (arith, a.0))).0 v)),
        (λ z. (g id (omega (arith, a.0))).1 (inr z)),
      )))
  head_cleared {x} {c} {w} n start a p l false g i j =
      more (not_returned x c w p (λ v. let b = chosen_from t (suc n) (x.id + 1) x.id same l a.2 ((g x.id a.0).0 v) in omega arith))
      (j (λ id m. g id (omega (arith, a.0))))

  pub parallel_cleared : {xs cs : List ControllerValues} {ws : List RowValues} (n start : ℕ) → Ascends start xs
      → ((id : ℕ) → start ≤ id → C id ↔ HasId id (chosen t n cs ws)) → Parallel P xs cs ws → Parallel Q xs cs (cleared t n cs ws)
  parallel_cleared zero start a h l = none_returned start (λ id m v. (h id m).0 v) a l
  parallel_cleared (suc n) start a h none = none
  parallel_cleared (suc n) start a h (more {x = x} {c = c} {w = w} p l) =
      head_cleared n start a p l (t c w) h (λ g. parallel_cleared n (x.id + 1) a.2 g l) (λ g. parallel_cleared (suc n) (x.id + 1) a.2 g l)

-- rows that are cleared keep what holds of clear rows
pub parallel_cleared_too : {P : ControllerValues → ControllerValues → RowValues → Type 0} {xs cs : List ControllerValues} {ws : List RowValues}
    (t : ControllerValues → RowValues → Bool) (n : ℕ) → ((x c : ControllerValues) (w : RowValues) → P x c w → P x c clear_row)
    → Parallel P xs cs ws → Parallel P xs cs (cleared t n cs ws)
parallel_cleared_too t zero h l = l
parallel_cleared_too t (suc n) h none = none
parallel_cleared_too {P} t (suc n) h (more {x = x} {c = c} {w = w} {xs = xs} {cs = cs} p l) =
    let i = parallel_cleared_too t n h l in
    let j = parallel_cleared_too t (suc n) h l in
    cond_both (t c w) _ _ (λ (v : List RowValues). Parallel P (x ∷ xs) (c ∷ cs) v) (λ _. more (h x c w p) i) (λ _. more p j)

-- the place of a controller that was enrolled at opening
pub parallel_find : {P : ControllerValues → ControllerValues → RowValues → Type 0} {xs cs : List ControllerValues} {ws : List RowValues} (x : ControllerValues)
    → Enrolled x xs → Parallel P xs cs ws → (c : ControllerValues) × (w : RowValues) × P x c w
parallel_find x i none = absurd i
parallel_find {P} x (inl q) (more {c = c} {w = w} p l) = (c, w, subst (λ (v : ControllerValues). P v c w) q p)
parallel_find x (inr i) (more p l) = parallel_find x i l

-- a bit of the union of a word for each row is set exactly if it is set in one of them
pub union_found : {P : ControllerValues → ControllerValues → RowValues → Type 0} {xs cs : List ControllerValues} {ws : List RowValues}
    (g : ControllerValues → RowValues → ℕ) (f : ℕ) → Parallel P xs cs ws → bit (union g cs ws) f ≡ true
    → (x : ControllerValues) × (c : ControllerValues) × (w : RowValues) × P x c w × (bit (g c w) f ≡ true)
union_found g f none b = absurd (both_ways _ (bit_zero f) b)
union_found g f (more {x = x} {c = c} {w = w} {cs = cs} {ws = ws} φ l) b =
    ⊎_elim (λ h. (x, c, w, φ, h)) (λ h. union_found g f l h) (or_cases _ _ (sym (bit-bit_or (g c w) (union g cs ws) f) ∙ b))

pub union_has : {P : ControllerValues → ControllerValues → RowValues → Type 0} {xs cs : List ControllerValues} {ws : List RowValues}
    (g : ControllerValues → RowValues → ℕ) (f : ℕ) → Parallel P xs cs ws → Parallel (λ x c w. bit (g c w) f ≡ true → bit (union g cs ws) f ≡ true) xs cs ws
union_has g f none = none
union_has g f (more {c = c} {w = w} {cs = cs} {ws = ws} φ l) =
    let b = bit-bit_or (g c w) (union g cs ws) f in
    more (λ h. b ∙ or_left _ _ h) (parallel_map (λ y d v k h. b ∙ or_right _ _ (k h)) (union_has g f l))
