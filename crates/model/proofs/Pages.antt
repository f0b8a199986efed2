-- What a page leaves: each row is cleared, or did not qualify, or its controller lies beyond a full page.
use Rattle.std.proofs.Common.{◌≡◌, ℕ, zero, suc, ◌+◌, ◌/◌, ◌%◌, ◌^◌, ◌<◌, ◌≤◌, Bool, true, false, cond, ◌&&◌, eqb, leb, ◌⊎◌, List, [], ◌∷◌, length, sym, refl, ap, ◌∙◌, inl, inr, ⊎_elim, arith}
use Rattle.std.specs.List.{AllByRecursion as All}
use Rattle.std.proofs.lemmas.Nat.{shr-shr, mod-pow-add}
use Rattle.std.proofs.lemmas.Bool.{both_ways, cond_both, leb-false, eqb-false, and_cases, or_parts}
use Rattle.health.specs.Words.{bit}
use Rattle.health.specs.Rows.{RowValues, clear_row}
use Rattle.commands.specs.declared.controller_poll.ControllerHealthPoll.{ControllerHealthPoll}
use Rattle.register.specs.Controllers.{ControllerValues}
use Rattle.model.specs.Requests.{includes, selects, qualifies, chosen, cleared}
use Rattle.model.proofs.Controllers.{Ascends}
use Rattle.model.proofs.ParallelRows.{Parallel, none, more, parallel_map}

-- the row w of what was a row `was` with P, where es are the entries of a page of at most n, among controllers from an ID on
pub record PagedRow (P : ControllerValues → ControllerValues → RowValues → Type 0) (t : ControllerValues → RowValues → Bool) (start n : ℕ)
    (es : List (ControllerValues × RowValues)) (x c : ControllerValues) (w : RowValues) : Type 0 where
  pub was : RowValues
  pub held : P x c was
  pub from : start ≤ c.id
  pub way : (w ≡ clear_row) ⊎ ((w ≡ was) × ((t c was ≡ false) ⊎ ((n ≤ length es) × All (λ e. e.0.id < c.id) es)))

module _ {P : ControllerValues → ControllerValues → RowValues → Type 0} (t : ControllerValues → RowValues → Bool)
    (same : (x c : ControllerValues) (w : RowValues) → P x c w → c.id ≡ x.id) where
  -- from an ID on that is lower
  from_lower : (start next n : ℕ) (es : List (ControllerValues × RowValues)) → start ≤ next → (x c : ControllerValues) (w : RowValues) → PagedRow P t next n es x c w → PagedRow P t start n es x c w
  from_lower start next n es l x c w φ = record { was = φ.was; held = φ.held; from = omega (arith, φ.from); way = φ.way }

  beyond : {xs cs : List ControllerValues} {ws : List RowValues} (start : ℕ) → Ascends start xs → Parallel P xs cs ws
      → Parallel (PagedRow P t start 0 []) xs cs ws
  beyond start a none = none
  beyond start a (more {x = x} {c = c} {w = w} p l) =
      let s = same x c w p in
      more (record { was = w; held = p; from = omega (arith, a.0); way = inr (refl, inr (omega arith, tt)) })
      (parallel_map (from_lower start (x.id + 1) 0 [] (omega (arith, a.0))) (beyond (x.id + 1) a.2 l))

  head_returned : {x c : ControllerValues} {w : RowValues} {xs cs : List ControllerValues} {ws : List RowValues} (n start : ℕ) (es : List (ControllerValues × RowValues))
      → Ascends start (x ∷ xs) → P x c w → Parallel (PagedRow P t (x.id + 1) n es) xs cs ws
      → Parallel (PagedRow P t start (suc n) ((c, w) ∷ es)) (x ∷ xs) (c ∷ cs) (clear_row ∷ ws)
  head_returned {x} {c} {w} n start es a p l =
      let s = same x c w p in
      more (record { was = w; held = p; from = omega (arith, a.0); way = inl refl })
      (parallel_map (λ y d v φ. record {
        was = φ.was;
        held = φ.held;
        from = omega (arith, a.0, φ.from);
        way = ⊎_elim (λ k. inl k)
            (λ k. inr (k.0, ⊎_elim (λ q. inl q) (λ q. inr (omega (arith, q.0), (omega (arith, φ.from), q.1))) k.1)) φ.way;
      }) l)

  head_passed : {x c : ControllerValues} {w : RowValues} {xs cs : List ControllerValues} {ws : List RowValues} (n start : ℕ) (es : List (ControllerValues × RowValues))
      → Ascends start (x ∷ xs) → P x c w → t c w ≡ false → Parallel (PagedRow P t (x.id + 1) n es) xs cs ws
      → Parallel (PagedRow P t start n es) (x ∷ xs) (c ∷ cs) (w ∷ ws)
  head_passed {x} {c} {w} n start es a p q l =
      let s = same x c w p in
      more (record { was = w; held = p; from = omega (arith, a.0); way = inr (refl, inl q) })
      (parallel_map (from_lower start (x.id + 1) n es (omega (arith, a.0))) l)

  pub parallel_paged : {xs cs : List ControllerValues} {ws : List RowValues} (n start : ℕ) → Ascends start xs → Parallel P xs cs ws
      → Parallel (PagedRow P t start n (chosen t n cs ws)) xs cs (cleared t n cs ws)
  parallel_paged zero start a l = beyond start a l
  parallel_paged (suc n) start a none = none
  parallel_paged (suc n) start a (more {x = x} {c = c} {w = w} {xs = xs} {cs = cs} {ws = ws} p l) =
      by_test (t c w) refl (parallel_paged n (x.id + 1) a.2 l) (parallel_paged (suc n) (x.id + 1) a.2 l)
    where
      by_test : (b : Bool) → t c w ≡ b → Parallel (PagedRow P t (x.id + 1) n (chosen t n cs ws)) xs cs (cleared t n cs ws)
          → Parallel (PagedRow P t (x.id + 1) (suc n) (chosen t (suc n) cs ws)) xs cs (cleared t (suc n) cs ws)
          → Parallel (PagedRow P t start (suc n) (cond b ((c, w) ∷ chosen t n cs ws) (chosen t (suc n) cs ws))) (x ∷ xs) (c ∷ cs)
          (cond b (clear_row ∷ cleared t n cs ws) (w ∷ cleared t (suc n) cs ws))
      by_test true q i j = head_returned n start _ a p i
      by_test false q i j = head_passed (suc n) start _ a p q j

five_bits : (n : ℕ) → n % 2 ≡ 0 → n / 2 % 2 ≡ 0 → n / 4 % 2 ≡ 0 → n / 8 % 2 ≡ 0 → n / 16 % 2 ≡ 0 → n % 2 ^ 5 ≡ 0
five_bits n a b c d e = omega (arith, mod-pow-add n 1 4, mod-pow-add n 1 3, mod-pow-add n 1 2, mod-pow-add n 1 1)

clear_bit : (n j k : ℕ) → bit n (j + k) ≡ false → n / 2 ^ j / 2 ^ k % 2 ≡ 0
clear_bit n j k h = ap (λ m. m % 2) (shr-shr n j k) ∙ (let e = eqb-false _ _ h in omega arith)

-- where a page asks for all types and all selectable flags, what did not qualify has no selectable flag
module _ (p : ControllerHealthPoll) (types : (p.incf ≡ true) × (p.incpf ≡ true) × (p.incvf ≡ true))
    (selected : (p.selection.cwarn ≡ true) × (p.selection.spare ≡ true) × (p.selection.pdlu ≡ true) × (p.selection.ctemp ≡ true) × (p.selection.csts ≡ true)) where
  all_included : (function : ℕ) → includes p function ≡ true
  all_included function =
      cond_both (eqb function 0) _ _ (λ (b : Bool). b ≡ true) (λ _. types.0)
      (λ _. cond_both (eqb function 1) _ _ (λ (b : Bool). b ≡ true) (λ _. types.1) (λ _. types.2))

  none_selected : (word : ℕ) → selects p word ≡ false → word / 2 ^ 8 % 2 ^ 5 ≡ 0
  none_selected word h =
      let cwarn = or_parts _ _ h in
      let spare = or_parts _ _ cwarn.1 in
      let pdlu = or_parts _ _ spare.1 in
      let ctemp = or_parts _ _ pdlu.1 in
      five_bits (word / 2 ^ 8) (let b = eqb-false _ _ (unset _ _ selected.4 ctemp.1) in omega arith) (clear_bit word 8 1 (unset _ _ selected.3 ctemp.0))
      (clear_bit word 8 2 (unset _ _ selected.2 pdlu.0)) (clear_bit word 8 3 (unset _ _ selected.1 spare.0))
      (clear_bit word 8 4 (unset _ _ selected.0 cwarn.0))
    where
      unset : (a b : Bool) → a ≡ true → (a && b) ≡ false → b ≡ false
      unset a b e h = ap (λ (v : Bool). v && b) (sym e) ∙ h

  pub unqualified : (c : ControllerValues) (w : RowValues) → p.sctlid ≤ c.id → qualifies p c w ≡ false → w.changed / 2 ^ 8 % 2 ^ 5 ≡ 0
  unqualified c w l h =
      ⊎_elim (λ k. let m = leb-false p.sctlid c.id k in absurd (omega arith))
      (λ k. ⊎_elim (λ m. absurd (both_ways _ m (all_included c.function))) (λ m. none_selected w.changed (or_parts p.report_all _ m).1)
      (and_cases (includes p c.function) _ k))
      (and_cases (leb p.sctlid c.id) _ h)
