-- The cases of opening, and what it gives.
use Rattle.std.proofs.Common.{◌≡◌, ℕ, ◌-◌, ◌*◌, ◌≤◌, List, [], ◌∷◌, ◌++◌, map, length, take, drop, replicate, Ok, Result, sym, refl, ap, ◌∙◌, subst, ap₂, arith}
use native.Mathlib.Nat.{sub-zero}
use borrow.Rule.Slice.PartMut.{mid_of, post_of}
use Rattle.std.proofs.lemmas.List.{length-map, length-take-le, length-replicate, map-append, drop-map, drop_at, drop_all, drop-append-le, take_at, append_assoc, replicate-append-replicate}
use Rattle.std.proofs.lemmas.Bool.{ltb-false}
use Rattle.health.specs.Rows.{RowValues, row_of, clear_row}
use Rattle.health.specs.declared.row.Row.{Row}
use Rattle.wire.specs.Refusals.{Refusal}
use Rattle.register.specs.Registers.{RegisterValues}
use Rattle.register.specs.declared.port.Port.{Port}
use Rattle.model.specs.State.{Drive, needed_rows}
use Rattle.model.specs.State as model
use Rattle.model.specs.Fitting.{Fitted, rows_to_open, open_answer, opened, new_responder, initial_status}
use Rattle.subsystem.specs.Responders.{ResponderValues, no_composite}
use Rattle.subsystem.specs.States.{with_its_rows, responders_with_rows, state_from}
use Rattle.subsystem.proofs.Checks.{passed}
use Rattle.subsystem.proofs.RowGroups.{suc_mul_front, state_with_rest}

-- a granted opening has rows enough
pub open_room : (b : Fitted) (m : RegisterValues) (ws : List RowValues) → ◌≡◌ {A = Result (Unit {0}) Refusal} (Ok tt) (open_answer b m ws) → rows_to_open b m ≤ length ws
open_room b m ws e = ltb-false (length ws) (rows_to_open b m) (passed _ _ _ tt (passed _ _ _ tt e).1).0

-- the first n rows, lent, cleared and given back
pub rows_cleared : (n : ℕ) (rows part : List Row) → n ≤ length rows → map row_of part ≡ replicate (length (mid_of 0 (n - 0) rows)) clear_row
    → map row_of (part ++ post_of 0 (n - 0) rows) ≡ replicate n clear_row ++ drop n (map row_of rows)
rows_cleared n rows part l e =
    let k : length (mid_of 0 (n - 0) rows) ≡ n = ap (λ v. length (take v rows)) (sub-zero n) ∙ length-take-le n rows l in
    map-append row_of part (post_of 0 (n - 0) rows)
    ∙ ap₂ (λ u v. u ++ v) (e ∙ ap (λ v. replicate v clear_row) k) (ap (λ v. map row_of (drop v rows)) (sub-zero n) ∙ sym (drop-map row_of n rows))

-- ---- the state after it

-- Responders without flags, over rows that are all cleared, are new Responders
new_responders : (c : ℕ) (kinds : List ℕ) (ws : List RowValues) → ws ≡ replicate (length kinds * c) clear_row
    → responders_with_rows c (map no_composite kinds) ws ≡ map (new_responder c) kinds
new_responders c [] ws e = refl
new_responders c (k ∷ kinds) ws e =
    let both : ws ≡ replicate c clear_row ++ replicate (length kinds * c) clear_row =
    e ∙ ap (λ n. replicate n clear_row) (suc_mul_front (length kinds) c) ∙ sym (replicate-append-replicate c (length kinds * c) clear_row) in
    let n = length-replicate c clear_row in
    ap₂ {C = List model.Responder} (λ u v. with_its_rows (no_composite k) u ∷ responders_with_rows c (map no_composite kinds) v)
    (ap (take c) both ∙ take_at (replicate c clear_row) (replicate (length kinds * c) clear_row) c n)
    (ap (drop c) both ∙ drop_at (replicate c clear_row) (replicate (length kinds * c) clear_row) c n)
    ∙ ap (λ (v : List model.Responder). new_responder c k ∷ v) (new_responders c kinds (replicate (length kinds * c) clear_row) refl)

-- over memory whose rows in use are cleared
pub opened_is : (b : Fitted) (m : RegisterValues) (ports : List Port) (hs : List ResponderValues) (ws rest after : List RowValues) → hs ≡ map no_composite b.kinds
    → rows_to_open b m ≤ length ws → after ≡ replicate (rows_to_open b m) clear_row ++ drop (rows_to_open b m) ws
    → state_from (record { register = m; status = initial_status; port_count = b.port_count; ports = ports }) hs (after ++ rest) ≡ opened b m (ws ++ rest) ports
opened_is b m ports hs ws rest after eh room ea =
    let n = rows_to_open b m in
    let c = length m.controllers in
    let d : Drive = record { register = m; status = initial_status; port_count = b.port_count; ports = ports } in
    let clear = replicate n clear_row in
    let count : length (map no_composite b.kinds) ≡ length b.kinds = length-map b.kinds no_composite in
    let needed : needed_rows d (length (map no_composite b.kinds)) ≡ n = ap (λ v. v * c) count in
    let long = length-replicate n clear_row in
    (λ i. state_from d (eh i) ((ap (λ v. v ++ rest) ea ∙ append_assoc clear (drop n ws) rest ∙ ap (λ v. clear ++ v) (sym (drop-append-le n ws rest room))) i))
    ∙ state_with_rest d (map no_composite b.kinds) clear (drop n (ws ++ rest)) (subst (λ (v : ℕ). v ≤ length clear) (sym needed) (omega arith))
    ∙ (λ i. record {
      drive = d;
      responders = new_responders c b.kinds clear refl i;
      spare_rows = (ap (λ v. drop v clear ++ drop n (ws ++ rest)) needed ∙ ap (λ v. v ++ drop n (ws ++ rest)) (drop_all n clear (omega arith))) i;
    })
