-- A Controller Health Status Poll under way: what is done, and what is left to do, make the whole.
use Rattle.std.proofs.Common.{◌≡◌, ℕ, zero, suc, ◌+◌, ◌-◌, ◌*◌, ◌<◌, ◌≤◌, true, false, cond, List, [], ◌∷◌, ◌++◌, map, length, get_or, take, drop, set, Some, None, sym, refl, ap, ◌∙◌, ⊎_elim, zero-add, arith}
use native.Mathlib.Nat.{sub-zero}
use borrow.Rule.Slice.PartMut.{put_mid}
use Rattle.std.specs.List.{slice_get}
use Rattle.std.proofs.lemmas.List.{append_assoc, append-nil, take_all, drop_all, take-append-drop, drop-drop, drop_more, take_more, take_more_set, drop-set-lt, length-map, get_or-map}
use Rattle.std.proofs.lemmas.Slice.{take-put_mid, drop-put_mid}
use Rattle.std.proofs.lemmas.Bool.{lt-ltb, lt-leb, cases_lt}
use Rattle.health.specs.Rows.{RowValues, clear_row}
use Rattle.commands.specs.ControllerData.{entry_bytes}
use Rattle.commands.specs.declared.controller_poll.ControllerHealthPoll.{ControllerHealthPoll}
use Rattle.table.proofs.Places.{not_below}
use Rattle.register.specs.Controllers.{ControllerValues, first_from}
use Rattle.model.specs.Requests.{qualifies, chosen, cleared, entry_for, entries}
use Rattle.polls.specs.Polls.{row_after}
use Rattle.polls.proofs.Steps.{drop_nth, drop_nth_none}

-- what a poll gives: how many controllers, their entries, and the rows after it
pub record Polled : Type 0 where
  pub count : ℕ
  pub bytes : List ℕ
  pub rows : List RowValues

module _ (p : ControllerHealthPoll) where
  -- of the first n that qualify
  abbrev pub of_first : ℕ → List ControllerValues → List RowValues → Polled
  of_first n cs ws = record {
    count = length (chosen (qualifies p) n cs ws);
    bytes = entries (chosen (qualifies p) n cs ws);
    rows = cond p.clear_changed_flags (cleared (qualifies p) n cs ws) ws;
  }

  -- with a controller that is not returned
  abbrev with_other : RowValues → Polled → Polled
  with_other w o = record { count = o.count; bytes = o.bytes; rows = w ∷ o.rows }

  -- with a controller that is returned
  abbrev with_returned : ControllerValues → RowValues → Polled → Polled
  with_returned c w o = record { count = suc o.count; bytes = entry_bytes (entry_for c w) ++ o.bytes; rows = row_after p w ∷ o.rows }

  -- with none
  abbrev with_none : List RowValues → Polled
  with_none ws = record { count = 0; bytes = []; rows = ws }

  head_passed : (n : ℕ) (c : ControllerValues) (cs : List ControllerValues) (w : RowValues) (ws : List RowValues) → qualifies p c w ≡ false
      → of_first (suc n) (c ∷ cs) (w ∷ ws) ≡ with_other w (of_first (suc n) cs ws)
  head_passed n c cs w ws q =
      elim p.clear_changed_flags as (λ b. ◌≡◌ {A = Polled} (record {
        count = length (cond (qualifies p c w) ((c, w) ∷ chosen (qualifies p) n cs ws) (chosen (qualifies p) (suc n) cs ws));
        bytes = entries (cond (qualifies p c w) ((c, w) ∷ chosen (qualifies p) n cs ws) (chosen (qualifies p) (suc n) cs ws));
        rows = cond b (cond (qualifies p c w) (clear_row ∷ cleared (qualifies p) n cs ws) (w ∷ cleared (qualifies p) (suc n) cs ws)) (w ∷ ws);
      }) (with_other w (record {
        count = length (chosen (qualifies p) (suc n) cs ws);
        bytes = entries (chosen (qualifies p) (suc n) cs ws);
        rows = cond b (cleared (qualifies p) (suc n) cs ws) ws;
      }))) [ true ↦ simp q | false ↦ simp q ]

  head_returned : (n : ℕ) (c : ControllerValues) (cs : List ControllerValues) (w : RowValues) (ws : List RowValues) → qualifies p c w ≡ true
      → of_first (suc n) (c ∷ cs) (w ∷ ws) ≡ with_returned c w (of_first n cs ws)
  head_returned n c cs w ws q =
      elim p.clear_changed_flags as (λ b. ◌≡◌ {A = Polled} (record {
        count = length (cond (qualifies p c w) ((c, w) ∷ chosen (qualifies p) n cs ws) (chosen (qualifies p) (suc n) cs ws));
        bytes = entries (cond (qualifies p c w) ((c, w) ∷ chosen (qualifies p) n cs ws) (chosen (qualifies p) (suc n) cs ws));
        rows = cond b (cond (qualifies p c w) (clear_row ∷ cleared (qualifies p) n cs ws) (w ∷ cleared (qualifies p) (suc n) cs ws)) (w ∷ ws);
      }) (record {
        count = suc (length (chosen (qualifies p) n cs ws));
        bytes = entry_bytes (entry_for c w) ++ entries (chosen (qualifies p) n cs ws);
        rows = cond b clear_row w ∷ cond b (cleared (qualifies p) n cs ws) ws;
      })) [ true ↦ simp q | false ↦ simp q ]

  -- where no controller, no row or no entry is left
  ends_at_0 : (cs : List ControllerValues) (ws : List RowValues) → of_first 0 cs ws ≡ with_none ws
  ends_at_0 cs ws = elim p.clear_changed_flags as (λ b. ◌≡◌ {A = Polled} (record { count = 0; bytes = []; rows = cond b ws ws }) (with_none ws)) [ true ↦ refl | false ↦ refl ]

  ends_without_controllers : (n : ℕ) (ws : List RowValues) → of_first n [] ws ≡ with_none ws
  ends_without_controllers zero ws = ends_at_0 [] ws
  ends_without_controllers (suc n) ws = elim p.clear_changed_flags as (λ b. ◌≡◌ {A = Polled} (record { count = 0; bytes = []; rows = cond b ws ws }) (with_none ws)) [ true ↦ refl | false ↦ refl ]

  ends_without_rows : (n : ℕ) (cs : List ControllerValues) → of_first n cs [] ≡ with_none []
  ends_without_rows zero cs = ends_at_0 cs []
  ends_without_rows (suc n) [] = ends_without_controllers (suc n) []
  ends_without_rows (suc n) (c ∷ cs) = elim p.clear_changed_flags as (λ b. ◌≡◌ {A = Polled} (record { count = 0; bytes = []; rows = cond b [] [] }) (with_none [])) [ true ↦ refl | false ↦ refl ]

  -- ---- the controllers below SCTLID are passed

  below_passed : (c : ControllerValues) (w : RowValues) → c.id < p.sctlid → qualifies p c w ≡ false
  below_passed c w h = simp (lt-leb p.sctlid c.id h)

  module _ (n : ℕ) where
    -- from the first place at or above SCTLID on
    abbrev pub from_place : ℕ → List ControllerValues → List RowValues → Polled
    from_place k cs ws = of_first (suc n) (drop k cs) (drop k ws)

    abbrev with_front : List RowValues → Polled → Polled
    with_front front o = record { count = o.count; bytes = o.bytes; rows = front ++ o.rows }

    without_rows : (k : ℕ) (cs : List ControllerValues) → with_front (take k []) (from_place k cs []) ≡ of_first (suc n) cs []
    without_rows k cs =
        (λ i. with_front (take_all k [] (omega arith) i) (of_first (suc n) (drop k cs) (drop_all k [] (omega arith) i)))
        ∙ ends_without_rows (suc n) (drop k cs) ∙ sym (ends_without_rows (suc n) cs)

    pub first_places_passed : (cs : List ControllerValues) (ws : List RowValues)
        → with_front (take (first_from p.sctlid cs) ws) (from_place (first_from p.sctlid cs) cs ws) ≡ of_first (suc n) cs ws
    first_places_passed [] ws = refl
    first_places_passed (c ∷ cs) [] = without_rows (first_from p.sctlid (c ∷ cs)) (c ∷ cs)
    first_places_passed (c ∷ cs) (w ∷ ws) =
        ⊎_elim
        (λ (below : c.id < p.sctlid). simp (lt-ltb c.id p.sctlid below) (ap (with_other w) (first_places_passed cs ws) ∙ sym (head_passed n c cs w ws (below_passed c w below))))
        (λ (above : p.sctlid ≤ c.id). simp (not_below c.id p.sctlid above))
        (cases_lt c.id p.sctlid)

  -- ---- under way: at most n entries of these controllers and rows, written to this space

  module _ (n : ℕ) (cs : List ControllerValues) (ws : List RowValues) (space : List ℕ) where
    -- from a place on, with so many found
    abbrev pub left : ℕ → ℕ → Polled
    left place found = of_first (n - found) (drop place cs) (drop place ws)

    abbrev pub whole : Polled
    whole = of_first n cs ws

    -- what is done, and what is left to do, make the whole
    pub record Going (place found : ℕ) (rows : List RowValues) (written : List ℕ) : Type 0 where
      pub few : found ≤ n
      pub counted : found + (left place found).count ≡ whole.count
      pub done_rows : take place rows ++ (left place found).rows ≡ whole.rows
      pub done_bytes : take (16 * found) written ++ (left place found).bytes ≡ whole.bytes
      pub rest_of_rows : drop place rows ≡ drop place ws
      pub rest_of_space : drop (16 * found) written ≡ drop (16 * found) space

    -- at the controller c with the row w
    module _ (place found : ℕ) (c : ControllerValues) (w : RowValues) (at_c : slice_get cs place ≡ Some c) (at_w : drop place ws ≡ w ∷ drop (place + 1) ws) (more : found < n) where
      fewer : n - found ≡ suc (n - (found + 1))
      fewer = omega arith

      unrolled : left place found ≡ of_first (suc (n - (found + 1))) (c ∷ drop (place + 1) cs) (w ∷ drop (place + 1) ws)
      unrolled = λ i. of_first (fewer i) (drop_nth cs place c at_c i) (at_w i)

      left_passed : qualifies p c w ≡ false → left place found ≡ with_other w (left (place + 1) found)
      left_passed q =
          unrolled ∙ head_passed (n - (found + 1)) c (drop (place + 1) cs) w (drop (place + 1) ws) q
          ∙ ap (λ k. with_other w (of_first k (drop (place + 1) cs) (drop (place + 1) ws))) (sym fewer)

      left_returned : qualifies p c w ≡ true → left place found ≡ with_returned c w (left (place + 1) (found + 1))
      left_returned q = unrolled ∙ head_returned (n - (found + 1)) c (drop (place + 1) cs) w (drop (place + 1) ws) q

      module _ (rows : List RowValues) (written : List ℕ) (going : Going place found rows written) (room : place < length rows) where
        at_row : drop place rows ≡ w ∷ drop (place + 1) ws
        at_row = going.rest_of_rows ∙ at_w

        rows_behind : drop (place + 1) rows ≡ drop (place + 1) ws
        rows_behind = sym (drop-drop 1 place rows) ∙ ap (drop 1) at_row

        rows_before : take (place + 1) rows ≡ take place rows ++ w ∷ []
        rows_before =
            let m = drop_more rows place w room in
            let same : get_or rows place w ≡ w = cc (m, at_row) in
            take_more rows place w room ∙ ap (λ x. take place rows ++ x ∷ []) same

        pub skip : qualifies p c w ≡ false → Going (place + 1) found rows written
        skip q =
            let u = left_passed q in
            let rest = left (place + 1) found in
            record {
              few = going.few;
              counted = ap (λ o. found + o.count) (sym u) ∙ going.counted;
              done_rows = ap (λ l. l ++ rest.rows) rows_before ∙ append_assoc (take place rows) (w ∷ []) rest.rows ∙ ap (λ o. take place rows ++ o.rows) (sym u) ∙ going.done_rows;
              done_bytes = ap (λ o. take (16 * found) written ++ o.bytes) (sym u) ∙ going.done_bytes;
              rest_of_rows = rows_behind;
              rest_of_space = going.rest_of_space;
            }

        pub return_it : (rows' : List RowValues) (written' : List ℕ) → qualifies p c w ≡ true → rows' ≡ set rows place (row_after p w)
            → take (16 * (found + 1)) written' ≡ take (16 * found) written ++ entry_bytes (entry_for c w)
            → drop (16 * (found + 1)) written' ≡ drop (16 * (found + 1)) written → Going (place + 1) (found + 1) rows' written'
        return_it rows' written' q er et ed =
            let u = left_returned q in
            let rest = left (place + 1) (found + 1) in
            let further : 16 * (found + 1) ≡ 16 * found + 16 = omega arith in
            let total = ap (λ o. found + o.count) (sym u) ∙ going.counted in
            let front : take (place + 1) rows' ≡ take place rows ++ row_after p w ∷ [] = ap (take (place + 1)) er ∙ take_more_set rows place (row_after p w) room in
            record {
              few = omega arith;
              counted = omega (arith, total);
              done_rows = ap (λ l. l ++ rest.rows) front ∙ append_assoc (take place rows) (row_after p w ∷ []) rest.rows ∙ ap (λ o. take place rows ++ o.rows) (sym u) ∙ going.done_rows;
              done_bytes = ap (λ l. l ++ rest.bytes) et ∙ append_assoc (take (16 * found) written) (entry_bytes (entry_for c w)) rest.bytes ∙ ap (λ o. take (16 * found) written ++ o.bytes) (sym u) ∙ going.done_bytes;
              rest_of_rows = ap (drop (place + 1)) er ∙ drop-set-lt (place + 1) rows place (row_after p w) (omega arith) ∙ rows_behind;
              rest_of_space =
                  ed ∙ ap (λ k. drop k written) further ∙ sym (drop-drop 16 (16 * found) written) ∙ ap (drop 16) going.rest_of_space
                  ∙ drop-drop 16 (16 * found) space ∙ ap (λ k. drop k space) (sym further);
            }

    -- nothing is left to do
    module _ (place found : ℕ) (rows : List RowValues) (written : List ℕ) (going : Going place found rows written) (none_left : left place found ≡ with_none (drop place ws)) where
      pub ended : record {
        counts_those_returned : found ≡ whole.count;
        clears_those_returned_and_no_other : rows ≡ whole.rows;
        writes_their_entries_and_no_other_byte : written ≡ whole.bytes ++ drop (16 * whole.count) space;
      }
      ended =
          let total = ap (λ o. found + o.count) (sym none_left) ∙ going.counted in
          let count : found ≡ whole.count = omega (arith, total) in
          let front = sym (append-nil (take (16 * found) written)) ∙ ap (λ o. take (16 * found) written ++ o.bytes) (sym none_left) ∙ going.done_bytes in
          record {
            counts_those_returned = count;
            clears_those_returned_and_no_other = sym (take-append-drop place rows) ∙ ap (λ l. take place rows ++ l) going.rest_of_rows ∙ ap (λ o. take place rows ++ o.rows) (sym none_left) ∙ going.done_rows;
            writes_their_entries_and_no_other_byte =
                sym (take-append-drop (16 * found) written) ∙ ap (λ l. l ++ drop (16 * found) written) front ∙ ap (λ l. whole.bytes ++ l) going.rest_of_space
                ∙ ap (λ k. whole.bytes ++ drop (16 * k) space) count;
          }

    pub no_more_rows : (place found : ℕ) → length ws ≤ place → left place found ≡ with_none (drop place ws)
    no_more_rows place found h =
        let e = drop_all place ws h in
        ap (of_first (n - found) (drop place cs)) e ∙ ends_without_rows (n - found) (drop place cs) ∙ ap with_none (sym e)

    pub no_more_controllers : (place found : ℕ) → slice_get cs place ≡ None → left place found ≡ with_none (drop place ws)
    no_more_controllers place found h =
        ap (λ l. of_first (n - found) l (drop place ws)) (drop_nth_none cs place h) ∙ ends_without_controllers (n - found) (drop place ws)

  -- the first place at or above SCTLID
  pub begin : (n : ℕ) (cs : List ControllerValues) (ws : List RowValues) (space : List ℕ) → 0 < n → Going n cs ws space (first_from p.sctlid cs) 0 ws space
  begin zero cs ws space h = absurd (omega arith)
  begin (suc n) cs ws space h =
      let k = first_from p.sctlid cs in
      let e = first_places_passed n cs ws in
      let all_left : left (suc n) cs ws space k 0 ≡ from_place n k cs ws = ap (λ m. of_first m (drop k cs) (drop k ws)) (sub-zero (suc n)) in
      record {
        few = omega arith;
        counted = ap (λ o. 0 + o.count) all_left ∙ zero-add _ ∙ ap (λ o. o.count) e;
        done_rows = ap (λ o. take k ws ++ o.rows) all_left ∙ ap (λ o. o.rows) e;
        done_bytes = ap (λ o. o.bytes) all_left ∙ ap (λ o. o.bytes) e;
        rest_of_rows = refl;
        rest_of_space = refl;
      }

-- the row that is read is the one that the poll began with
pub read_row : {X Y : Type 0} (f : X → Y) (xs : List X) (ys : List Y) (k : ℕ) (x : X) → k < length xs → drop k (map f xs) ≡ drop k ys
    → x ≡ get_or xs k x → drop k ys ≡ f x ∷ drop (k + 1) ys
read_row f xs ys k x h e r =
    let l : k < length (map f xs) = simp length-map h in
    let m = drop_more (map f xs) k (f x) l in
    let v = get_or-map f xs k x (f x) h ∙ ap f (sym r) in
    let n : drop (k + 1) (map f xs) ≡ drop (k + 1) ys = sym (drop-drop 1 k (map f xs)) ∙ ap (drop 1) e ∙ drop-drop 1 k ys in
    sym e ∙ m ∙ ap (λ y. y ∷ drop (k + 1) (map f xs)) v ∙ ap (λ l. f x ∷ l) n

-- an entry written into its part of the space
module _ (space part e : List ℕ) (n : ℕ) (is : part ≡ e) (long : length e ≡ 16) (room : 16 * n + 16 ≤ length space) where
  pub written_front : take (16 * (n + 1)) (put_mid (16 * n) (16 * n + 16 - 16 * n) space part) ≡ take (16 * n) space ++ e
  written_front =
      let l : length part ≡ 16 = ap length is ∙ long in
      take-put_mid (16 * n) (16 * n + 16 - 16 * n) space part (16 * (n + 1)) (omega arith) (omega arith) ∙ ap (λ x. take (16 * n) space ++ x) is

  pub written_behind : drop (16 * (n + 1)) (put_mid (16 * n) (16 * n + 16 - 16 * n) space part) ≡ drop (16 * (n + 1)) space
  written_behind =
      let l : length part ≡ 16 = ap length is ∙ long in
      drop-put_mid (16 * n) (16 * n + 16 - 16 * n) space part (16 * (n + 1)) (omega arith) (omega arith) (omega arith)
