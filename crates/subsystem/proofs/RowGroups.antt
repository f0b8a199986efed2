-- The rows memory as the rows of the Responders, one behind another, and the spare rows behind them.
use Rattle.std.proofs.Common.{◌≡◌, ℕ, zero, suc, ◌+◌, ◌*◌, ◌<◌, ◌≤◌, List, [], ◌∷◌, ◌++◌, map, length, get_or, take, drop, set, Some, sym, refl, ap, ◌∙◌, ap₂, mul-le-mul_right, suc-mul, add_comm, zero-add, zero-mul, add-one, arith}
use lib.Seq.{take-set-lt}
use borrow.Rule.Slice.PartMut.{put_mid}
use Rattle.std.specs.List.{slice_get}
use Rattle.std.proofs.lemmas.Option.{none-some}
use Rattle.std.proofs.lemmas.List.{length-drop, take-append-le, drop-append-le, drop-drop, drop-set-lt, drop-set-add, take-set-le, get_or-take, get_or-drop, take_at, drop_at}
use Rattle.std.proofs.lemmas.Slice.{take-put_mid_below}
use Rattle.health.specs.Rows.{RowValues, clear_row, gaining}
use Rattle.model.specs.State.{Drive, needed_rows}
use Rattle.model.specs.State as model
use Rattle.model.specs.Calls.{at_place}
use Rattle.subsystem.specs.Responders.{ResponderValues}
use Rattle.subsystem.specs.States.{with_its_rows, responders_with_rows, state_from}
use Rattle.subsystem.specs.Marks.{raised, marked_at}

-- ---- rows in use

-- the rows of a Responder stand within those in use
pub rows_within : (c r n : ℕ) → r < n → r * c + c ≤ n * c
rows_within c r n h = let k = mul-le-mul_right c h in let s = suc-mul r c in omega arith

-- and among those lent
pub own_rows_lent : (r n c first lent : ℕ) → r < n → first ≡ r * c → n * c ≤ lent → first + c ≤ lent
own_rows_lent r n c first lent l e h = let w = rows_within c r n l in omega arith

pub suc_mul_front : (r c : ℕ) → suc r * c ≡ c + r * c
suc_mul_front r c = suc-mul r c ∙ add_comm (r * c) c

-- a part that begins behind the first n
drop_part : {X : Type 0} (n a k m : ℕ) (xs ys : List X) → m ≡ n + a → n ≤ length xs → drop n (put_mid m k xs ys) ≡ put_mid a k (drop n xs) ys
drop_part zero a k m xs ys e l = let s : m ≡ a = omega arith in ap (λ j. put_mid j k xs ys) s
drop_part (suc n) a k m [] ys e l = absurd (omega arith)
drop_part {X} (suc n) a k m (x ∷ xs) ys e l =
    let s : m ≡ suc (n + a) = omega arith in
    ap (λ j. drop (suc n) (put_mid {X = X} j k (x ∷ xs) ys)) s ∙ drop_part n a k (n + a) xs ys refl (omega arith)

module _ (c : ℕ) where
  pub length_responders : (hs : List ResponderValues) (ws : List RowValues) → length (responders_with_rows c hs ws) ≡ length hs
  length_responders [] ws = refl
  length_responders (h ∷ hs) ws = ap suc (length_responders hs (drop c ws))

  -- the Responder with a number, and its rows
  pub nth_responders : (hs : List ResponderValues) (ws : List RowValues) (r : ℕ) (h : ResponderValues) → slice_get hs r ≡ Some h
      → slice_get (responders_with_rows c hs ws) r ≡ Some (with_its_rows h (take c (drop (r * c) ws)))
  nth_responders [] ws r h e = absurd (none-some h e)
  nth_responders (x ∷ hs) ws zero h e = let s : x ≡ h = cc in
      ap (λ v. Some (with_its_rows v (take c ws))) s ∙ ap (λ k. Some (with_its_rows h (take c (drop k ws)))) (sym (zero-mul c))
  nth_responders (x ∷ hs) ws (suc r) h e =
      nth_responders hs (drop c ws) r h e
      ∙ ap (λ l. Some (with_its_rows h (take c l))) (drop-drop (r * c) c ws ∙ ap (λ k. drop k ws) (sym (suc_mul_front r c)))

  -- rows behind those in use make no difference
  pub responders_append : (hs : List ResponderValues) (ws rest : List RowValues) → length hs * c ≤ length ws
      → responders_with_rows c hs (ws ++ rest) ≡ responders_with_rows c hs ws
  responders_append [] ws rest l = refl
  responders_append (h ∷ hs) ws rest l =
      let s = suc_mul_front (length hs) c in
      let d = length-drop c ws in
      ap₂ {C = List model.Responder} (λ x xs. x ∷ xs) (ap (with_its_rows h) (take-append-le c ws rest (omega arith)))
      (ap (responders_with_rows c hs) (drop-append-le c ws rest (omega arith)) ∙ responders_append hs (drop c ws) rest (omega arith))

  -- one Responder, and its rows, are changed
  pub responder_changed : (hs : List ResponderValues) (ws part : List RowValues) (r k : ℕ) (h : ResponderValues) → k ≡ r * c → r < length hs
      → k + c ≤ length ws → length part ≡ c
      → responders_with_rows c (set hs r h) (put_mid k c ws part) ≡ at_place (responders_with_rows c hs ws) r (λ _. with_its_rows h part)
  responder_changed [] ws part r k h e l m n = absurd (omega arith)
  responder_changed (x ∷ hs) ws part zero k h e l m n =
      let z : k ≡ 0 = e ∙ zero-mul c in
      ap (λ j. responders_with_rows c (h ∷ hs) (put_mid j c ws part)) z
      ∙ ap₂ {C = List model.Responder} (λ w v. with_its_rows h w ∷ responders_with_rows c hs v) (take_at part (drop c ws) c n) (drop_at part (drop c ws) c n)
  responder_changed (x ∷ hs) ws part (suc r) k h e l m n =
      let s : k ≡ c + r * c = e ∙ suc_mul_front r c in
      let d = length-drop c ws in
      ap₂ {C = List model.Responder} (λ w v. with_its_rows x w ∷ responders_with_rows c (set hs r h) v)
      (take-put_mid_below k c ws part c (omega arith) (omega arith)) (drop_part c (r * c) c k ws part s (omega arith))
      ∙ ap (λ (v : List model.Responder). with_its_rows x (take c ws) ∷ v) (responder_changed hs (drop c ws) part r (r * c) h refl (omega arith) (omega arith) n)

  -- a report at one Responder: its row k gains flags and events
  pub responder_marked : (place gained events : ℕ) → place < c → (hs : List ResponderValues) (ws : List RowValues) (r k : ℕ) (d : ResponderValues)
      → k ≡ r * c + place → r < length hs
      → responders_with_rows c (set hs r (raised gained (get_or ws k clear_row) (get_or hs r d))) (set ws k (gaining gained events (get_or ws k clear_row)))
      ≡ at_place (responders_with_rows c hs ws) r (marked_at place gained events)
  responder_marked place gained events p [] ws r k d e l = absurd (omega arith)
  responder_marked place gained events p (x ∷ hs) ws zero k d e l =
      let z : k ≡ place = e ∙ ap (λ j. j + place) (zero-mul c) ∙ zero-add place in
      let w = get_or ws place clear_row in
      let same : get_or (take c ws) place clear_row ≡ w = get_or-take c ws place clear_row p in
      ap (λ j. responders_with_rows c (raised gained (get_or ws j clear_row) x ∷ hs) (set ws j (gaining gained events (get_or ws j clear_row)))) z
      ∙ ap₂ {C = List model.Responder} (λ v u. with_its_rows (raised gained w x) v ∷ responders_with_rows c hs u)
      (take-set-lt c ws place (gaining gained events w) p) (drop-set-lt c ws place (gaining gained events w) p)
      ∙ ap (λ u. with_its_rows (raised gained u x) (set (take c ws) place (gaining gained events u)) ∷ responders_with_rows c hs (drop c ws)) (sym same)
  responder_marked place gained events p (x ∷ hs) ws (suc r) k d e l =
      let j = r * c + place in
      let s : k ≡ c + j = let f = suc_mul_front r c in omega arith in
      let w = get_or (drop c ws) j clear_row in
      let same : get_or ws (c + j) clear_row ≡ w = sym (get_or-drop c ws j clear_row) in
      ap (λ i. responders_with_rows c (x ∷ set hs r (raised gained (get_or ws i clear_row) (get_or hs r d))) (set ws i (gaining gained events (get_or ws i clear_row)))) s
      ∙ ap (λ u. responders_with_rows c (x ∷ set hs r (raised gained u (get_or hs r d))) (set ws (c + j) (gaining gained events u))) same
      ∙ ap₂ {C = List model.Responder} (λ v u. with_its_rows x v ∷ responders_with_rows c (set hs r (raised gained w (get_or hs r d))) u)
      (take-set-le c ws (c + j) (gaining gained events w) (omega arith)) (drop-set-add c ws j (gaining gained events w))
      ∙ ap (λ (v : List model.Responder). with_its_rows x (take c ws) ∷ v) (responder_marked place gained events p hs (drop c ws) r j d refl (omega arith))

-- ---- the first n of a list are changed, and in the end all

abbrev pub at_first : {X : Type 0} → ℕ → (X → X) → List X → List X
at_first zero f xs = xs
at_first (suc n) f [] = []
at_first (suc n) f (x ∷ xs) = f x ∷ at_first n f xs

pub first_more : (n : ℕ) (f : model.Responder → model.Responder) (xs : List model.Responder) → at_first (n + 1) f xs ≡ at_place (at_first n f xs) n f
first_more n f xs = ap (λ k. at_first k f xs) (add-one n) ∙ go n xs
  where
    go : (n : ℕ) (xs : List model.Responder) → at_first (suc n) f xs ≡ at_place (at_first n f xs) n f
    go zero [] = refl
    go zero (x ∷ xs) = refl
    go (suc n) [] = refl
    go (suc n) (x ∷ xs) = ap (λ (v : List model.Responder). f x ∷ v) (go n xs)

pub first_all : {X : Type 0} (n : ℕ) (f : X → X) (xs : List X) → length xs ≤ n → at_first n f xs ≡ map f xs
first_all zero f [] l = refl
first_all zero f (x ∷ xs) l = absurd (omega arith)
first_all (suc n) f [] l = refl
first_all (suc n) f (x ∷ xs) l = ap (λ v. f x ∷ v) (first_all n f xs (omega arith))

-- ---- a lent beginning of the memory

-- where the rows in use are lent, the rest of the memory stands behind the spare rows
pub state_with_rest : (d : Drive) (hs : List ResponderValues) (ws rest : List RowValues) → needed_rows d (length hs) ≤ length ws
    → state_from d hs (ws ++ rest)
    ≡ record { drive = d; responders = responders_with_rows (length d.register.controllers) hs ws; spare_rows = drop (needed_rows d (length hs)) ws ++ rest }
state_with_rest d hs ws rest l = λ i. record {
  drive = d;
  responders = responders_append (length d.register.controllers) hs ws rest l i;
  spare_rows = drop-append-le (needed_rows d (length hs)) ws rest l i;
}
