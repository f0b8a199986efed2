-- A call that changes one Responder and its rows, and no other.
use Rattle.std.proofs.Common.{◌≡◌, ℕ, zero, suc, ◌+◌, ◌*◌, ◌<◌, ◌≤◌, List, [], ◌∷◌, ◌++◌, map, length, get_or, take, drop, set, Some, None, sym, refl, ap, ◌∙◌, subst, ap₂, arith}
use borrow.Rule.Slice.PartMut.{put_mid, same_len_mid, mid_of}
use Rattle.std.specs.List.{slice_get, refill}
use Rattle.std.proofs.lemmas.List.{length-map, length-append, length-set, length-take-le, length-drop, map-append, map-set, take-map, drop-map, get_or-map}
use Rattle.std.proofs.lemmas.Option.{slice_get-get_or, slice_get_past}
use Rattle.std.proofs.lemmas.Slice.{drop-put_mid}
use Rattle.health.specs.Rows.{RowValues, row_of}
use Rattle.health.specs.declared.row.Row.{Row}
use Rattle.register.specs.Registers.{RegisterValues}
use Rattle.register.specs.declared.port.Port.{Port}
use Rattle.model.specs.State.{Drive, needed_rows, with_responders}
use Rattle.model.specs.State as model
use Rattle.model.specs.Calls.{at_place, responder_at}
use Rattle.subsystem.specs.Responders.{ResponderValues, responder_of}
use Rattle.subsystem.specs.States.{with_its_rows, state_from, drive_of, responders_of, state_of}
use Rattle.subsystem.specs.declared.responder.Responder.{Responder}
use Rattle.subsystem.specs.declared.service.Subsystem.{Subsystem}
use Rattle.subsystem.proofs.RowGroups.{rows_within, nth_responders, responder_changed, state_with_rest}
use Rattle.subsystem.proofs.Reporting.{in_use, count_is, given_back}

-- below the length there is an element
some_below : {X : Type 0} (xs : List X) (r : ℕ) → r < length xs → (y : X) × (slice_get xs r ≡ Some y)
some_below [] r l = absurd (omega arith)
some_below (x ∷ xs) zero l = (x, refl)
some_below (x ∷ xs) (suc r) l = some_below xs r (omega arith)

-- two changes that agree on the Responder that is changed
pub same_change : (xs : List model.Responder) (r : ℕ) (x : model.Responder) (f g : model.Responder → model.Responder) → slice_get xs r ≡ Some x → f x ≡ g x
    → at_place xs r f ≡ at_place xs r g
same_change [] r x f g e h = refl
same_change (y ∷ xs) zero x f g e h =
    let s : y ≡ x = cc in
    ap (λ (v : model.Responder). v ∷ xs) (ap f s ∙ h ∙ ap g (sym s))
same_change (y ∷ xs) (suc r) x f g e h = ap (λ (l : List model.Responder). y ∷ l) (same_change xs r x f g e h)

length-put_mid : (k c : ℕ) (ws part : List RowValues) → k + c ≤ length ws → length part ≡ c → length (put_mid k c ws part) ≡ length ws
length-put_mid k c ws part l e =
    let d = length-drop k ws in
    same_len_mid k c ws part (e ∙ sym (length-take-le c (drop k ws) (omega arith)))

-- Responder r becomes h, and its rows become these
pub responder_done : (d : Drive) (hs : List ResponderValues) (ws part rest : List RowValues) (r k : ℕ) (h : ResponderValues)
    → k ≡ r * length d.register.controllers → r < length hs → needed_rows d (length hs) ≤ length ws → length part ≡ length d.register.controllers
    → state_from d (set hs r h) (put_mid k (length d.register.controllers) ws part ++ rest)
    ≡ with_responders (state_from d hs (ws ++ rest)) (at_place (state_from d hs (ws ++ rest)).responders r (λ _. with_its_rows h part))
responder_done d hs ws part rest r k h ek l room long =
    let c = length d.register.controllers in
    let within = rows_within c r (length hs) l in
    let n = length-set hs r h in
    let needed : needed_rows d (length (set hs r h)) ≡ needed_rows d (length hs) = ap (needed_rows d) n in
    let same = length-put_mid k c ws part (omega arith) long in
    let before = state_with_rest d hs ws rest room in
    state_with_rest d (set hs r h) (put_mid k c ws part) rest (subst (λ (v : ℕ). v ≤ length (put_mid k c ws part)) (sym needed) (omega arith))
    ∙ (λ i. record {
      drive = d;
      responders = responder_changed c hs ws part r k h ek l (omega arith) long i;
      spare_rows = (ap (λ v. drop v (put_mid k c ws part)) needed ∙ drop-put_mid k c ws part (needed_rows d (length hs)) (omega arith) (omega arith) long) i ++ rest;
    })
    ∙ ap (λ s. with_responders s (at_place s.responders r (λ _. with_its_rows h part))) (sym before)

-- ---- over the code's values

-- the rows of a Responder, lent and given back
pub length_lent : {X : Type 0} (k c n : ℕ) (rows part : List X) → n ≡ c → k + c ≤ length rows → length part ≡ length (mid_of k n rows) → length part ≡ c
length_lent k c n rows part en l e = let d = length-drop k rows in e ∙ length-take-le n (drop k rows) (omega arith) ∙ en

map-put_mid : {X Y : Type 0} (f : X → Y) (a k : ℕ) (xs ys : List X) → map f (put_mid a k xs ys) ≡ put_mid a k (map f xs) (map f ys)
map-put_mid f a k xs ys =
    map-append f (take a xs) (ys ++ drop k (drop a xs))
    ∙ ap₂ (λ u v. u ++ v) (sym (take-map f a xs)) (map-append f ys (drop k (drop a xs)) ∙ ap (λ v. map f ys ++ v) (sym (ap (drop k) (drop-map f a xs) ∙ drop-map f k (drop a xs))))

-- elements that were lent and given back, with another at one place
pub replaced_given_back : {X : Type 0} (xs lent : List X) (r : ℕ) (y : X) → lent ≡ xs → refill (length xs) xs (set lent r y) ≡ set xs r y
replaced_given_back xs lent r y e = ap (λ l. refill (length xs) xs (set l r y)) e ∙ given_back xs (set xs r y) (length-set xs r y)

-- elements that were lent and given back, changed at one place
pub one_given_back : {X : Type 0} (f : X → X) (xs lent : List X) (r : ℕ) (d : X) → lent ≡ xs
    → refill (length xs) xs (set lent r (f (get_or lent r d))) ≡ set xs r (f (get_or xs r d))
one_given_back f xs lent r d e = replaced_given_back xs lent r (f (get_or lent r d)) e ∙ ap (λ l. set xs r (f (get_or l r d))) e

-- a Responder of the code that is in use
pub nth_in_use : (x : Subsystem) (r : ℕ) (d : Responder) → r < length x.responders.items → slice_get (responders_of x) r ≡ Some (responder_of (get_or x.responders.items r d))
nth_in_use x r d l =
    let n = in_use x in
    slice_get-get_or (responders_of x) r (responder_of d) (omega arith) ∙ ap Some (get_or-map responder_of x.responders.items r d (responder_of d) l)

module _ (x : Subsystem) (m : RegisterValues) where
  abbrev c : ℕ
  c = length m.controllers

  -- a Responder of the code, and its rows
  pub responder_there : (rows : List Row) (ports : List Port) (r : ℕ) (d : Responder) → r < length x.responders.items
      → responder_at (state_of x m rows ports) r ≡ Some (with_its_rows (responder_of (get_or x.responders.items r d)) (take c (drop (r * c) (map row_of rows))))
  responder_there rows ports r d l = nth_responders c (responders_of x) (map row_of rows) r (responder_of (get_or x.responders.items r d)) (nth_in_use x r d l)

  pub responder_exists : (rows : List Row) (ports : List Port) (r : ℕ) → r < length x.responders.items → (y : model.Responder) × (responder_at (state_of x m rows ports) r ≡ Some y)
  responder_exists rows ports r l = some_below (state_of x m rows ports).responders r (omega (arith, count_is x m rows ports))

  pub responder_absent : (rows : List Row) (ports : List Port) (r : ℕ) → length x.responders.items ≤ r → responder_at (state_of x m rows ports) r ≡ None
  responder_absent rows ports r l = slice_get_past _ r (omega (arith, count_is x m rows ports))

  -- one Responder of the code and its rows are changed
  pub responder_replaced : (rows part rest : List Row) (ports : List Port) (r k n : ℕ) (new : Responder) → r < length x.responders.items → k ≡ r * c → n ≡ c
      → length x.responders.items * c ≤ length rows → length part ≡ c
      → state_from (drive_of x m ports) (map responder_of (set x.responders.items r new)) (map row_of (put_mid k n rows part ++ rest))
      ≡ with_responders (state_of x m (rows ++ rest) ports) (at_place (state_of x m (rows ++ rest) ports).responders r (λ _. with_its_rows (responder_of new) (map row_of part)))
  responder_replaced rows part rest ports r k n new l ek en room long =
      let d = drive_of x m ports in
      let hs = responders_of x in
      let ws = map row_of rows in
      let count = in_use x in
      let responders = map-set responder_of x.responders.items r new in
      let memory = map-append row_of (put_mid k n rows part) rest ∙ ap (λ v. v ++ map row_of rest) (map-put_mid row_of k n rows part ∙ ap (λ v. put_mid k v ws (map row_of part)) en) in
      ap₂ (state_from d) responders memory
      ∙ responder_done d hs ws (map row_of part) (map row_of rest) r k (responder_of new) ek (omega arith) (subst (λ (v : ℕ). v * c ≤ length ws) (sym count) (simp length-map room)) (length-map part row_of ∙ long)
      ∙ ap (λ u. with_responders (state_from d hs u) (at_place (state_from d hs u).responders r (λ _. with_its_rows (responder_of new) (map row_of part)))) (sym (map-append row_of rows rest))

-- a Responder has as many rows as there are controllers
pub own_rows_length : (c r k : ℕ) (rows rest : List Row) → k ≡ r * c → k + c ≤ length rows → length (take c (drop (r * c) (map row_of (rows ++ rest)))) ≡ c
own_rows_length c r k rows rest e l =
    let n = length-map (rows ++ rest) row_of in
    let a = length-append rows rest in
    let d = length-drop (r * c) (map row_of (rows ++ rest)) in
    length-take-le c (drop (r * c) (map row_of (rows ++ rest))) (omega arith)
