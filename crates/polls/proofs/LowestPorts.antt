-- The ports of lowest and of second lowest identifier, by the lowest identifier at or above a number.
use Rattle.std.proofs.Common.{◌≡◌, ℕ, ◌+◌, ◌<◌, ◌≤◌, Bool, true, false, cond, List, [], ◌∷◌, Some, None, Option, Ordering, Less, Equal, Greater, sym, refl, ap, ◌∙◌, subst, ap₂, ⊎_elim, nat_le, nat_lt, option_map, MatchOption, arith}
use Rattle.std.specs.List.{FoldsTo, fold, filter, reduce}
use Rattle.std.specs.Ordering.{nat_cmp, min_by_ordering}
use Rattle.std.specs.Iterator.{Drains, KeyTurn, PicksMinByKey}
use Rattle.std.specs.Fn.{CalledAt}
use Rattle.std.proofs.lemmas.Bool.{cases_lt, le-leb, lt-leb, lt-ltb, le-ltb}
use Rattle.std.proofs.lemmas.Cmp.{ranked}
use Rattle.std.proofs.lemmas.Iterator.{YieldsList}
use Rattle.std.proofs.lemmas.Iterator.Consumers.{reduce_by_from_yields_List}
use denote.Param.Members.{Mut}
use denote.Ref.{Bor}
use Rattle.register.specs.declared.port.Port.{Port}
use Rattle.model.specs.Drives.{lower, lowest, above, lowest_from}

-- any port is at or above 0
pub lowest_from_0 : (ps : List Port) → lowest_from 0 ps ≡ lowest ps
lowest_from_0 [] = refl
lowest_from_0 (p ∷ ps) = simp (le-leb 0 p.id (omega arith)) (ap (lower p) (lowest_from_0 ps))

-- at or above the next number, or with a higher identifier
pub lowest_from_next : (n : ℕ) (ps : List Port) → lowest_from (n + 1) ps ≡ lowest (above n ps)
lowest_from_next n [] = refl
lowest_from_next n (p ∷ ps) =
    ⊎_elim (λ (h : n < p.id). simp (le-leb (n + 1) p.id (omega arith), lt-ltb n p.id h) (ap (lower p) (lowest_from_next n ps)))
    (λ (h : p.id ≤ n). simp (lt-leb (n + 1) p.id (omega arith), le-ltb n p.id h) (lowest_from_next n ps)) (cases_lt n p.id)

-- the lowest of those at or above a number
pub lowest_of_those : (from : ℕ) (ps : List Port) → lowest (filter (λ (p : Port). nat_le from p.id) ps) ≡ lowest_from from ps
lowest_of_those from [] = refl
lowest_of_those from (p ∷ ps) =
    let t : Port → Bool = λ q. nat_le from q.id in
    let e = lowest_of_those from ps in
    elim (nat_le from p.id) as (λ b. lowest (cond b (p ∷ filter t ps) (filter t ps)) ≡ cond b (lower p (lowest_from from ps)) (lowest_from from ps)) [ true ↦ ap (lower p) e | false ↦ e ]

-- of two ports the one with the lower identifier, the first of equals
abbrev lower_port : Port → Port → Port
lower_port p q = cond (nat_lt q.id p.id) q p

lower_port_first : (p q : Port) (o : Option Port) → lower (lower_port p q) o ≡ lower p (lower q o)
lower_port_first p q None = elim (nat_lt q.id p.id) as (λ b. Some (cond b q p) ≡ cond b (Some q) (Some p)) [ true ↦ refl | false ↦ refl ]
lower_port_first p q (Some r) = grind arith

fold_lowest : (p : Port) (ps : List Port) → Some (fold lower_port p ps) ≡ lower p (lowest ps)
fold_lowest p [] = refl
fold_lowest p (q ∷ qs) = fold_lowest (lower_port p q) qs ∙ lower_port_first p q (lowest qs)

reduce_lowest : (ps : List Port) → reduce lower_port ps ≡ lowest ps
reduce_lowest [] = refl
reduce_lowest (p ∷ ps) = fold_lowest p ps

-- of two items, by the ordering of their ports' identifiers
lower_item : (p q : Port) (o : Ordering) → nat_cmp p.id q.id ≡ o → min_by_ordering o p q ≡ lower_port p q
lower_item p q Less e = simp (le-ltb q.id p.id (omega (arith, ranked p.id q.id Less (sym e)))) refl
lower_item p q Equal e = simp (le-ltb q.id p.id (omega (arith, ranked p.id q.id Equal (sym e)))) refl
lower_item p q Greater e = simp (lt-ltb q.id p.id (omega (arith, ranked p.id q.id Greater (sym e)))) refl

-- what is read of the item that is kept
read_of_kept : {A B : Type 0} (f : A → B) (a b : A) (o : Ordering) → f (min_by_ordering o a b) ≡ min_by_ordering o (f a) (f b)
read_of_kept f a b Less = refl
read_of_kept f a b Equal = refl
read_of_kept f a b Greater = refl

-- where each call of the closure gives the identifier
module _ {F : Type 0} (g : Mut F (Bor (Bor Port) × Unit {0}) ℕ) (f : F) (calls : (x : Bor Port) (k : ℕ) (q : F) → CalledAt g f x k q → (q ≡ f) × (k ≡ x.now.id)) where
  abbrev lower_of : Bor Port → Bor Port → Bor Port
  lower_of a b = min_by_ordering (nat_cmp a.now.id b.now.id) a b

  turns : (p : (F × ℕ) × Bor Port) (xs : List (Bor Port)) (q : (F × ℕ) × Bor Port) → p.0.0 ≡ f → p.0.1 ≡ p.1.now.id
      → FoldsTo (KeyTurn min_by_ordering min_by_ordering g nat_cmp) p xs q → FoldsTo (λ a b r. r ≡ lower_of a b) p.1 xs q.1
  turns p [] q a b h = ap (λ w. w.1) h
  turns p (x ∷ xs) q a b h =
      let t = h.1 in
      let id_now : Bor Port → ℕ = λ w. w.now.id in
      let now = calls x t.0 h.0.0.0 (subst (λ w. CalledAt g w x t.0 h.0.0.0) a t.2) in
      let o : t.1 ≡ nat_cmp p.1.now.id x.now.id = sym t.3 ∙ ap₂ nat_cmp b now.1 in
      let kept : h.0.1 ≡ lower_of p.1 x = t.5 ∙ ap (λ w. min_by_ordering w p.1 x) o in
      let key : h.0.0.1 ≡ h.0.1.now.id = t.4 ∙ ap₂ (min_by_ordering t.1) b now.1 ∙ sym (ap id_now t.5 ∙ read_of_kept id_now p.1 x t.1) in
      (h.0.1, kept, turns h.0 xs q now.0 key h.2)

  -- what `min_by_key` gives is the port of lowest identifier of those that come
  pub lowest_from_yields_List : {S : Type 0} {steps : S → Option (Bor Port) → S → Type 0} {ps : List Port} (s : S) (r : Option (Bor Port))
      → PicksMinByKey steps g nat_cmp s f r → YieldsList steps (λ a. a.now) s ps → option_map (λ a. a.now) r ≡ lowest ps
  lowest_from_yields_List {S} {steps} {ps} s r h e =
      reduce_by_from_yields_List lower_of lower_port s r (λ a b. read_of_kept (λ (w : Bor Port). w.now) a b (nat_cmp a.now.id b.now.id) ∙ lower_item a.now b.now _ refl) (picked r h) e ∙ reduce_lowest ps where
        picked : (r : Option (Bor Port)) → PicksMinByKey steps g nat_cmp s f r
            → MatchOption r (Drains steps s []) (λ y. (x : Bor Port) × (xs : List (Bor Port)) × Drains steps s (x ∷ xs) × FoldsTo (λ a b c. c ≡ lower_of a b) x xs y)
        picked None h = h
        picked (Some y) h = let now = calls h.0 h.2 h.3 h.6 in (h.0, h.1, h.5, turns ((h.3, h.2), h.0) h.1 (h.4, y) now.0 now.1 h.7)
