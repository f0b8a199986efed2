-- The controllers of a lawful register: their IDs ascend, none twice.
use Rattle.std.proofs.Common.{◌≡◌, ℕ, ◌+◌, ◌^◌, ◌<◌, ◌≤◌, T, List, [], ◌∷◌, sym, ap, ◌∙◌, subst, inl, inr, arith}
use Rattle.register.specs.Controllers.{ControllerValues, lawful_from}
use Rattle.model.specs.Histories.{Enrolled}

-- IDs of 16 bits that ascend from n on
abbrev pub Ascends : ℕ → List ControllerValues → Type 0
Ascends n [] = Unit {0}
Ascends n (c ∷ cs) = (n ≤ c.id) × (c.id < 2 ^ 16) × Ascends (c.id + 1) cs

pub lawful_ascends : (n : ℕ) (cs : List ControllerValues) → T (lawful_from n cs) → Ascends n cs
lawful_ascends n [] t = tt
lawful_ascends n (c ∷ cs) t = let i = lawful_ascends (c.id + 1) cs in grind arith

pub enrolled_from : (c : ControllerValues) (n : ℕ) (cs : List ControllerValues) → Ascends n cs → Enrolled c cs → n ≤ c.id
enrolled_from c n [] a i = absurd i
enrolled_from c n (x ∷ xs) a (inl e) = subst (λ (v : ControllerValues). n ≤ v.id) e a.0
enrolled_from c n (x ∷ xs) a (inr i) = let b = enrolled_from c (x.id + 1) xs a.2 i in omega (arith, a.0)

-- an ID stands once
pub same_by_id : (c d : ControllerValues) (n : ℕ) (cs : List ControllerValues) → Ascends n cs → Enrolled c cs → Enrolled d cs → c.id ≡ d.id → c ≡ d
same_by_id c d n [] a i j e = absurd i
same_by_id c d n (x ∷ xs) a (inl p) (inl q) e = sym p ∙ q
same_by_id c d n (x ∷ xs) a (inl p) (inr q) e =
    let b = enrolled_from d (x.id + 1) xs a.2 q in let s = ap (λ (v : ControllerValues). v.id) p in absurd (omega arith)
same_by_id c d n (x ∷ xs) a (inr p) (inl q) e =
    let b = enrolled_from c (x.id + 1) xs a.2 p in let s = ap (λ (v : ControllerValues). v.id) q in absurd (omega arith)
same_by_id c d n (x ∷ xs) a (inr p) (inr q) e = same_by_id c d (x.id + 1) xs a.2 p q e
