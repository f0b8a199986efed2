-- One step of a walk along a list, upwards or downwards.
use Rattle.std.proofs.Common.{◌≡◌, ℕ, ◌+◌, ◌-◌, ◌<◌, List, [], ◌∷◌, length, drop, Some, None, sym, ap, ◌∙◌, ⊎_elim, arith}
use Rattle.std.specs.List.{slice_get}
use Rattle.std.proofs.lemmas.List.{drop_more, drop_all}
use Rattle.std.proofs.lemmas.Option.{none-some, slice_get_cases, slice_get_within, get_or_from_slice_get}

-- what stands at a place begins the rest from there
pub drop_nth : {X : Type 0} (xs : List X) (k : ℕ) (x : X) → slice_get xs k ≡ Some x → drop k xs ≡ x ∷ drop (k + 1) xs
drop_nth xs k x e = drop_more xs k x (slice_get_within xs k x e) ∙ ap (λ h. h ∷ drop (k + 1) xs) (get_or_from_slice_get xs k x x e)

-- below the length there is an element
pub nth_within : {X : Type 0} (xs : List X) (k : ℕ) → k < length xs → slice_get xs k ≡ None → ⊥
nth_within xs k h e = ⊎_elim (λ s. none-some s.0 (sym e ∙ s.2)) (λ s. omega (arith, s.0)) (slice_get_cases xs k).1

-- where there is none, nothing is left
pub drop_nth_none : {X : Type 0} (xs : List X) (k : ℕ) → slice_get xs k ≡ None → drop k xs ≡ []
drop_nth_none xs k e = ⊎_elim (λ s. absurd (none-some s.0 (sym e ∙ s.2))) (λ s. drop_all k xs s.0) (slice_get_cases xs k).1

-- the step downwards from k
pub drop_last_nth : {X : Type 0} (xs : List X) (k : ℕ) (x : X) → 0 < k → slice_get xs (k - 1) ≡ Some x → drop (k - 1) xs ≡ x ∷ drop k xs
drop_last_nth xs k x above_0 e = let back : k - 1 + 1 ≡ k = omega arith in drop_nth xs (k - 1) x e ∙ ap (λ n. x ∷ drop n xs) back
