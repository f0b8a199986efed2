-- Responders by their numbers.
use Rattle.std.proofs.Common.{◌≡◌, ℕ, zero, suc, ◌≢◌, ◌⊎◌, List, [], ◌∷◌, map, length, Some, sym, refl, ap, ◌∙◌, subst, inl, inr, ⊎_elim}
use Rattle.std.specs.Option.{option_map}
use Rattle.std.specs.List.{slice_get}
use Rattle.std.proofs.lemmas.Bool.{cases_eq}
use Rattle.std.proofs.lemmas.Option.{none-some, same_Some}
use Rattle.model.specs.State.{Responder}
use Rattle.model.specs.Calls.{at_place}

-- the Responder that is changed
pub nth_changed : (f : Responder → Responder) (xs : List Responder) (r : ℕ) → slice_get (at_place xs r f) r ≡ option_map f (slice_get xs r)
nth_changed f [] r = refl
nth_changed f (x ∷ xs) zero = refl
nth_changed f (x ∷ xs) (suc r) = nth_changed f xs r

-- any other
pub nth_other : (f : Responder → Responder) (xs : List Responder) (n r : ℕ) → n ≢ r → slice_get (at_place xs n f) r ≡ slice_get xs r
nth_other f [] n r ne = refl
nth_other f (x ∷ xs) zero zero ne = absurd (ne refl)
nth_other f (x ∷ xs) zero (suc r) ne = refl
nth_other f (x ∷ xs) (suc n) zero ne = refl
nth_other f (x ∷ xs) (suc n) (suc r) ne = nth_other f xs n r (λ e. ne (ap suc e))

pub length_changed : (f : Responder → Responder) (xs : List Responder) (n : ℕ) → length (at_place xs n f) ≡ length xs
length_changed f [] n = refl
length_changed f (x ∷ xs) zero = refl
length_changed f (x ∷ xs) (suc n) = ap suc (length_changed f xs n)

-- a Responder after each is changed, and the one after it is changed alone
pub changed_each : {A B : Type 0} (f : A → B) (xs : List A) (r : ℕ) (y : B) → slice_get (map f xs) r ≡ Some y → (x : A) × (slice_get xs r ≡ Some x) × (f x ≡ y)
changed_each f [] r y h = absurd (none-some y h)
changed_each f (x ∷ xs) zero y h = (x, refl, same_Some (f x) y h)
changed_each f (x ∷ xs) (suc r) y h = changed_each f xs r y h

pub changed_alone : (xs : List Responder) (n : ℕ) (f : Responder → Responder) (x y : Responder) → slice_get xs n ≡ Some x → slice_get (at_place xs n f) n ≡ Some y → f x ≡ y
changed_alone xs n f x y h k = same_Some (f x) y (sym (nth_changed f xs n ∙ ap (option_map f) h) ∙ k)

-- any Responder after one is changed
pub changed_one : (xs : List Responder) (n : ℕ) (f : Responder → Responder) (x : Responder) → slice_get xs n ≡ Some x → (r : ℕ) (y : Responder)
    → slice_get (at_place xs n f) r ≡ Some y → ((n ≡ r) × (f x ≡ y)) ⊎ ((n ≢ r) × (slice_get xs r ≡ Some y))
changed_one xs n f x h r y k =
    ⊎_elim (λ q. inl (q, changed_alone xs n f x y h (subst (λ (m : ℕ). slice_get (at_place xs n f) m ≡ Some y) (sym q) k)))
    (λ q. inr (q, sym (nth_other f xs n r q) ∙ k)) (cases_eq n r)
