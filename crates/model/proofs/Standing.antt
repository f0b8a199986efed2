-- What stands, after one event more.
use Rattle.std.proofs.Common.{◌≡◌, ℕ, ◌⊎◌, List, [], ◌∷◌, ◌++◌, sym, refl, ap, ◌∙◌, subst, ap₂, inl, inr, ⊎_elim, append_assoc}
use mathlib.Core.List.{nil≢cons, head-eq_of_cons-eq, tail-eq_of_cons-eq}
use Rattle.health.specs.Values.{HealthValues}
use Rattle.model.specs.State.{State}
use Rattle.model.specs.Histories.{Event, NoneOf, Since, Changes, EndsStanding, StandsChanged, accepted_report, health_by, last_accepted}

pub nil≢later : {A : Type 0} (bs : List A) (c : A) (l : List A) → ◌≡◌ {A = List A} [] (bs ++ (c ∷ l)) → ⊥
nil≢later [] c l e = nil≢cons e
nil≢later (b ∷ bs) c l e = nil≢cons e

-- where a list with one more element is split
split_last : {A : Type 0} (t b l : List A) (e c : A) → t ++ (e ∷ []) ≡ b ++ (c ∷ l)
    → ((t ≡ b) × (e ≡ c) × (l ≡ [])) ⊎ ((m : List A) × (t ≡ b ++ (c ∷ m)) × (l ≡ m ++ (e ∷ [])))
split_last [] [] l e c p = inl (refl, head-eq_of_cons-eq p, sym (tail-eq_of_cons-eq p))
split_last [] (x ∷ b) l e c p = absurd (nil≢later b c l (tail-eq_of_cons-eq p))
split_last {A} (y ∷ t) [] l e c p = inr (t, ap {B = List A} (λ v. v ∷ t) (head-eq_of_cons-eq p), sym (tail-eq_of_cons-eq p))
split_last {A} (y ∷ t) (x ∷ b) l e c p =
    let h = head-eq_of_cons-eq p in
    ⊎_elim
    (λ w. inl (ap₂ {C = List A} (λ v vs. v ∷ vs) h w.0, w.1, w.2))
    (λ w. inr (w.0, ap₂ {C = List A} (λ v vs. v ∷ vs) h w.1, w.2))
    (split_last t b l e c (tail-eq_of_cons-eq p))

-- none of the events, one by one
none_more : (P : Event → Type 0) (l : List Event) (e : Event) → NoneOf P l → (P e → ⊥) → NoneOf P (l ++ (e ∷ []))
none_more P [] e n h = (h, tt)
none_more P (x ∷ l) e n h = (n.0, none_more P l e n.1 h)

none_init : (P : Event → Type 0) (l : List Event) (e : Event) → NoneOf P (l ++ (e ∷ [])) → NoneOf P l
none_init P [] e n = tt
none_init P (x ∷ l) e n = (n.0, none_init P l e n.1)

none_last : (P : Event → Type 0) (l : List Event) (e : Event) → NoneOf P (l ++ (e ∷ [])) → P e → ⊥
none_last P [] e n = n.0
none_last P (x ∷ l) e n = none_last P l e n.1

-- `Since`, after one event more
module _ (C : List Event → Event → Type 0) (E : Event → Type 0) (t : List Event) (e : Event) where
  pub since_now : C t e → Since C E (t ++ (e ∷ []))
  since_now h = record { before = t; this = e; later = []; splits = refl; happened = h; not_since = tt }

  pub since_on : (E e → ⊥) → Since C E t → Since C E (t ++ (e ∷ []))
  since_on n h = record {
    before = h.before;
    this = h.this;
    later = h.later ++ (e ∷ []);
    splits = ap (λ (v : List Event). v ++ (e ∷ [])) h.splits ∙ append_assoc h.before (h.this ∷ h.later) (e ∷ []);
    happened = h.happened;
    not_since = none_more E h.later e h.not_since n;
  }

  pub since_was : Since C E (t ++ (e ∷ [])) → C t e ⊎ ((E e → ⊥) × Since C E t)
  since_was h =
      ⊎_elim
      (λ w. inl (subst (λ (v : Event). C t v) (sym w.1) (subst (λ (v : List Event). C v h.this) (sym w.0) h.happened)))
      (λ w. let n = subst (NoneOf E) w.2 h.not_since in inr (
        none_last E w.0 e n,
        record { before = h.before; this = h.this; later = w.0; splits = w.1; happened = h.happened; not_since = none_init E w.0 e n },
      ))
      (split_last t h.before h.later e h.this h.splits)

-- nothing happened at opening
pub since_none : (C : List Event → Event → Type 0) (E : Event → Type 0) → Since C E [] → ⊥
since_none C E h = nil≢later h.before h.this h.later h.splits

-- a field stands changed after one event more exactly if that event changes it, or it stood and the event does not end that
module _ (s : State) (t : List Event) (e : Event) (r id f : ℕ) where
  pub stands_by_change : Changes s id f t e → StandsChanged s (t ++ (e ∷ [])) r id f
  stands_by_change = since_now (Changes s id f) (EndsStanding r id) t e

  pub stands_on : (EndsStanding r id e → ⊥) → StandsChanged s t r id f → StandsChanged s (t ++ (e ∷ [])) r id f
  stands_on = since_on (Changes s id f) (EndsStanding r id) t e

  pub stood_or_changed : StandsChanged s (t ++ (e ∷ [])) r id f → Changes s id f t e ⊎ ((EndsStanding r id e → ⊥) × StandsChanged s t r id f)
  stood_or_changed = since_was (Changes s id f) (EndsStanding r id) t e

-- the health last accepted, after one event more
pub last_accepted_more : (id : ℕ) (h : HealthValues) (t : List Event) (e : Event)
    → last_accepted id h (t ++ (e ∷ [])) ≡ health_by id (last_accepted id h t) (accepted_report e)
last_accepted_more id h [] e = refl
last_accepted_more id h (x ∷ t) e = last_accepted_more id (health_by id h (accepted_report x)) t e
