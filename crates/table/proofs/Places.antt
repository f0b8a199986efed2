-- The first place at or above a number, and what stands there.
use Rattle.std.proofs.Common.{◌≡◌, ℕ, suc, ◌+◌, ◌≤◌, Bool, false, cond, not, List, [], ◌∷◌, length, sym, refl, ◌∙◌, arith}
use Rattle.std.proofs.lemmas.List.{length-take-le}
use Rattle.std.proofs.lemmas.List.Recursion.{is_position_or_len}
use Rattle.std.proofs.lemmas.List.Sums.{prefix_len-le-length}
use Rattle.std.specs.List.{position, position_or_len, slice_get}
use Rattle.std.specs.Option.{unwrap_or, option_map_or}
use Rattle.std.specs.Ordering.{is_lt, is_eq, is_ge, nat_cmp}
use Rattle.std.specs.declared.cmp.Ordering.{Ordering}
use Rattle.std.specs.declared.cmp.Ordering.TheVariants.{Less, Equal, Greater}
use Rattle.table.specs.Orders.{first_place, is_there}

-- the first place where a test passes, or else the length
found_or_length : {X : Type 0} (p : X → Bool) (xs : List X) → unwrap_or (position p xs) (length xs) ≡ position_or_len p xs
found_or_length p xs = let h = prefix_len-le-length (λ x. not (p x)) xs in grind arith

by_order : (r : Ordering) (n : ℕ) → cond (is_lt r) (suc n) 0 ≡ cond (is_ge r) 0 (1 + n)
by_order Less n = omega arith
by_order Equal n = refl
by_order Greater n = refl

-- where a number is first at or above k
pub first_place_is_found : {K T : Type 0} (cmp : K → K → Ordering) (key : T → K) (k : K) (xs : List T)
    → first_place cmp key k xs ≡ unwrap_or (position (λ x. is_ge (cmp (key x) k)) xs) (length xs)
first_place_is_found cmp key k xs =
    is_position_or_len (first_place cmp key k) (λ x. is_ge (cmp (key x) k)) refl (λ y ys. by_order (cmp (key y) k) (first_place cmp key k ys)) xs
    ∙ sym (found_or_length _ xs)

module _ {K T : Type 0} (cmp : K → K → Ordering) (key : T → K) (k : K) where
  pub place_within : (xs : List T) → first_place cmp key k xs ≤ length xs
  place_within [] = omega arith
  place_within (y ∷ ys) = let h = place_within ys in grind arith

  -- the record at the first place decides whether k is there
  pub there_at : (xs : List T) → is_there cmp key k xs ≡ option_map_or (λ x. is_eq (cmp (key x) k)) (slice_get xs (first_place cmp key k xs)) false
  there_at [] = refl
  there_at (y ∷ ys) = let h = there_at ys in grind arith

-- for callers with numbers: a number at or above another is not below it
pub not_below : (m n : ℕ) → n ≤ m → is_lt (nat_cmp m n) ≡ false
not_below m n h = grind arith

pub ruleset places = (place_within, length-take-le)
