-- Records by their numbers, in the order of `Ord`.
use Rattle.std.specs.Prelude.{ℕ, suc, Bool, false, if◌then◌else◌, List, [], ◌∷◌, Ok, Err, Result}
use Rattle.std.specs.Ordering.{is_lt, is_eq}
use Rattle.std.specs.declared.cmp.Ordering.{Ordering}

module _ {K T : Type 0} (cmp : K → K → Ordering) (key : T → K) where
  -- the first place whose record has a number at or above k, else the length
  abbrev pub first_place : K → List T → ℕ
  first_place k [] = 0
  first_place k (x ∷ xs) = if is_lt (cmp (key x) k) then suc (first_place k xs) else 0

  -- whether the record at that place has the number k
  abbrev pub is_there : K → List T → Bool
  is_there k [] = false
  is_there k (x ∷ xs) = if is_lt (cmp (key x) k) then is_there k xs else is_eq (cmp (key x) k)

  -- that place: `Ok` where its record has the number k, `Err` where a record with the number k would go
  abbrev pub search_answer : K → List T → Result ℕ ℕ
  search_answer k xs = if is_there k xs then Ok (first_place k xs) else Err (first_place k xs)
