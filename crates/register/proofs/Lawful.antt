-- Lists of controllers in ascending ID: questions, an enrolment and a write, and that they stay lawful.
use Rattle.std.proofs.Common.{◌≡◌, ℕ, zero, suc, ◌+◌, ◌^◌, ◌<◌, ◌≤◌, false, T, List, [], ◌∷◌, map, length, get_or, take, set, sym, refl, ap, subst, arith}
use Rattle.std.specs.List.{insert}
use Rattle.std.specs.Ordering.{nat_cmp}
use Rattle.std.proofs.lemmas.List.{length-set}
use Rattle.health.specs.Values.{HealthValues, health_of}
use Rattle.health.specs.declared.values.Health.{Health}
use Rattle.table.specs.Orders.{first_place, is_there}
use Rattle.register.specs.Functions.{function_number}
use Rattle.register.specs.Controllers.{ControllerValues, controller_of, sound, lawful_from, first_from, present, enrolled, written}
use Rattle.register.specs.declared.controller.Controller.{Controller}
use Rattle.register.specs.declared.controller.FunctionType.{FunctionType}
use Rattle.register.specs.declared.controller.FunctionType.TheVariants.{Pci, SriovPhysical, SriovVirtual}

-- what the code's controllers answer is what their values answer

pub first_of_values : (n : ℕ) (xs : List Controller) → first_place nat_cmp (λ c. c.id) n xs ≡ first_from n (map controller_of xs)
first_of_values n [] = refl
first_of_values n (x ∷ xs) = let h = first_of_values n xs in grind arith

pub enrolled_of_values : (x : Controller) (xs : List Controller)
    → map controller_of (insert xs (first_place nat_cmp (λ c. c.id) x.id xs) x) ≡ enrolled (controller_of x) (map controller_of xs)
enrolled_of_values x [] = refl
enrolled_of_values x (y ∷ ys) = let h = enrolled_of_values x ys in grind arith

-- IDs below the first are absent
absent_below : (n m : ℕ) (cs : List ControllerValues) → T (lawful_from m cs) → n < m → present n cs ≡ false
absent_below n m [] t h = refl
absent_below n m (c ∷ cs) t h = let i = absent_below n (c.id + 1) cs in grind arith

-- in a lawful list an ID is there, at the first place at or above it, exactly if it is present
pub there_is_present : (n m : ℕ) (xs : List Controller) → T (lawful_from m (map controller_of xs))
    → is_there nat_cmp (λ c. c.id) n xs ≡ present n (map controller_of xs)
there_is_present n m [] t = refl
there_is_present n m (x ∷ xs) t = let h = there_is_present n (x.id + 1) xs in let i = absent_below n (x.id + 1) (map controller_of xs) in grind arith

-- an enrolment of a sound controller whose ID is absent
pub enrolled_lawful : (m : ℕ) (x : ControllerValues) (cs : List ControllerValues) → T (lawful_from m cs) → m ≤ x.id → T (sound x)
    → present x.id cs ≡ false → T (lawful_from m (enrolled x cs))
enrolled_lawful m x [] t h s p = grind arith
enrolled_lawful m x (c ∷ cs) t h s p = let i = enrolled_lawful (c.id + 1) x cs in grind arith

-- a write of a health whose levels have 6 bits
pub written_lawful : (m k : ℕ) (h : HealthValues) (cs : List ControllerValues) → h.levels < 2 ^ 6 → T (lawful_from m cs)
    → T (lawful_from m (written k h cs))
written_lawful m k h [] l t = tt
written_lawful m zero h (c ∷ cs) l t = grind arith
written_lawful m (suc k) h (c ∷ cs) l t = let i = written_lawful (c.id + 1) k h cs in grind arith

-- every controller of the code is sound
function_small : (f : FunctionType) → function_number f ≤ 2
function_small Pci = omega arith
function_small SriovPhysical = omega arith
function_small SriovVirtual = omega arith

pub controller_sound : (c : Controller) → c.id < 2 ^ 16 → T (sound (controller_of c))
controller_sound c h = let f = function_small c.function in let l = c.health.levels_below_64 in grind arith

-- a write of a health in the code's controllers
abbrev pub with_code_health : Health → Controller → Controller
with_code_health h c = record { id = c.id; function = c.function; health = h }

pub written_of_values : (n : ℕ) (xs : List Controller) (k : ℕ) (h : Health) (d : Controller) → k < n → n ≤ length xs
    → map controller_of (take n (set xs k (with_code_health h (get_or xs k d)))) ≡ written k (health_of h) (map controller_of (take n xs))
written_of_values n [] k h d l m = absurd (omega arith)
written_of_values zero (x ∷ xs) k h d l m = absurd (omega arith)
written_of_values (suc n) (x ∷ xs) zero h d l m = refl
written_of_values (suc n) (x ∷ xs) (suc k) h d l m = ap (λ cs. controller_of x ∷ cs) (written_of_values n xs k h d (omega arith) (omega arith))

pub written_stays_lawful : (n : ℕ) (xs : List Controller) (k : ℕ) (h : Health) (d : Controller) → k < n → n ≤ length xs
    → T (lawful_from 0 (map controller_of (take n xs))) → T (lawful_from 0 (map controller_of (take n (set xs k (with_code_health h (get_or xs k d))))))
written_stays_lawful n xs k h d l m t =
    subst (λ (cs : List ControllerValues). T (lawful_from 0 cs)) (sym (written_of_values n xs k h d l m)) (written_lawful 0 k (health_of h) _ h.levels_below_64 t)

pub written_past : (n : ℕ) (xs : List Controller) (k : ℕ) (h : HealthValues) → n ≤ k
    → written k h (map controller_of (take n xs)) ≡ map controller_of (take n xs)
written_past zero xs k h l = refl
written_past (suc n) [] k h l = refl
written_past (suc n) (x ∷ xs) zero h l = absurd (omega arith)
written_past (suc n) (x ∷ xs) (suc k) h l = ap (λ cs. controller_of x ∷ cs) (written_past n xs k h (omega arith))

pub ruleset writes = (written_of_values, written_past, written_stays_lawful, length-set)
