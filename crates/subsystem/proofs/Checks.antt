-- Tests that refuse, as the code answered them.
use Rattle.std.proofs.Common.{◌≡◌, ℕ, Bool, true, false, ltb, Some, None, Ok, Err, Option, Result, refl, ap, ◌∙◌, arith}
use Rattle.std.specs.Option.{ok_or}
use Rattle.std.specs.Result.{IsErrAnd}
use Rattle.std.proofs.lemmas.Result.{err_from_is_err_and}
use Rattle.wire.specs.Refusals.{Refusal, refuse_if}
use Rattle.model.specs.ServiceRefusals.{memory_too_short}
use Rattle.subsystem.specs.declared.fault.Fault.{Fault}

pub test_refused : {A : Type 0} (b : Bool) (q f : Refusal) (rest : Result A Refusal) → ◌≡◌ {A = Result (Unit {0}) Refusal} (Err f) (refuse_if b q (Ok tt))
    → refuse_if b q rest ≡ Err f
test_refused true q f rest e = cc
test_refused false q f rest e = let z : ◌≡◌ {A = ℕ} 0 1 = cc in absurd (omega arith)

-- a test that was passed, and what follows it
pub passed : {A : Type 0} (b : Bool) (q : Refusal) (rest : Result A Refusal) (a : A) → Ok a ≡ refuse_if b q rest → (b ≡ false) × (Ok a ≡ rest)
passed true q rest a e = let z : ◌≡◌ {A = ℕ} 0 1 = cc in absurd (omega arith)
passed false q rest a e = (refl, e)

-- what is answered where a test was passed
pub placed : (b : Bool) (q : Refusal) (n r : ℕ) → ◌≡◌ {A = Result ℕ Refusal} (Ok r) (refuse_if b q (Ok n)) → r ≡ n
placed b q n r e = let same : ◌≡◌ {A = Result ℕ Refusal} (Ok r) (Ok n) = (passed b q (Ok n) r e).1 in cc

-- a test that refused
pub refused_so : {A : Type 0} (b : Bool) (q f : Refusal) (a : A) → Err f ≡ refuse_if b q (Ok a) → (b ≡ true) × (f ≡ q)
refused_so true q f a e = (refl, cc)
refused_so false q f a e = let z : ◌≡◌ {A = ℕ} 0 1 = cc in absurd (omega arith)

-- how much memory is needed, in the test of the code
pub by_needed : (lent k n : ℕ) (o : Result (Unit {0}) Refusal) → k ≡ n → o ≡ refuse_if (ltb lent k) (memory_too_short k) (Ok tt)
    → o ≡ refuse_if (ltb lent n) (memory_too_short n) (Ok tt)
by_needed lent k n o e h = h ∙ ap (λ v. refuse_if (ltb lent v) (memory_too_short v) (Ok tt)) e

-- enough is lent
pub enough : (lent k n : ℕ) → k ≡ n → ◌≡◌ {A = Result (Unit {0}) Refusal} (Ok tt) (refuse_if (ltb lent k) (memory_too_short k) (Ok tt)) → ltb lent n ≡ false
enough lent k n e h = (passed _ _ _ tt (by_needed lent k n (Ok tt) e h)).0

-- a fault that `?` answers
pub climbed : {T : Type 0} (r : Result T Fault) (f : Fault) → IsErrAnd r (λ y. y ≡ f) → r ≡ Err f
climbed r f h = let p = err_from_is_err_and r h in p.1 ∙ ap Err p.2

-- what is refused where there is none
pub none_there : {T E : Type 0} (o : Option T) (q f : E) → Err f ≡ ok_or o q → (o ≡ None) × (f ≡ q)
none_there None q f e = (refl, cc)
none_there (Some x) q f e = let z : ◌≡◌ {A = ℕ} 0 1 = cc in absurd (omega arith)

pub some_there : {T E : Type 0} (o : Option T) (q : E) (x : T) → Ok x ≡ ok_or o q → o ≡ Some x
some_there None q x e = let z : ◌≡◌ {A = ℕ} 0 1 = cc in absurd (omega arith)
some_there (Some y) q x e = cc
