-- One bit of a union, of a difference and of zero.
use Rattle.std.proofs.Common.{◌≡◌, ℕ, zero, suc, ◌-◌, ◌/◌, ◌%◌, ◌^◌, ◌<◌, max, false, not, ◌&&◌, ◌||◌, eqb, sym, ap, ◌∙◌, ap₂, arith}
use lib.Bits.{bit_or, and_step, and_le_l}
use Rattle.std.proofs.lemmas.Bool.Decides.{nat_tests}
use Rattle.std.specs.Int.{bit_at}
use Rattle.health.specs.Words.{bit, without}
use Rattle.std.proofs.lemmas.Nat.Bits.{bit_at_or, bit_at_lowest, bit_at-suc, bit_at-zero}

digits_or : (x y : ℕ) → x < 2 → y < 2 → eqb (max x y) 1 ≡ (eqb x 1 || eqb y 1)
digits_or x y h k = grind (arith, nat_tests)

pub bit-bit_or : (a b k : ℕ) → bit (bit_or a b) k ≡ (bit a k || bit b k)
bit-bit_or a b k = ap (λ n. eqb n 1) (bit_at_or a b k) ∙ digits_or (a / 2 ^ k % 2) (b / 2 ^ k % 2) (omega arith) (omega arith)

-- a difference
without_half : (a b : ℕ) → without a b / 2 ≡ without (a / 2) (b / 2)
without_half a b = omega (arith, and_step a b, and_le_l (a / 2) (b / 2))

without_low : (a b : ℕ) → without a b % 2 ≡ a % 2 - b % 2
without_low a b = omega (arith, and_step a b, and_le_l (a / 2) (b / 2))

bit_at_without : (k a b : ℕ) → bit_at (without a b) k ≡ bit_at a k - bit_at b k
bit_at_without zero a b = simp bit_at_lowest (without_low a b)
bit_at_without (suc k) a b =
    bit_at-suc (without a b) k ∙ ap (λ n. bit_at n k) (without_half a b) ∙ bit_at_without k (a / 2) (b / 2)
    ∙ sym (ap₂ (λ m n. m - n) (bit_at-suc a k) (bit_at-suc b k))

digits_without : (x y : ℕ) → x < 2 → y < 2 → eqb (x - y) 1 ≡ (eqb x 1 && not (eqb y 1))
digits_without x y h k = grind (arith, nat_tests)

pub bit-without : (a b k : ℕ) → bit (without a b) k ≡ (bit a k && not (bit b k))
bit-without a b k = ap (λ n. eqb n 1) (bit_at_without k a b) ∙ digits_without (bit_at a k) (bit_at b k) (omega arith) (omega arith)

pub bit_zero : (k : ℕ) → bit 0 k ≡ false
bit_zero k = ap (λ n. eqb n 1) (bit_at-zero k)
