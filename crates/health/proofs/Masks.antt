-- Words of which no bit stands outside a mask, and what the masks of this crate keep.
use Rattle.std.proofs.Common.{◌≡◌, ℕ, zero, suc, ◌+◌, ◌-◌, ◌*◌, ◌/◌, ◌%◌, ◌^◌, ◌<◌, min, sym, ap, ◌∙◌, pow-suc, arith}
use lib.Bits.{bit_and, bit_or, and_step, and_high, and_block, and_mask, and_self}
use Rattle.std.proofs.lemmas.Nat.{pow_pos, shr_split, and_assoc, and_comm}
use Rattle.std.proofs.lemmas.Nat.Bits.{bit_at_and, bit_at_or, same_from_bits}
use Rattle.health.specs.Words.{without}
use Rattle.health.specs.Flags.{named_flags}
use Rattle.health.specs.Status.{events_in}

pub mask_of_mask : (a m : ℕ) → bit_and (bit_and a m) m ≡ bit_and a m
mask_of_mask a m = and_assoc m a m ∙ ap (bit_and a) (and_self m)

pub mask_of_part : (a c m : ℕ) → bit_and a m ≡ a → bit_and (bit_and a c) m ≡ bit_and a c
mask_of_part a c m h = and_assoc m a c ∙ ap (bit_and a) (and_comm c m) ∙ sym (and_assoc c a m) ∙ ap (λ n. bit_and n c) h

pub mask_of_either : (a b m : ℕ) → bit_and a m ≡ a → bit_and b m ≡ b → bit_and (bit_or a b) m ≡ bit_or a b
mask_of_either a b m h k =
    same_from_bits (bit_and (bit_or a b) m) (bit_or a b)
    (λ i. omega (arith, bit_at_and (bit_or a b) m i, bit_at_or a b i, bit_at_and a m i, bit_at_and b m i, ap (λ n. n / 2 ^ i % 2) h, ap (λ n. n / 2 ^ i % 2) k))

-- a word of k bits is what it shares with another and what it shares with the other's complement
and_complement : (k a b : ℕ) → a < 2 ^ k → b < 2 ^ k → bit_and a b + bit_and a (2 ^ k - 1 - b) ≡ a
and_complement zero a b h g = let z : a ≡ 0 = omega arith in rw z
and_complement (suc k) a b h g =
    let p : 2 ^ suc k ≡ 2 ^ k * 2 = pow-suc 2 k in
    let q = pow_pos k in
    let half : (2 ^ suc k - 1 - b) / 2 ≡ 2 ^ k - 1 - b / 2 = omega arith in
    let low : (2 ^ suc k - 1 - b) % 2 ≡ 1 - b % 2 = omega arith in
    let rest = and_complement k (a / 2) (b / 2) (omega arith) (omega arith) in
    let left = and_step a b in
    let right : bit_and a (2 ^ suc k - 1 - b) ≡ bit_and (a / 2) (2 ^ k - 1 - b / 2) * 2 + min (a % 2) (1 - b % 2) =
    and_step a (2 ^ suc k - 1 - b) ∙ rw (half, low) in
    omega arith

pub and_not : (a b : ℕ) → a < 2 ^ 16 → b < 2 ^ 16 → bit_and a (65535 - b) ≡ without a b
and_not a b h k = omega (arith, and_complement 16 a b h k)

-- the mask 3FF7h keeps bits 13:4 and 2:0
pub flags_mask : (n : ℕ) → bit_and n 0x3ff7 ≡ named_flags n
flags_mask n =
    ap (λ w. bit_and w 0x3ff7) (sym (shr_split n 4))
    ∙ and_block 4 (n / 2 ^ 4) 0x3ff (n % 2 ^ 4) 7 (omega arith) (omega arith)
    ∙ omega (arith, and_mask (n / 2 ^ 4) 10, and_mask (n % 2 ^ 4) 3)

pub events_mask : (n : ℕ) → bit_and n 0x01c0 ≡ events_in n
events_mask n = and_high n 3 6

pub status_mask : (n : ℕ) → bit_and n 0x01ff ≡ n % 2 ^ 9
status_mask n = and_mask n 9

-- what no bit outside a mask says: bits 3, 14 and 15 of changed flags are clear, bits 5:0 and 15:9 of status events, bits 15:9 of a status
pub flags_clear : (n : ℕ) → bit_and n 0x3ff7 ≡ n → (n < 2 ^ 14) × (n / 2 ^ 3 % 2 ≡ 0)
flags_clear n h = let e = sym (flags_mask n) ∙ h in (omega arith, omega arith)

pub events_clear : (n : ℕ) → bit_and n 0x01c0 ≡ n → (n < 2 ^ 9) × (n % 2 ^ 6 ≡ 0)
events_clear n h = let e = sym (events_mask n) ∙ h in (omega arith, omega arith)

pub status_clear : (n : ℕ) → bit_and n 0x01ff ≡ n → n < 2 ^ 9
status_clear n h = let e = sym (status_mask n) ∙ h in omega arith

-- so a word of flags is the word of its named flags, and a status is whole in nine bits
pub flags_are_named : (n : ℕ) → bit_and n 0x3ff7 ≡ n → named_flags n ≡ n
flags_are_named n h = sym (flags_mask n) ∙ h

pub status_is_whole : (n : ℕ) → bit_and n 0x01ff ≡ n → n % 2 ^ 9 ≡ n
status_is_whole n h = sym (status_mask n) ∙ h
