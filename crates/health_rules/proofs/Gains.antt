-- What the masks and shifts of the flag rule come to, bit by bit.
use Rattle.std.proofs.Common.{◌≡◌, ℕ, ◌+◌, ◌-◌, ◌*◌, ◌/◌, ◌%◌, ◌^◌, ◌<◌, ◌≤◌, min, max, Bool, true, false, cond, not, ◌&&◌, ◌||◌, eqb, ◌⊎◌, sym, refl, ap, ◌∙◌, one-mul, zero-mul, arith}
use lib.Bits.{bit_and, bit_or, bit_xor, and_high, and_mask, or_shifted_r, and_le_l, and_le_r, xor_mod, xor_add_and, xor_self}
use Rattle.std.specs.Int.{from_bool}
use Rattle.std.proofs.lemmas.Bool.Decides.{nat_tests}
use Rattle.std.proofs.lemmas.Nat.{shr-shr}
use Rattle.std.proofs.lemmas.Nat.Bits.{bit_at_and, bit_at_or, bit_at_xor}
use Rattle.health.specs.Words.{bit}
use Rattle.health.specs.Flags.{named_flags}
use Rattle.health.specs.Values.{HealthValues}
use Rattle.health.specs.declared.report.Report.{Report}
use Rattle.health_rules.specs.FlagRule.{word_of, status_gains, field_gains, differs, rises, level_differs, event_reported, unequal, gained}

-- a test as a number: 1 where it holds
pub weigh : (b : Bool) (w : ℕ) → cond b w 0 ≡ from_bool b * w
weigh true w = sym (one-mul w)
weigh false w = sym (zero-mul w)

pub from_bool_le : (b : Bool) → from_bool b ≤ 1
from_bool_le true = omega arith
from_bool_le false = omega arith

from_bool_or : (a b : Bool) → from_bool (a || b) ≡ max (from_bool a) (from_bool b)
from_bool_or true true = refl
from_bool_or true false = refl
from_bool_or false true = refl
from_bool_or false false = refl

from_bool_and : (a b : Bool) → from_bool (a && b) ≡ min (from_bool a) (from_bool b)
from_bool_and true true = refl
from_bool_and true false = refl
from_bool_and false true = refl
from_bool_and false false = refl

from_bool_not : (a : Bool) → from_bool (not a) ≡ 1 - from_bool a
from_bool_not true = refl
from_bool_not false = refl

from_bool_bit : (n : ℕ) → from_bool (eqb (n % 2) 1) ≡ n % 2
from_bool_bit n = grind (arith, nat_tests)

from_bool_differs : (a b : ℕ) → from_bool (not (eqb (a % 2) (b % 2))) ≡ (a % 2 + b % 2) % 2
from_bool_differs a b = grind (arith, nat_tests)

from_bool_unequal : (a b : ℕ) → ((a ≡ b) × (from_bool (not (eqb a b)) ≡ 0)) ⊎ ((a ≡ b → ⊥) × (from_bool (not (eqb a b)) ≡ 1))
from_bool_unequal a b = grind (arith, nat_tests)

-- parts in ascending places join by addition
push : (k acc v part : ℕ) → part ≡ v * 2 ^ k → acc < 2 ^ k → bit_or acc part ≡ v * 2 ^ k + acc
push k acc v part e h = ap (bit_or acc) e ∙ or_shifted_r v k acc h

-- old levels against a new status
module _ (o s : ℕ) where
  -- the levels that differ
  abbrev d : ℕ
  d = bit_and (bit_xor o s) 0x3f

  -- bit k of them
  d_bit : (k : ℕ) → 63 / 2 ^ k % 2 ≡ 1 → d / 2 ^ k % 2 ≡ from_bool (differs o s k)
  d_bit k h =
      let m = bit_at_and (bit_xor o s) 63 k in
      let x = bit_at_xor o s k in
      omega (arith, from_bool_differs (o / 2 ^ k) (s / 2 ^ k))

  d_lt : d < 64
  d_lt = omega (arith, and_le_r (bit_xor o s) 63)

  d_is : d ≡ bit_xor (o % 64) (s % 64)
  d_is = and_mask (bit_xor o s) 6 ∙ xor_mod o s 6

  same_from_d : d ≡ 0 → o % 64 ≡ s % 64
  same_from_d h =
      let z = sym d_is ∙ h in
      omega (arith, z, xor_add_and (o % 64) (s % 64), and_le_l (o % 64) (s % 64), and_le_r (o % 64) (s % 64))

  d_from_same : o % 64 ≡ s % 64 → d ≡ 0
  d_from_same h = d_is ∙ ap (λ n. bit_xor n (s % 64)) h ∙ xor_self (s % 64)

  -- the levels that differ, and the events
  abbrev pub any : ℕ
  any = bit_or d (bit_and s 0x1c0)

  any_is : any ≡ s / 64 % 8 * 64 + d
  any_is = ap (bit_or d) (and_high s 3 6) ∙ or_shifted_r (s / 64 % 8) 6 d d_lt

  csts_is : from_bool (not (eqb any 0)) ≡ from_bool (level_differs o s || event_reported s)
  csts_is =
      let either = from_bool_or (level_differs o s) (event_reported s) in
      let h1 = from_bool_or (bit s 6) (bit s 7 || bit s 8) in
      let h2 = from_bool_or (bit s 7) (bit s 8) in
      let b6 = from_bool_bit (s / 64) in
      let b7 = from_bool_bit (s / 128) in
      let b8 = from_bool_bit (s / 256) in
      grind (arith, any_is, same_from_d, d_from_same, from_bool_unequal any 0, from_bool_unequal (o % 64) (s % 64))

  ready_is : bit_and d 0x03 ≡ from_bool (differs o s 0) + from_bool (differs o s 1) * 2
  ready_is = omega (arith, and_mask d 2, d_bit 0 refl, d_bit 1 refl)

  shutdown_is : bit_and (bit_or d (d / 2)) 0x04 ≡ from_bool (differs o s 2 || differs o s 3) * 4
  shutdown_is =
      let q : d / 2 / 4 ≡ d / 8 = shr-shr d 1 2 in
      let right : d / 2 / 4 % 2 ≡ from_bool (differs o s 3) = ap (λ n. n % 2) q ∙ d_bit 3 refl in
      let joined =
      bit_at_or d (d / 2) 2 ∙ ap (λ n. max n (d / 2 / 4 % 2)) (d_bit 2 refl) ∙ ap (max (from_bool (differs o s 2))) right
      ∙ sym (from_bool_or (differs o s 2) (differs o s 3)) in
      and_high (bit_or d (d / 2)) 1 2 ∙ ap (λ n. n * 4) joined

  reset_is : bit_and (bit_and d s) 0x10 ≡ from_bool (rises o s 4) * 16
  reset_is =
      let b = bit_at_and d s 4 in
      let j = from_bool_and (not (bit o 4)) (bit s 4) in
      let n = from_bool_not (bit o 4) in
      omega (arith, and_high (bit_and d s) 1 4, d_bit 4 refl, from_bool_differs (o / 16) (s / 16), from_bool_bit (o / 16), from_bool_bit (s / 16))

  enable_is : bit_and d 0x20 ≡ from_bool (differs o s 5) * 32
  enable_is = omega (arith, and_high d 1 5, d_bit 5 refl)

  events_is : bit_and s 0xc0 ≡ (from_bool (bit s 6) + from_bool (bit s 7) * 2) * 64
  events_is = omega (arith, and_high s 2 6, from_bool_bit (s / 64), from_bool_bit (s / 128))

  -- the parts joined from low to high, up to SHST, NSSRO, CECO and FA
  abbrev pub to_shutdown : ℕ
  to_shutdown = bit_or (bit_and d 0x03) (bit_and (bit_or d (d / 2)) 0x04)

  abbrev pub to_reset : ℕ
  to_reset = bit_or to_shutdown (bit_and (bit_and d s) 0x10)

  abbrev pub to_enable : ℕ
  to_enable = bit_or to_reset (bit_and d 0x20)

  abbrev pub to_events : ℕ
  to_events = bit_or to_enable (bit_and s 0xc0)

  -- with CSTS, the word of the rows: nine bits, and not bit 3
  record Status (csts : ℕ) : Type 0 where
    word : bit_or to_events csts ≡ word_of (status_gains o s)
    below : word_of (status_gains o s) < 2 ^ 9
    bit_3 : word_of (status_gains o s) / 8 % 2 ≡ 0

  status_is : (csts : ℕ) → csts ≡ from_bool (not (eqb any 0)) → Status (csts * 2 ^ 8 % 2 ^ 16)
  status_is csts h =
      let l0 = from_bool_le (differs o s 0) in
      let l1 = from_bool_le (differs o s 1) in
      let l2 = from_bool_le (differs o s 2 || differs o s 3) in
      let l4 = from_bool_le (rises o s 4) in
      let l5 = from_bool_le (differs o s 5) in
      let l6 = from_bool_le (bit s 6) in
      let l7 = from_bool_le (bit s 7) in
      let l8 = from_bool_le (level_differs o s || event_reported s) in
      let w0 = weigh (differs o s 0) 1 in
      let w1 = weigh (differs o s 1) 2 in
      let w2 = weigh (differs o s 2 || differs o s 3) 4 in
      let w4 = weigh (rises o s 4) 16 in
      let w5 = weigh (differs o s 5) 32 in
      let w6 = weigh (bit s 6) 64 in
      let w7 = weigh (bit s 7) 128 in
      let w8 = weigh (level_differs o s || event_reported s) 256 in
      let p2 = push 2 (bit_and d 0x03) _ _ shutdown_is (omega (arith, ready_is)) in
      let p4 = push 4 to_shutdown _ _ reset_is (omega (arith, ready_is)) in
      let p5 = push 5 to_reset _ _ enable_is (omega (arith, ready_is)) in
      let p6 = push 6 to_enable _ _ events_is (omega (arith, ready_is)) in
      let c8 : csts * 2 ^ 8 % 2 ^ 16 ≡ from_bool (level_differs o s || event_reported s) * 2 ^ 8 = omega (arith, csts_is) in
      let p8 = push 8 to_events _ _ c8 (omega (arith, ready_is)) in
      record { word = omega (arith, ready_is); below = omega (arith, ready_is); bit_3 = omega (arith, ready_is) }

  pub status_word : (csts : ℕ) → csts ≡ from_bool (not (eqb any 0)) → bit_or to_events (csts * 2 ^ 8 % 2 ^ 16) ≡ word_of (status_gains o s)
  status_word csts h = (status_is csts h).word

  pub status_bit_3 : (csts : ℕ) → csts ≡ from_bool (not (eqb any 0)) → bit_or to_events (csts * 2 ^ 8 % 2 ^ 16) / 8 % 2 ≡ 0
  status_bit_3 csts h = ap (λ n. n / 8 % 2) (status_is csts h).word ∙ (status_is csts h).bit_3

pub tcida_word : (s : ℕ) → bit_and s 0x100 * 2 ^ 5 % 2 ^ 16 ≡ cond (bit s 8) (2 ^ 13) 0
tcida_word s = omega (arith, and_high s 1 8, from_bool_bit (s / 256), weigh (bit s 8) (2 ^ 13))

-- the fields stand behind the status, from bit 9 on, and no bit that names no flag is set
pub joined : (old : HealthValues) (new : Report) (status fields : ℕ) → status ≡ word_of (status_gains old.levels new.status) → status < 2 ^ 9 → status / 8 % 2 ≡ 0
    → fields ≡ word_of (field_gains old new) → (bit_or status fields ≡ gained old new) × (named_flags (bit_or status fields) ≡ bit_or status fields)
joined old new status fields e low clear f =
    let t = unequal old.temperature new.temperature in
    let u = unequal old.percentage_used new.percentage_used in
    let p = unequal old.available_spare new.available_spare in
    let w = unequal old.critical_warning new.critical_warning in
    let c = bit new.status 8 in
    let lt = from_bool_le t in
    let lu = from_bool_le u in
    let lp = from_bool_le p in
    let lw = from_bool_le w in
    let lc = from_bool_le c in
    let wt = weigh t 512 in
    let wu = weigh u 1024 in
    let wp = weigh p 2048 in
    let ww = weigh w 4096 in
    let wc = weigh c 8192 in
    let above : fields ≡ (from_bool t + from_bool u * 2 + from_bool p * 4 + from_bool w * 8 + from_bool c * 16) * 2 ^ 9 = omega arith in
    let both = push 9 status _ fields above low in
    (omega arith, omega arith)

pub gained_below : (old : HealthValues) (new : Report) → gained old new < 2 ^ 16
gained_below old new =
    let o = old.levels in
    let s = new.status in
    let status = status_is o s (from_bool (not (eqb (any o s) 0))) refl in
    let fields = joined old new _ _ refl status.below status.bit_3 refl in
    omega (arith, fields.0, fields.1)
