-- Every changed flag comes with one that a poll can select: bits 12:8.
use Rattle.std.proofs.Common.{◌≡◌, ℕ, ◌+◌, ◌*◌, ◌/◌, ◌%◌, ◌^◌, ◌<◌, Bool, true, false, ◌||◌, sym, refl, ap, ◌∙◌, arith}
use lib.Bits.{bit_or, or_shr, or_mod, or_lt, or_add_and, and_le_l, and_le_r}
use Rattle.std.proofs.lemmas.Bool.{not-false, not_from_true, eqb-true, eq-eqb, or_parts, or_from}
use Rattle.std.specs.Int.{from_bool}
use Rattle.std.proofs.lemmas.Bool.Decides.{nat_tests}
use Rattle.health.specs.Words.{bit}
use Rattle.health.specs.Values.{HealthValues}
use Rattle.health.specs.declared.report.Report.{Report}
use Rattle.health_rules.specs.FlagRule.{differs, rises, level_differs, event_reported, unequal, gained}
use Rattle.health_rules.proofs.Gains.{weigh, from_bool_le, gained_below}

-- a word of changed flags, in which none is set unless a selectable one is
pub record Selectable (word : ℕ) : Type 0 where
  pub sixteen_bits : word < 2 ^ 16
  pub none_alone : word / 2 ^ 8 % 2 ^ 5 ≡ 0 → word ≡ 0

from_bool_zero : (b : Bool) → from_bool b ≡ 0 → b ≡ false
from_bool_zero true e = absurd (omega arith)
from_bool_zero false e = refl

middle_bits : (low middle high : ℕ) → low < 2 ^ 8 → middle < 2 ^ 5 → (low + middle * 2 ^ 8 + high * 2 ^ 13) / 2 ^ 8 % 2 ^ 5 ≡ middle
middle_bits low middle high h k = omega arith

-- where no level differs and no event is reported, no status flag is gained
module _ (o s : ℕ) (none : (level_differs o s || event_reported s) ≡ false) where
  parts : (level_differs o s ≡ false) × (event_reported s ≡ false)
  parts = or_parts (level_differs o s) (event_reported s) none

  same_levels : o % 2 ^ 6 ≡ s % 2 ^ 6
  same_levels = eqb-true _ _ (not-false _ parts.0)

  not_differing : (k : ℕ) → o / 2 ^ k % 2 ≡ s / 2 ^ k % 2 → from_bool (differs o s k) ≡ 0
  not_differing k e = ap from_bool (not_from_true _ (eq-eqb _ _ e))

  not_rising : from_bool (rises o s 4) ≡ 0
  not_rising = let e = same_levels in let same : o / 2 ^ 4 % 2 ≡ s / 2 ^ 4 % 2 = omega arith in grind (arith, nat_tests)

  no_events : (from_bool (bit s 6) ≡ 0) × (from_bool (bit s 7) ≡ 0) × (from_bool (bit s 8) ≡ 0)
  no_events =
      let last = or_parts (bit s 6 || bit s 7) (bit s 8) parts.1 in
      let others = or_parts (bit s 6) (bit s 7) last.0 in
      (ap from_bool others.0, ap from_bool others.1, ap from_bool last.1)

  no_shutdown : from_bool (differs o s 2 || differs o s 3) ≡ 0
  no_shutdown =
      let e = same_levels in
      ap from_bool (or_from (differs o s 2) (differs o s 3) (not_from_true _ (eq-eqb _ _ (omega arith))) (not_from_true _ (eq-eqb _ _ (omega arith))))

module _ (old : HealthValues) (new : Report) where
  none_gained : gained old new / 2 ^ 8 % 2 ^ 5 ≡ 0 → gained old new ≡ 0
  none_gained h =
      let o = old.levels in
      let s = new.status in
      let t = unequal old.temperature new.temperature in
      let u = unequal old.percentage_used new.percentage_used in
      let p = unequal old.available_spare new.available_spare in
      let w = unequal old.critical_warning new.critical_warning in
      let l0 = from_bool_le (differs o s 0) in
      let l1 = from_bool_le (differs o s 1) in
      let l2 = from_bool_le (differs o s 2 || differs o s 3) in
      let l4 = from_bool_le (rises o s 4) in
      let l5 = from_bool_le (differs o s 5) in
      let l6 = from_bool_le (bit s 6) in
      let l7 = from_bool_le (bit s 7) in
      let w0 = weigh (differs o s 0) 1 in
      let w1 = weigh (differs o s 1) 2 in
      let w2 = weigh (differs o s 2 || differs o s 3) 4 in
      let w4 = weigh (rises o s 4) 16 in
      let w5 = weigh (differs o s 5) 32 in
      let w6 = weigh (bit s 6) 64 in
      let w7 = weigh (bit s 7) 128 in
      let w8 = weigh (level_differs o s || event_reported s) 256 in
      let w9 = weigh t 512 in
      let w10 = weigh u 1024 in
      let w11 = weigh p 2048 in
      let w12 = weigh w 4096 in
      let w13 = weigh (bit s 8) 8192 in
      let l8 = from_bool_le (level_differs o s || event_reported s) in
      let l9 = from_bool_le t in
      let l10 = from_bool_le u in
      let l11 = from_bool_le p in
      let l12 = from_bool_le w in
      let middle : ℕ = from_bool (level_differs o s || event_reported s) + from_bool t * 2 + from_bool u * 4 + from_bool p * 8 + from_bool w * 16 in
      let low : ℕ =
      from_bool (differs o s 0) + from_bool (differs o s 1) * 2 + from_bool (differs o s 2 || differs o s 3) * 4 + from_bool (rises o s 4) * 16
      + from_bool (differs o s 5) * 32 + from_bool (bit s 6) * 64 + from_bool (bit s 7) * 128 in
      let split : gained old new ≡ low + middle * 2 ^ 8 + from_bool (bit s 8) * 2 ^ 13 = omega arith in
      let found : middle ≡ 0 = sym (middle_bits low middle (from_bool (bit s 8)) (omega arith) (omega arith)) ∙ ap (λ n. n / 2 ^ 8 % 2 ^ 5) (sym split) ∙ h in
      let selected : (from_bool (level_differs o s || event_reported s) ≡ 0) × (from_bool t ≡ 0) × (from_bool u ≡ 0) × (from_bool p ≡ 0) × (from_bool w ≡ 0) =
      omega arith in
      let none = from_bool_zero (level_differs o s || event_reported s) selected.0 in
      let same = same_levels o s none in
      let e0 = not_differing o s none 0 (omega arith) in
      let e1 = not_differing o s none 1 (omega arith) in
      let e5 = not_differing o s none 5 (omega arith) in
      let events = no_events o s none in
      omega (arith, no_shutdown o s none, not_rising o s none)

  -- what a report gains
  pub gained_selectable : Selectable (gained old new)
  gained_selectable = record { sixteen_bits = gained_below old new; none_alone = none_gained }

pub zero_selectable : Selectable 0
zero_selectable = record { sixteen_bits = omega arith; none_alone = λ _. refl }

pub or_selectable : (a b : ℕ) → Selectable a → Selectable b → Selectable (bit_or a b)
or_selectable a b x y = record {
  sixteen_bits = or_lt 16 a b x.sixteen_bits y.sixteen_bits;
  none_alone = λ z.
      let joined : bit_or (a / 2 ^ 8 % 2 ^ 5) (b / 2 ^ 8 % 2 ^ 5) ≡ 0 = sym (or_mod (a / 2 ^ 8) (b / 2 ^ 8) 5) ∙ ap (λ n. n % 2 ^ 5) (sym (or_shr a b 8)) ∙ z in
      let none = or_zero _ _ joined in
      let e = x.none_alone none.0 in
      let f = y.none_alone none.1 in
      omega (arith, or_add_and a b);
}
  where
    or_zero : (a b : ℕ) → bit_or a b ≡ 0 → (a ≡ 0) × (b ≡ 0)
    or_zero a b e = omega (arith, or_add_and a b, and_le_l a b, and_le_r a b)
