-- Words of bits.
use Rattle.std.specs.Prelude.{ℕ, ◌-◌, ◌/◌, ◌%◌, ◌^◌, Bool, ◌==◌, bit_and}

-- bit k of a word is 1
abbrev pub bit : ℕ → ℕ → Bool
bit word k = word / 2 ^ k % 2 == 1

-- the bits of a word that another lacks
abbrev pub without : ℕ → ℕ → ℕ
without word other = word - bit_and word other
