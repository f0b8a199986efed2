-- Little-endian numbers in bytes.
use Rattle.std.specs.Prelude.{◌≡◌, ℕ, ◌+◌, ◌*◌, ◌/◌, ◌%◌, ◌^◌, ◌<◌, List, ◌∷◌, slice_index}
use Rattle.std.proofs.Common.{arith}
use Rattle.std.proofs.lemmas.Nat.{mod-pow-add}

-- the 16-bit number at a place
abbrev pub word_at : List ℕ → ℕ → ℕ
word_at bytes place = slice_index bytes place + slice_index bytes (place + 1) * 256

-- the 24-bit number at a place
abbrev pub triple_at : List ℕ → ℕ → ℕ
triple_at bytes place = slice_index bytes place + slice_index bytes (place + 1) * 256 + slice_index bytes (place + 2) * 65536

-- the 32-bit number at a place
abbrev pub dword_at : List ℕ → ℕ → ℕ
dword_at bytes place =
    slice_index bytes place + slice_index bytes (place + 1) * 256 + slice_index bytes (place + 2) * 65536 + slice_index bytes (place + 3) * 16777216

-- the two bytes of a number, and those behind them
abbrev pub word_then : ℕ → List ℕ → List ℕ
word_then n rest = n % 256 ∷ n / 256 % 256 ∷ rest

-- the three bytes of a number, and those behind them
abbrev pub triple_then : ℕ → List ℕ → List ℕ
triple_then n rest = n % 256 ∷ n / 256 % 256 ∷ n / 65536 % 256 ∷ rest

-- the four bytes of a number, and those behind them
abbrev pub dword_then : ℕ → List ℕ → List ℕ
dword_then n rest = n % 256 ∷ n / 256 % 256 ∷ n / 65536 % 256 ∷ n / 16777216 % 256 ∷ rest

-- a number written reads back as itself
pub word_reads_back : (n : ℕ) → n < 2 ^ 16 → n % 256 + n / 256 % 256 * 256 ≡ n
word_reads_back n h = omega arith

pub triple_reads_back : (n : ℕ) → n < 2 ^ 24 → n % 256 + n / 256 % 256 * 256 + n / 65536 % 256 * 65536 ≡ n
triple_reads_back n h = omega arith

pub dword_reads_back : (n : ℕ) → n < 2 ^ 32
    → n % 256 + n / 256 % 256 * 256 + n / 65536 % 256 * 65536 + n / 16777216 % 256 * 16777216 ≡ n
dword_reads_back n h = omega (arith, mod-pow-add n 8 8, mod-pow-add n 8 16, mod-pow-add n 8 24)
