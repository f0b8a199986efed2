-- A bit of a word as a number.
use Rattle.std.specs.Prelude.{ℕ, ◌*◌, ◌^◌, Bool, true, false}

-- 1 where the bit is set
abbrev pub digit : Bool → ℕ
digit false = 0
digit true = 1

-- the word with just bit k, where it is set
abbrev pub bit_at : ℕ → Bool → ℕ
bit_at k set = digit set * 2 ^ k
