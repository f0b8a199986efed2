-- Decimal numbers in text.
use Rattle.std.specs.Prelude.{ℕ, ◌+◌, ◌-◌, ◌*◌, cond, List, [], ◌∷◌, Some, None, Option, nat_le}
use Rattle.console.specs.Hex.{from_to}

-- the number of decimal digits that follow a number; nothing where one of them is no digit
abbrev pub decimal_from : ℕ → List ℕ → Option ℕ
decimal_from number [] = Some number
decimal_from number (code ∷ behind) = cond (from_to 48 57 code) (decimal_from (number * 10 + (code - 48)) behind) None

abbrev pub at_most : ℕ → Option ℕ → Option ℕ
at_most most (Some number) = cond (nat_le number most) (Some number) None
at_most most None = None

-- the number that one decimal digit or more name, where it is at most this
abbrev pub decimal_up_to : ℕ → List ℕ → Option ℕ
decimal_up_to most [] = None
decimal_up_to most (code ∷ behind) = at_most most (decimal_from 0 (code ∷ behind))
