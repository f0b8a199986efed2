-- Decimal digits, read one by one.
use Rattle.std.proofs.Common.{◌≡◌, ℕ, ◌+◌, ◌-◌, ◌*◌, ◌<◌, List, [], ◌∷◌, None, arith}
use Rattle.std.proofs.lemmas.Bool.Decides.{nat_tests}
use Rattle.console.specs.Numbers.{decimal_from, at_most}

-- a number above the bound stays above it, whatever digits follow
pub above : (most number : ℕ) (rest : List ℕ) → most < number → at_most most (decimal_from number rest) ≡ None
above most number [] h = grind (arith, nat_tests)
above most number (code ∷ behind) h =
    let past = above most (number * 10 + (code - 48)) behind (omega arith) in grind (arith, nat_tests)
