use Rattle.std.proofs.Common.{◌≡◌, ◌≤◌, drop}
use Rattle.console.specs.Numbers.{decimal_from, at_most}
use Rattle.console.proofs.number.read_decimal.Given as goal

-- the number read so far, and then the digits that are left
abbrev pub invariant-loop-code : goal.invariant-loop-code
invariant-loop-code l =
    (at_most l.most (decimal_from l.number (drop l.code-index l.text)) ≡ at_most l.most (decimal_from 0 l.text)) × (l.number ≤ l.most)
