-- A message of n bytes written to the front of lent space, or refused where the space is too short.
use Rattle.std.specs.Prelude.{ℕ, cond, List, ◌++◌, length, drop, Ok, Result, nat_lt}
use Rattle.wire.specs.Refusals.{Refusal, refuse_if, space_too_short}

-- the answer
abbrev pub length_written : ℕ → List ℕ → Result ℕ Refusal
length_written n space = refuse_if (nat_lt (length space) n) (space_too_short n) (Ok n)

-- what the space then holds: the message and what stood behind it, or all that it held
abbrev pub space_after : ℕ → List ℕ → List ℕ → List ℕ
space_after n message space = cond (nat_lt (length space) n) space (message ++ drop n space)
