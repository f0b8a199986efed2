use Rattle.std.proofs.Common.{◌≡◌, ◌++◌, map, drop, replicate}
use Rattle.health.specs.Rows.{row_of, clear_row}
use Rattle.polls.proofs.rows.clear_rows.Given as goal

abbrev pub invariant-loop-row : goal.invariant-loop-row
invariant-loop-row l = map row_of l.rows ≡ replicate l.row-index clear_row ++ drop l.row-index (map row_of l.initial.rows)
