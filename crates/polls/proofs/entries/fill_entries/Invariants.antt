use Rattle.std.proofs.Common.{◌+◌, map}
use Rattle.health.specs.Rows.{row_of}
use Rattle.polls.proofs.Entering.{Going}
use Rattle.polls.proofs.entries.fill_entries.Given as goal

abbrev pub invariant-loop-place : goal.invariant-loop-place
invariant-loop-place g l =
    Going l.poll (l.poll.maxrent + 1) (g.R.Register.meaning l.register).controllers (map row_of l.initial.rows) l.initial.space
    l.place l.found (map row_of l.rows) l.space
