use Rattle.std.proofs.Common.{◌≡◌, ◌*◌, map, length, drop}
use Rattle.health.specs.Rows.{row_of}
use Rattle.subsystem.specs.Responders.{responder_of}
use Rattle.subsystem.specs.States.{responders_with_rows}
use Rattle.subsystem.specs.Marks.{marked_at}
use Rattle.subsystem.proofs.RowGroups.{at_first}
use Rattle.subsystem.proofs.mark.mark_responders.Given as goal

abbrev pub invariant-loop-r : goal.invariant-loop-r
invariant-loop-r l =
    (responders_with_rows l.layout.controllers (map responder_of l.responders) (map row_of l.rows)
    ≡ at_first l.r (marked_at l.place l.gained.bits l.events.bits) (responders_with_rows l.layout.controllers (map responder_of l.initial.responders) (map row_of l.initial.rows)))
    × (drop (length l.initial.responders * l.layout.controllers) (map row_of l.rows) ≡ drop (length l.initial.responders * l.layout.controllers) (map row_of l.initial.rows))
