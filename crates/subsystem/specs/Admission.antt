-- Whether a request is admitted: the tests before its bytes are read.
use Rattle.std.specs.Prelude.{ℕ, ◌+◌, not, List, Some, None, Ok, Err, Option, Result, ◌==◌, nat_lt}
use Rattle.std.specs.List.{slice_get}
use Rattle.wire.specs.Refusals.{Refusal, refuse_if, space_too_short}
use Rattle.wire.specs.declared.message.Lengths.{Lengths}
use Rattle.model.specs.ServiceRefusals.{no_such_responder, responder_of_another_kind, memory_too_short}
use Rattle.subsystem.specs.Responders.{ResponderValues}
use Rattle.subsystem.specs.declared.lent.Lent.{Lent}

-- the tests of memory: rows, port memory, reply space
abbrev pub lent_enough : ℕ → ℕ → Lent → Result (Unit {0}) Refusal
lent_enough port_count head lent =
    refuse_if (nat_lt lent.rows lent.rows_needed) (memory_too_short lent.rows_needed)
    (refuse_if (nat_lt lent.ports port_count) (memory_too_short port_count)
    (refuse_if (nat_lt lent.reply (head + 4080)) (space_too_short (head + 4080)) (Ok tt)))

-- the Responder is there, and of this kind
abbrev pub admitted_at : Option ResponderValues → ℕ → ℕ → Lengths → Lent → Result (Unit {0}) Refusal
admitted_at None port_count r lengths lent = Err (no_such_responder r)
admitted_at (Some h) port_count r lengths lent =
    refuse_if (not (h.kind == lengths.kind)) (responder_of_another_kind r) (lent_enough port_count lengths.head lent)

-- a request at Responder r, over a carrier of these lengths, lent this memory
abbrev pub admission : List ResponderValues → ℕ → ℕ → Lengths → Lent → Result (Unit {0}) Refusal
admission hs port_count r lengths lent = admitted_at (slice_get hs r) port_count r lengths lent
