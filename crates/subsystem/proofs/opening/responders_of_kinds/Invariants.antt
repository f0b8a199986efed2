use Rattle.std.proofs.Common.{◌≡◌, map, take}
use Rattle.subsystem.specs.Responders.{responder_of, no_composite}
use Rattle.subsystem.proofs.opening.responders_of_kinds.Given as goal

abbrev pub invariant-loop-kind : goal.invariant-loop-kind
invariant-loop-kind l = map responder_of l.responders.items ≡ map no_composite (take l.kind-index l.kinds.items)
