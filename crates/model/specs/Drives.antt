-- Port links and drive status.
use Rattle.std.specs.Prelude.{ℕ, Bool, false, cond, not, ◌||◌, List, [], ◌∷◌, ◌++◌, take, drop, Some, None, Ok, Option, Result, ◌==◌, nat_le, nat_lt}
use Rattle.wire.specs.Refusals.{Refusal, refuse_if}
use Rattle.register.specs.declared.port.Port.{Port}
use Rattle.model.specs.State.{SubsystemStatus, Drive}
use Rattle.model.specs.ServiceRefusals.{memory_too_short, unknown_identifier}

-- the port records in use
abbrev pub ports_in_use : Drive → List Port
ports_in_use d = take d.port_count d.ports

-- a port has the identifier
abbrev pub is_port : ℕ → List Port → Bool
is_port id [] = false
is_port id (p ∷ ps) = p.id == id || is_port id ps

-- refused if too few port records are lent, or if none in use has the identifier
abbrev pub link_answer : Drive → ℕ → ℕ → Result (Unit {0}) Refusal
link_answer d ports id =
    refuse_if (nat_lt ports d.port_count) (memory_too_short d.port_count)
    (refuse_if (not (is_port id (ports_in_use d))) (unknown_identifier id) (Ok tt))

-- the first record with the identifier gets the link
abbrev pub linked_ports : ℕ → Bool → List Port → List Port
linked_ports id up [] = []
linked_ports id up (p ∷ ps) = cond (p.id == id) (record { id = p.id; link_up = up } ∷ ps) (p ∷ linked_ports id up ps)

-- what stands behind the records in use is left as it is
abbrev pub linked : ℕ → Bool → Drive → Drive
linked id up d = record {
  register = d.register;
  status = d.status;
  port_count = d.port_count;
  ports = linked_ports id up (ports_in_use d) ++ drop d.port_count d.ports;
}

-- another status
abbrev pub with_status : SubsystemStatus → Drive → Drive
with_status status d = record { register = d.register; status = status; port_count = d.port_count; ports = d.ports }

-- of two ports the one with the lower identifier, the first of equals
abbrev pub lower : Port → Option Port → Option Port
lower p None = Some p
lower p (Some q) = cond (nat_lt q.id p.id) (Some q) (Some p)

-- the port of lowest identifier
abbrev pub lowest : List Port → Option Port
lowest [] = None
lowest (p ∷ ps) = lower p (lowest ps)

-- the ports with a higher identifier
abbrev pub above : ℕ → List Port → List Port
above id [] = []
above id (p ∷ ps) = cond (nat_lt id p.id) (p ∷ above id ps) (above id ps)

-- the port of lowest identifier at or above n
abbrev pub lowest_from : ℕ → List Port → Option Port
lowest_from n [] = None
lowest_from n (p ∷ ps) = cond (nat_le n p.id) (lower p (lowest_from n ps)) (lowest_from n ps)

-- link up, where there is a port
abbrev pub is_up : Option Port → Bool
is_up None = false
is_up (Some p) = p.link_up

-- the port of next higher identifier
abbrev pub next_lowest : Option Port → List Port → Option Port
next_lowest None ps = None
next_lowest (Some p) ps = lowest (above p.id ps)

-- link up at the port of lowest identifier, down where there is none
abbrev pub lowest_link : List Port → Bool
lowest_link ps = is_up (lowest ps)

-- link up at the port of second lowest identifier, down where there is none
abbrev pub second_lowest_link : List Port → Bool
second_lowest_link ps = is_up (next_lowest (lowest ps) ps)
