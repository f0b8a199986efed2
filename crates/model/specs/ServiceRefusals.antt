-- The refusals of the subsystem, layer 1.
use Rattle.std.specs.Prelude.{ℕ}
use Rattle.wire.specs.Refusals.{Refusal}

-- a refusal of the subsystem
abbrev layer_1 : ℕ → ℕ → Refusal
layer_1 number place = record { number = number; layer = 1; place = place }

-- rows or port memory are shorter than this
abbrev pub memory_too_short : ℕ → Refusal
memory_too_short needed = layer_1 1 needed

-- an enrolment or a report of this controller is malformed
abbrev pub malformed : ℕ → Refusal
malformed id = layer_1 7 id

-- kind 0
abbrev pub no_kind : Refusal
no_kind = layer_1 8 0

-- no Responder has this number
abbrev pub no_such_responder : ℕ → Refusal
no_such_responder r = layer_1 20 r

-- the Responder with this number is of another kind
abbrev pub responder_of_another_kind : ℕ → Refusal
responder_of_another_kind r = layer_1 21 r

-- a port has this identifier
abbrev pub port_present : ℕ → Refusal
port_present id = layer_1 22 id

-- no controller, or no port, has this identifier
abbrev pub unknown_identifier : ℕ → Refusal
unknown_identifier id = layer_1 24 id

-- eight Responders were added
abbrev pub ninth_responder : Refusal
ninth_responder = layer_1 25 8

-- opening without a controller or without a Responder
abbrev pub nothing_to_open : Refusal
nothing_to_open = layer_1 26 0

-- eight ports were added
abbrev pub ninth_port : Refusal
ninth_port = layer_1 27 8
