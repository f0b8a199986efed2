-- What is written to lent space and read back.
use Rattle.std.specs.Prelude.{ℕ, Bool, List, length, Ok, Result, nat_lt}
use Rattle.wire.specs.declared.message.Command.{Command}
use Rattle.wire.specs.declared.message.Request.{Request}
use Rattle.wire.specs.declared.message.Head.{Head}
use Rattle.wire.specs.Meaning.{CarrierMeaning, plain_request}
use Rattle.wire.specs.Refusals.{Refusal, refuse_if, space_too_short}

-- a request, with tag 0, MEB 0 and no surplus, wherever there is space for it
abbrev pub request_itself : CarrierMeaning → Command → List ℕ → Result Request Refusal
request_itself m command space =
    refuse_if (nat_lt (length space) m.request_length) (space_too_short m.request_length) (Ok (plain_request command))

-- a head, wherever there is space for it, as the carrier reads what it wrote
abbrev pub head_read : CarrierMeaning → Bool → Head → List ℕ → Result Head Refusal
head_read m tag head space =
    refuse_if (nat_lt (length space) m.head_length) (space_too_short m.head_length) (m.read_head (m.write_head tag head))

-- the head itself, wherever there is space for it
abbrev pub head_itself : CarrierMeaning → Head → List ℕ → Result Head Refusal
head_itself m head space =
    refuse_if (nat_lt (length space) m.head_length) (space_too_short m.head_length) (Ok head)
