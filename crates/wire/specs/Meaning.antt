-- What a carrier means: how bytes are read as a request, how a request and a reply's head are written, and how a head is read back.
use Rattle.std.specs.Prelude.{◌≡◌, ℕ, ◌^◌, ◌<◌, ◌≤◌, Bool, false, List, length, Ok, Result}
use Rattle.std.proofs.Common.{ap, ap₂}
use Rattle.wire.specs.declared.message.Command.{Command}
use Rattle.wire.specs.declared.message.Request.{Request}
use Rattle.wire.specs.declared.message.Head.{Head}
use Rattle.wire.specs.declared.message.Lengths.{Lengths}
use Rattle.wire.specs.Refusals.{Refusal, AtLayer3}

-- a request with tag 0, MEB 0 and no surplus
abbrev pub plain_request : Command → Request
plain_request command = record { tag = false; command = command; meb = false; surplus = 0 }

-- requests and heads with the same parts are the same
pub same_command : (opcode : ℕ) {a a' b b' : ℕ} → a ≡ a' → b ≡ b'
    → ◌≡◌ {A = Result Request Refusal} (Ok (plain_request (record { opcode = opcode; nmd0 = a; nmd1 = b })))
    (Ok (plain_request (record { opcode = opcode; nmd0 = a'; nmd1 = b' })))
same_command opcode e f = ap₂ {C = Result Request Refusal} (λ a b. Ok (plain_request (record { opcode = opcode; nmd0 = a; nmd1 = b }))) e f

pub same_head : (status : ℕ) {a a' : ℕ} → a ≡ a'
    → ◌≡◌ {A = Result Head Refusal} (Ok (record { status = status; nmresp = a })) (Ok (record { status = status; nmresp = a' }))
same_head status e = ap {B = Result Head Refusal} (λ a. Ok (record { status = status; nmresp = a })) e

-- kind and lengths, the four definitions, their lengths and layer, and the two laws
pub record CarrierMeaning : Type 0 where
  -- 1 to 255
  pub kind : ℕ
  pub head_length : ℕ
  pub request_length : ℕ
  pub read_request : List ℕ → Result Request Refusal
  pub write_request : Bool → Command → List ℕ
  pub write_head : Bool → Head → List ℕ
  pub read_head : List ℕ → Result Head Refusal
  pub kind_at_least_1 : 1 ≤ kind
  pub kind_at_most_255 : kind ≤ 255
  pub head_at_most_80 : head_length ≤ 80
  pub request_at_most_128 : request_length ≤ 128
  pub request_has_its_length : (tag : Bool) (command : Command) → length (write_request tag command) ≡ request_length
  pub head_has_its_length : (tag : Bool) (head : Head) → length (write_head tag head) ≡ head_length
  pub request_refused_at_layer_3 : (bytes : List ℕ) → AtLayer3 (read_request bytes)
  pub head_refused_at_layer_3 : (bytes : List ℕ) → AtLayer3 (read_head bytes)
  -- the two laws: every opcode and pair of dwords written with tag 0 reads back as itself, with no surplus and MEB 0;
  -- every status and NMRESP written with any tag reads back as itself
  pub request_reads_back : (command : Command) → command.opcode < 2 ^ 8 → command.nmd0 < 2 ^ 32 → command.nmd1 < 2 ^ 32
      → read_request (write_request false command) ≡ Ok (plain_request command)
  pub head_reads_back : (tag : Bool) (head : Head) → head.status < 2 ^ 8 → head.nmresp < 2 ^ 24
      → read_head (write_head tag head) ≡ Ok head

-- the kind and the two lengths
abbrev pub lengths_of : CarrierMeaning → Lengths
lengths_of m = record { kind = m.kind; head = m.head_length; request = m.request_length }
