-- The NVMe-MI Message Parameters byte (NMP): bit 7 is ROR (0 request, 1 reply), bits 6:3 are the message type, bit 0 is the CSI.
use Rattle.std.specs.Prelude.{ℕ, ◌/◌, ◌%◌, Bool, if◌then◌else◌, ◌&&◌, ◌==◌}
use Rattle.wire.specs.declared.nmp.Ror.{Ror}
use Rattle.wire.specs.declared.nmp.Ror.TheVariants.{Request, Reply}

-- 0 in a request, 1 in a reply
abbrev pub ror : ℕ → ℕ
ror nmp = nmp / 128 % 2

-- 1 in an NVMe-MI command
abbrev pub message_type : ℕ → ℕ
message_type nmp = nmp / 8 % 16

-- the ROR that the code names
abbrev pub ror_bit : Ror → ℕ
ror_bit Request = 0
ror_bit Reply = 1

-- the byte of an NVMe-MI command, with tag 1 or 0
abbrev pub nmp_of : Ror → Bool → ℕ
nmp_of Request tag = if tag then 0x09 else 0x08
nmp_of Reply tag = if tag then 0x89 else 0x88

-- of an NVMe-MI command, with this ROR
abbrev pub is_nmp : ℕ → ℕ → Bool
is_nmp r nmp = ror nmp == r && message_type nmp == 1

-- an NVMe-MI command
abbrev pub is_request : ℕ → Bool
is_request nmp = is_nmp 0 nmp

-- the reply to an NVMe-MI command
abbrev pub is_reply : ℕ → Bool
is_reply nmp = is_nmp 1 nmp
