-- A controller's in-band tunnel: submission entries of 64 bytes, and heads of 4.
use Rattle.std.specs.Prelude.{◌≡◌, ℕ, ◌^◌, ◌<◌, Bool, true, false, cond, not, ◌||◌, List, [], ◌∷◌, ◌++◌, length, replicate, Ok, Result, ◌==◌, nat_lt, slice_index, refl}
use Rattle.std.proofs.Common.{lit≤}
use Rattle.wire.specs.declared.message.Command.{Command}
use Rattle.wire.specs.declared.message.Request.{Request}
use Rattle.wire.specs.declared.message.Head.{Head}
use Rattle.wire.specs.Bytes.{dword_at, triple_at, dword_then, triple_then, dword_reads_back, triple_reads_back}
use Rattle.wire.specs.Meaning.{CarrierMeaning, plain_request, same_command, same_head}
use Rattle.wire.specs.Nmp.{is_request}
use Rattle.wire.specs.Refusals.{Refusal, AtLayer3, refuse_if, cut_short, wrong_first_byte, wrong_message_type, wrong_direction, test_at_layer_3, header_at_layer_3}

-- NVMe-MI Send and NVMe-MI Receive
abbrev pub is_direction : ℕ → Bool
is_direction byte = byte == 0x1d || byte == 0x1e

-- Send carries opcode 03h, Receive every other
abbrev pub direction : ℕ → ℕ
direction opcode = cond (opcode == 0x03) 0x1d 0x1e

-- byte 0 is the direction, byte 41 the NMP, byte 44 the opcode; NMD0 is from byte 48, NMD1 from byte 52 on
abbrev pub request_in : List ℕ → Request
request_in bytes = plain_request (record { opcode = slice_index bytes 44; nmd0 = dword_at bytes 48; nmd1 = dword_at bytes 52 })

-- refused if not of 64 bytes, then by byte 0, then by the NMP, then by the direction
abbrev pub read_request : List ℕ → Result Request Refusal
read_request bytes =
    refuse_if (not (length bytes == 64)) (cut_short (length bytes))
    (refuse_if (not (is_direction (slice_index bytes 0))) wrong_first_byte
    (refuse_if (not (is_request (slice_index bytes 41))) (wrong_message_type 41)
    (refuse_if (not (slice_index bytes 0 == direction (slice_index bytes 44))) wrong_direction
    (Ok (request_in bytes)))))

-- a submission entry has no tag
abbrev pub write_request : Bool → Command → List ℕ
write_request tag command =
    direction command.opcode ∷ replicate 40 0
    ++ (0x08 ∷ 0 ∷ 0 ∷ command.opcode ∷ 0 ∷ 0 ∷ 0 ∷ dword_then command.nmd0 (dword_then command.nmd1 (replicate 8 0)))

-- nor has a head
abbrev pub write_head : Bool → Head → List ℕ
write_head tag head = head.status ∷ triple_then head.nmresp []

-- status in byte 0, NMRESP from byte 1 on
abbrev pub head_in : List ℕ → Head
head_in bytes = record { status = slice_index bytes 0; nmresp = triple_at bytes 1 }

-- refused under 4 bytes
abbrev pub read_head : List ℕ → Result Head Refusal
read_head bytes = refuse_if (nat_lt (length bytes) 4) (cut_short (length bytes)) (Ok (head_in bytes))

known_direction : (b : Bool) → (is_direction (cond b 0x1d 0x1e) ≡ true) × ((cond b 0x1d 0x1e == cond b 0x1d 0x1e) ≡ true)
known_direction true = (refl, refl)
known_direction false = (refl, refl)

pub request_reads_back : (c : Command) → c.opcode < 2 ^ 8 → c.nmd0 < 2 ^ 32 → c.nmd1 < 2 ^ 32
    → read_request (write_request false c) ≡ Ok (plain_request c)
request_reads_back c h h0 h1 =
    let known = known_direction (c.opcode == 0x03) in
    rw (known.0, known.1) (same_command c.opcode (dword_reads_back c.nmd0 h0) (dword_reads_back c.nmd1 h1))

pub head_reads_back : (tag : Bool) (head : Head) → head.status < 2 ^ 8 → head.nmresp < 2 ^ 24 → read_head (write_head tag head) ≡ Ok head
head_reads_back tag head h k = same_head head.status (triple_reads_back head.nmresp k)

pub request_at_layer_3 : (bytes : List ℕ) → AtLayer3 (read_request bytes)
request_at_layer_3 bytes =
    let misdirected = not (slice_index bytes 0 == direction (slice_index bytes 44)) in
    header_at_layer_3 (not (length bytes == 64)) (not (is_direction (slice_index bytes 0))) (not (is_request (slice_index bytes 41))) (length bytes) 41
    (refuse_if misdirected wrong_direction (Ok (request_in bytes))) (test_at_layer_3 misdirected wrong_direction (Ok (request_in bytes)) refl tt)

pub head_at_layer_3 : (bytes : List ℕ) → AtLayer3 (read_head bytes)
head_at_layer_3 bytes = test_at_layer_3 (nat_lt (length bytes) 4) (cut_short (length bytes)) (Ok (head_in bytes)) refl tt

-- kind 2
abbrev pub tunnel : CarrierMeaning
tunnel = record {
  kind = 2;
  head_length = 4;
  request_length = 64;
  read_request = read_request;
  write_request = write_request;
  write_head = write_head;
  read_head = read_head;
  kind_at_least_1 = lit≤ tt;
  kind_at_most_255 = lit≤ tt;
  head_at_most_80 = lit≤ tt;
  request_at_most_128 = lit≤ tt;
  request_has_its_length = λ tag command. refl;
  head_has_its_length = λ tag head. refl;
  request_refused_at_layer_3 = request_at_layer_3;
  head_refused_at_layer_3 = head_at_layer_3;
  request_reads_back = request_reads_back;
  head_reads_back = head_reads_back;
}
