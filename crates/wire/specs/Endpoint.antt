-- Messages of a Management Endpoint. Byte 0 is 84h, byte 1 the NMP, bit 0 of byte 2 the MEB.
use Rattle.std.specs.Prelude.{◌≡◌, ℕ, ◌-◌, ◌%◌, ◌^◌, ◌<◌, Bool, true, false, cond, not, List, [], ◌∷◌, length, Ok, Result, ◌==◌, nat_lt, slice_index, refl}
use Rattle.std.proofs.Common.{lit≤}
use Rattle.wire.specs.declared.message.Command.{Command}
use Rattle.wire.specs.declared.message.Request.{Request}
use Rattle.wire.specs.declared.message.Head.{Head}
use Rattle.wire.specs.Bytes.{dword_at, triple_at, dword_then, triple_then, dword_reads_back, triple_reads_back}
use Rattle.wire.specs.Meaning.{CarrierMeaning, plain_request, same_command, same_head}
use Rattle.wire.specs.Nmp.{is_request, is_reply}
use Rattle.wire.specs.Refusals.{Refusal, AtLayer3, refuse_if, cut_short, wrong_first_byte, wrong_message_type, header_at_layer_3}

-- opcode in byte 4, NMD0 from byte 8 and NMD1 from byte 12 on; bytes from 16 on are surplus
abbrev pub request_in : List ℕ → Request
request_in bytes = record {
  tag = (slice_index bytes 1 % 2 == 1);
  command = record { opcode = slice_index bytes 4; nmd0 = dword_at bytes 8; nmd1 = dword_at bytes 12 };
  meb = (slice_index bytes 2 % 2 == 1);
  surplus = length bytes - 16;
}

-- refused under 16 bytes, then by byte 0, then by the NMP
abbrev pub read_request : List ℕ → Result Request Refusal
read_request bytes =
    refuse_if (nat_lt (length bytes) 16) (cut_short (length bytes))
    (refuse_if (not (slice_index bytes 0 == 0x84)) wrong_first_byte
    (refuse_if (not (is_request (slice_index bytes 1))) (wrong_message_type 1)
    (Ok (request_in bytes))))

-- NMP 09h with tag 1
abbrev pub write_request : Bool → Command → List ℕ
write_request tag command =
    0x84 ∷ cond tag 0x09 0x08 ∷ 0 ∷ 0 ∷ command.opcode ∷ 0 ∷ 0 ∷ 0 ∷ dword_then command.nmd0 (dword_then command.nmd1 [])

-- status in byte 4, NMRESP from byte 5 on
abbrev pub write_head : Bool → Head → List ℕ
write_head tag head = 0x84 ∷ cond tag 0x89 0x88 ∷ 0 ∷ 0 ∷ head.status ∷ triple_then head.nmresp []

-- a head, by its bytes
abbrev pub head_in : List ℕ → Head
head_in bytes = record { status = slice_index bytes 4; nmresp = triple_at bytes 5 }

-- refused under 8 bytes, then by byte 0, then by the NMP
abbrev pub read_head : List ℕ → Result Head Refusal
read_head bytes =
    refuse_if (nat_lt (length bytes) 8) (cut_short (length bytes))
    (refuse_if (not (slice_index bytes 0 == 0x84)) wrong_first_byte
    (refuse_if (not (is_reply (slice_index bytes 1))) (wrong_message_type 1)
    (Ok (head_in bytes))))

pub request_reads_back : (c : Command) → c.opcode < 2 ^ 8 → c.nmd0 < 2 ^ 32 → c.nmd1 < 2 ^ 32
    → read_request (write_request false c) ≡ Ok (plain_request c)
request_reads_back c h h0 h1 = same_command c.opcode (dword_reads_back c.nmd0 h0) (dword_reads_back c.nmd1 h1)

pub head_reads_back : (tag : Bool) (head : Head) → head.status < 2 ^ 8 → head.nmresp < 2 ^ 24 → read_head (write_head tag head) ≡ Ok head
head_reads_back true head h k = same_head head.status (triple_reads_back head.nmresp k)
head_reads_back false head h k = same_head head.status (triple_reads_back head.nmresp k)

pub request_at_layer_3 : (bytes : List ℕ) → AtLayer3 (read_request bytes)
request_at_layer_3 bytes =
    header_at_layer_3 (nat_lt (length bytes) 16) (not (slice_index bytes 0 == 0x84)) (not (is_request (slice_index bytes 1))) (length bytes) 1
    (Ok (request_in bytes)) tt

pub head_at_layer_3 : (bytes : List ℕ) → AtLayer3 (read_head bytes)
head_at_layer_3 bytes =
    header_at_layer_3 (nat_lt (length bytes) 8) (not (slice_index bytes 0 == 0x84)) (not (is_reply (slice_index bytes 1))) (length bytes) 1
    (Ok (head_in bytes)) tt

-- kind 1
abbrev pub endpoint : CarrierMeaning
endpoint = record {
  kind = 1;
  head_length = 8;
  request_length = 16;
  read_request = read_request;
  write_request = write_request;
  write_head = write_head;
  read_head = read_head;
  kind_at_least_1 = lit≤ tt;
  kind_at_most_255 = lit≤ tt;
  head_at_most_80 = lit≤ tt;
  request_at_most_128 = lit≤ tt;
  request_has_its_length = λ tag command. refl;
  head_has_its_length = λ tag head. refl;
  request_refused_at_layer_3 = request_at_layer_3;
  head_refused_at_layer_3 = head_at_layer_3;
  request_reads_back = request_reads_back;
  head_reads_back = head_reads_back;
}
