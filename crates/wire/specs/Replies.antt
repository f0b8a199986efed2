-- A reply at the asking end.
use Rattle.std.specs.Prelude.{ℕ, List, length, drop, Ok, Err, Result, nat_lt}
use Rattle.wire.specs.declared.message.Head.{Head}
use Rattle.wire.specs.Meaning.{CarrierMeaning}
use Rattle.wire.specs.Refusals.{Refusal, refuse_if, cut_short}

-- a head, and the response data behind it
pub record ReplyMeaning : Type 0 where
  pub head : Head
  pub payload : List ℕ

-- a head that was read, with the data
abbrev pub head_then : List ℕ → Result Head Refusal → Result ReplyMeaning Refusal
head_then payload (Ok head) = Ok (record { head = head; payload = payload })
head_then payload (Err refused) = Err refused

-- response data stand from the end of the head on
abbrev pub reply_read : CarrierMeaning → List ℕ → Result ReplyMeaning Refusal
reply_read m bytes =
    refuse_if (nat_lt (length bytes) m.head_length) (cut_short (length bytes))
    (head_then (drop m.head_length bytes) (m.read_head bytes))
