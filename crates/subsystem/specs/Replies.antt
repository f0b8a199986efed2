-- What a request is answered at one Responder, and what the reply memory then holds.
use Rattle.std.specs.Prelude.{◌≡◌, ℕ, List, [], ◌++◌, length, drop, Ok, Err, Result}
use Rattle.health.specs.Rows.{RowValues}
use Rattle.wire.specs.Refusals.{Refusal}
use Rattle.wire.specs.Meaning.{CarrierMeaning}
use Rattle.wire.specs.declared.message.Request.{Request}
use Rattle.register.specs.Registers.{RegisterValues}
use Rattle.register.specs.declared.port.Port.{Port}
use Rattle.model.specs.State.{Responder, SubsystemStatus, Drive, State, with_responders}
use Rattle.model.specs.Fitting.{initial_status}
use Rattle.model.specs.Requests.{Served, served}
use Rattle.model.specs.Calls.{Answer, refused, accepted, replied, at_place, Step}
use Rattle.subsystem.specs.declared.answer.Answered.{Answered}

-- a Responder, by its parts
abbrev pub responder_with : ℕ → ℕ → List RowValues → Responder
responder_with kind composite ws = record { kind = kind; composite = composite; rows = ws }

-- a drive of which only the register, the status and the ports in use matter
abbrev pub drive_shown : RegisterValues → SubsystemStatus → List Port → Drive
drive_shown m status ports = record { register = m; status = status; port_count = length ports; ports = ports }

-- a drive of which only the register matters
abbrev pub polled_drive : RegisterValues → Drive
polled_drive m = drive_shown m initial_status []

-- the code answered this: its head, its data at the front of the memory behind the head and no byte behind them, and the Responder
pub record ReplyIs (v : Served) (kind : ℕ) (r : Answered) (rows : List RowValues) (before after : List ℕ) : Type 0 where
  pub has_the_head : r.head ≡ v.head
  pub has_the_length : r.length ≡ length v.payload
  pub writes_the_data : after ≡ v.payload ++ drop (length v.payload) before
  pub leaves_the_responder : responder_with kind r.composite.bits rows ≡ v.responder

-- a request is served so, whatever the kind of the Responder, by a drive that shows this, over these composite flags and rows
abbrev pub Serves : RegisterValues → SubsystemStatus → List Port → ℕ → List RowValues → Request → Answered → List RowValues → List ℕ → List ℕ → Type 0
Serves m status ports composite ws q r ws' before after =
    (kind : ℕ) → ReplyIs (served (drive_shown m status ports) (responder_with kind composite ws) q) kind r ws' before after

-- ---- a call

-- the bytes of a reply over a carrier
abbrev pub reply_bytes : CarrierMeaning → Request → Served → List ℕ
reply_bytes k q v = k.write_head q.tag v.head ++ v.payload

-- Responder r, which is x, answered a request with n bytes, and wrote them and no byte behind them
pub record Responds (k : CarrierMeaning) (s : State) (r : ℕ) (x : Responder) (q : Request) (n : ℕ) (before after : List ℕ) (s' : State) : Type 0 where
  pub has_the_length : n ≡ length (reply_bytes k q (served s.drive x q))
  pub writes_the_reply : after ≡ reply_bytes k q (served s.drive x q) ++ drop (length (reply_bytes k q (served s.drive x q))) before
  pub changes_this_responder : s' ≡ with_responders s (at_place s.responders r (λ _. (served s.drive x q).responder))

-- what a request is answered and leaves: the length of the reply or the refusal, the reply memory, and the state
pub record Exchange : Type 0 where
  pub answer : Result ℕ Refusal
  pub reply : List ℕ
  pub state : State

-- the length of a reply
abbrev pub length_answered : Answer → Result ℕ Refusal
length_answered (replied bytes) = Ok (length bytes)
length_answered (refused f) = Err f
length_answered accepted = Ok 0

-- the reply memory then: the reply and what stood behind it, or all that it held
abbrev pub reply_after : Answer → List ℕ → List ℕ
reply_after (replied bytes) space = bytes ++ drop (length bytes) space
reply_after (refused f) space = space
reply_after accepted space = space

-- a request that is taken, over this reply memory
abbrev pub exchanged : Step → List ℕ → Exchange
exchanged t space = record { answer = length_answered t.answer; reply = reply_after t.answer space; state = t.state }
