-- Calls in service, their answers, and what each does to the state.
use Rattle.std.specs.Prelude.{ℕ, zero, suc, ◌+◌, Bool, not, List, [], ◌∷◌, map, length, Some, None, Ok, Err, Option, Result, ◌==◌, nat_lt}
use Rattle.std.specs.List.{slice_get}
use Rattle.health.specs.Rows.{clear_row}
use Rattle.health.specs.declared.report.Report.{Report}
use Rattle.wire.specs.Refusals.{Refusal, refuse_if, space_too_short}
use Rattle.wire.specs.Meaning.{CarrierMeaning}
use Rattle.model.specs.State.{Responder, SubsystemStatus, Drive, State, needed_rows, with_responders, with_drive}
use Rattle.model.specs.ServiceRefusals.{no_such_responder, responder_of_another_kind, memory_too_short}
use Rattle.model.specs.Reports.{report_answer, reported}
use Rattle.model.specs.Drives.{link_answer, linked, with_status}
use Rattle.model.specs.Requests.{Outcome, refuse, grant, refused_if, reply_to}

-- a call with its arguments; `rows` and `ports` are how much of that memory is lent to it, a beginning of the same memory each time,
-- and `space` is how many bytes are lent for the reply
pub data Call : Type 0 where
  report : (rows id : ℕ) → Report → Call
  set_link : (ports id : ℕ) → Bool → Call
  set_status : SubsystemStatus → Call
  request : (responder : ℕ) → CarrierMeaning → (rows ports : ℕ) → List ℕ → (space : ℕ) → Call
  reset : (responder rows : ℕ) → Call

-- what a call is answered
pub data Answer : Type 0 where
  refused : Refusal → Answer
  accepted : Answer
  -- the bytes of the reply
  replied : List ℕ → Answer

-- the Responder with a number
abbrev pub responder_at : State → ℕ → Option Responder
responder_at s r = slice_get s.responders r

-- how many Responders there are
abbrev pub count_of_responders : State → ℕ
count_of_responders s = length s.responders

-- space for a head and 255 entries of 16 bytes
abbrev pub reply_space : CarrierMeaning → ℕ
reply_space k = k.head_length + 4080

-- refused if there is no such Responder, or it is of another kind, or rows, port memory or reply space are too short; then as the carrier reads it
abbrev pub request_outcome : Drive → ℕ → Option Responder → ℕ → CarrierMeaning → ℕ → ℕ → List ℕ → ℕ → Outcome
request_outcome d n None r k rows ports bytes space = refuse (no_such_responder r)
request_outcome d n (Some x) r k rows ports bytes space =
    refused_if (not (x.kind == k.kind)) (responder_of_another_kind r)
    (refused_if (nat_lt rows (needed_rows d n)) (memory_too_short (needed_rows d n))
    (refused_if (nat_lt ports d.port_count) (memory_too_short d.port_count)
    (refused_if (nat_lt space (reply_space k)) (space_too_short (reply_space k)) (reply_to d x k (k.read_request bytes)))))

-- refused if there is no such Responder, or if too few rows are lent
abbrev pub reset_answer : Drive → ℕ → Option Responder → ℕ → ℕ → Result (Unit {0}) Refusal
reset_answer d n None r rows = Err (no_such_responder r)
reset_answer d n (Some x) r rows = refuse_if (nat_lt rows (needed_rows d n)) (memory_too_short (needed_rows d n)) (Ok tt)

-- its rows and its composite flags are cleared
abbrev pub reset_responder : Responder → Responder
reset_responder x = record { kind = x.kind; composite = 0; rows = map (λ _. clear_row) x.rows }

-- one Responder changed, and no other
abbrev pub at_place : List Responder → ℕ → (Responder → Responder) → List Responder
at_place [] r f = []
at_place (x ∷ xs) zero f = f x ∷ xs
at_place (x ∷ xs) (suc r) f = x ∷ at_place xs r f

-- the answer of a call of the drive or of a reset
abbrev pub judged : Result (Unit {0}) Refusal → Answer
judged (Ok granted) = accepted
judged (Err f) = refused f

-- the state after a call of the drive or a reset: a refusal leaves it as it was
abbrev pub unless_refused : Result (Unit {0}) Refusal → State → State → State
unless_refused (Ok granted) before after = after
unless_refused (Err f) before after = before

-- what a request is answered
abbrev pub outcome_answer : Outcome → Answer
outcome_answer (refuse f) = refused f
outcome_answer (grant bytes x) = replied bytes

-- the state after a request: no other Responder changes
abbrev pub outcome_state : Outcome → State → ℕ → State
outcome_state (refuse f) s r = s
outcome_state (grant bytes x) s r = with_responders s (at_place s.responders r (λ _. x))

-- what each call is answered
abbrev pub answer : State → Call → Answer
answer s (report rows id p) = judged (report_answer s.drive (count_of_responders s) rows id p)
answer s (set_link ports id up) = judged (link_answer s.drive ports id)
answer s (set_status status) = accepted
answer s (request r k rows ports bytes space) =
    outcome_answer (request_outcome s.drive (count_of_responders s) (responder_at s r) r k rows ports bytes space)
answer s (reset r rows) = judged (reset_answer s.drive (count_of_responders s) (responder_at s r) r rows)

-- the state after each call
abbrev pub next : State → Call → State
next s (report rows id p) = unless_refused (report_answer s.drive (count_of_responders s) rows id p) s (reported id p s)
next s (set_link ports id up) = unless_refused (link_answer s.drive ports id) s (with_drive s (linked id up s.drive))
next s (set_status status) = with_drive s (with_status status s.drive)
next s (request r k rows ports bytes space) =
    outcome_state (request_outcome s.drive (count_of_responders s) (responder_at s r) r k rows ports bytes space) s r
next s (reset r rows) =
    unless_refused (reset_answer s.drive (count_of_responders s) (responder_at s r) r rows) s
    (with_responders s (at_place s.responders r reset_responder))

-- the answers to a history, a list of calls, refused ones too
abbrev pub answers : State → List Call → List Answer
answers s [] = []
answers s (c ∷ cs) = answer s c ∷ answers (next s c) cs

-- the state after a history
abbrev pub after : State → List Call → State
after s [] = s
after s (c ∷ cs) = after (next s c) cs

-- what a call is answered, and the state after it
pub record Step : Type 0 where
  pub answer : Answer
  pub state : State

-- a call taken at a state
abbrev pub step : State → Call → Step
step s c = record { answer = answer s c; state = next s c }
