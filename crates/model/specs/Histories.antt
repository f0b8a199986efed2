-- The words of the law, over the calls of a history and their answers alone.
use Rattle.std.specs.Prelude.{◌≡◌, ℕ, suc, ◌+◌, ◌*◌, ◌/◌, ◌^◌, ◌<◌, ◌≤◌, Bool, true, cond, ◌⊎◌, List, [], ◌∷◌, ◌++◌, take, drop, Some, None, Ok, Option, ◌==◌}
use Rattle.health.specs.Words.{bit}
use Rattle.health.specs.Values.{HealthValues, reported_health}
use Rattle.health.specs.declared.report.Report.{Report}
use Rattle.health_rules.specs.FlagRule.{gained}
use Rattle.wire.specs.Bytes.{word_at}
use Rattle.wire.specs.declared.message.Request.{Request}
use Rattle.commands.specs.Commands.{Asked, subsystem_poll, controller_poll, configuration_set, asked_in}
use Rattle.commands.specs.Status.{head_of}
use Rattle.commands.specs.declared.controller_poll.ControllerHealthPoll.{ControllerHealthPoll}
use Rattle.register.specs.Controllers.{ControllerValues}
use Rattle.model.specs.State.{Responder, State}
use Rattle.model.specs.Calls.{Call, report, set_link, set_status, request, reset, Answer, refused, accepted, replied, answer, next, responder_at}

-- a call and what was answered
pub record Event : Type 0 where
  pub call : Call
  pub answer : Answer

-- a call at a state, with its answer
abbrev pub event : State → Call → Event
event s c = record { call = c; answer = answer s c }

-- a history's calls with their answers, oldest first
abbrev pub events : State → List Call → List Event
events s [] = []
events s (c ∷ cs) = event s c ∷ events (next s c) cs

-- ---- whom a call concerns

-- the drive's calls, and the requests and resets that name r
abbrev pub concerns : ℕ → Call → Bool
concerns r (report rows id p) = true
concerns r (set_link ports id up) = true
concerns r (set_status status) = true
concerns r (request n k rows ports bytes space) = n == r
concerns r (reset n rows) = n == r

-- the history without the requests and resets that name a number other than r
abbrev pub without_others : ℕ → List Call → List Call
without_others r [] = []
without_others r (c ∷ cs) = cond (concerns r c) (c ∷ without_others r cs) (without_others r cs)

-- the answers to those calls
abbrev pub answers_without_others : ℕ → List Event → List Answer
answers_without_others r [] = []
answers_without_others r (e ∷ es) = cond (concerns r e.call) (e.answer ∷ answers_without_others r es) (answers_without_others r es)

-- ---- what happened

-- none of the events has the property
abbrev pub NoneOf : (Event → Type 0) → List Event → Type 0
NoneOf P [] = Unit {0}
NoneOf P (e ∷ es) = (P e → ⊥) × NoneOf P es

-- C happened, with the events before it, and E has not happened since
pub record Since (C : List Event → Event → Type 0) (E : Event → Type 0) (t : List Event) : Type 0 where
  pub before : List Event
  pub this : Event
  pub later : List Event
  pub splits : t ≡ before ++ (this ∷ later)
  pub happened : C before this
  pub not_since : NoneOf E later

-- ---- reports

-- an accepted report, by its ID and what it says
pub record Accepted : Type 0 where
  pub id : ℕ
  pub report : Report

-- the report of a call that was accepted
abbrev accepted_in : Call → Answer → Option Accepted
accepted_in (report rows id p) accepted = Some (record { id = id; report = p })
accepted_in (report rows id p) (refused f) = None
accepted_in (report rows id p) (replied b) = None
accepted_in (set_link ports id up) a = None
accepted_in (set_status status) a = None
accepted_in (request n k rows ports bytes space) a = None
accepted_in (reset n rows) a = None

-- the report that an event accepts, if it does
abbrev pub accepted_report : Event → Option Accepted
accepted_report e = accepted_in e.call e.answer

-- the health that an accepted report gives the ID, else h
abbrev pub health_by : ℕ → HealthValues → Option Accepted → HealthValues
health_by id h None = h
health_by id h (Some a) = cond (a.id == id) (reported_health a.report) h

-- the health last accepted for the ID, else h
abbrev pub last_accepted : ℕ → HealthValues → List Event → HealthValues
last_accepted id h [] = h
last_accepted id h (e ∷ es) = last_accepted id (health_by id h (accepted_report e)) es

-- the controller is on the list
abbrev pub Enrolled : ControllerValues → List ControllerValues → Type 0
Enrolled c [] = ⊥
Enrolled c (x ∷ xs) = (x ≡ c) ⊎ Enrolled c xs

-- the report is of the ID, and gains flag f against the health h
abbrev pub Gains : ℕ → ℕ → HealthValues → Option Accepted → Type 0
Gains id f h None = ⊥
Gains id f h (Some a) = (a.id ≡ id) × (bit (gained h a.report) f ≡ true)

-- the event is an accepted report that changes field f of the controller with the ID, against the health last accepted for it since
-- opening, else that at opening
abbrev pub Changes : State → ℕ → ℕ → List Event → Event → Type 0
Changes s id f before e =
    (c : ControllerValues) × Enrolled c s.drive.register.controllers × (c.id ≡ id) × Gains id f (last_accepted id c.health before) (accepted_report e)

-- ---- requests and resets at r

-- a call and its answer, as below
abbrev SucceedsIn : ℕ → Asked → ℕ → List ℕ → Call → Answer → Type 0
SucceedsIn r asked nmresp payload (request n k rows ports bytes space) (replied out) =
    (n ≡ r)
    × ((q : Request) × (k.read_request bytes ≡ Ok q) × (asked_in q.command ≡ Ok asked))
    × (k.read_head (take k.head_length out) ≡ Ok (head_of 0x00 nmresp))
    × (drop k.head_length out ≡ payload)
SucceedsIn r asked nmresp payload (request n k rows ports bytes space) (refused f) = ⊥
SucceedsIn r asked nmresp payload (request n k rows ports bytes space) accepted = ⊥
SucceedsIn r asked nmresp payload (report rows id p) a = ⊥
SucceedsIn r asked nmresp payload (set_link ports id up) a = ⊥
SucceedsIn r asked nmresp payload (set_status status) a = ⊥
SucceedsIn r asked nmresp payload (reset n rows) a = ⊥

-- the event is a request at r that asks this and was granted without an error reply, with this NMRESP and this data
abbrev pub Succeeds : ℕ → Asked → ℕ → List ℕ → Event → Type 0
Succeeds r asked nmresp payload e = SucceedsIn r asked nmresp payload e.call e.answer

-- a call and its answer, as below
abbrev ResetsIn : ℕ → Call → Answer → Type 0
ResetsIn r (reset n rows) accepted = n ≡ r
ResetsIn r (reset n rows) (refused f) = ⊥
ResetsIn r (reset n rows) (replied b) = ⊥
ResetsIn r (report rows id p) a = ⊥
ResetsIn r (set_link ports id up) a = ⊥
ResetsIn r (set_status status) a = ⊥
ResetsIn r (request n k rows ports bytes space) a = ⊥

-- the event is a granted reset of r
abbrev pub Resets : ℕ → Event → Type 0
Resets r e = ResetsIn r e.call e.answer

-- ---- entries: 16 bytes each, one behind another, as many as NMRESP bits 23:16 say

-- the entry at a place of the data
abbrev pub entry_at : List ℕ → ℕ → List ℕ
entry_at payload i = take 16 (drop (i * 16) payload)

-- how many entries a reply has
abbrev pub entry_count : ℕ → ℕ
entry_count nmresp = nmresp / 2 ^ 16

-- the Controller ID of an entry
abbrev pub id_in : List ℕ → ℕ
id_in entry = word_at entry 0

-- the changed flags of an entry
abbrev pub flags_in : List ℕ → ℕ
flags_in entry = word_at entry 9

-- r clears the controller with the ID: a successful health poll with Clear Changed Flags that returns it
pub record Clears (r id : ℕ) (e : Event) : Type 0 where
  pub poll : ControllerHealthPoll
  pub nmresp : ℕ
  pub payload : List ℕ
  pub succeeds : Succeeds r (controller_poll poll) nmresp payload e
  pub clearing : poll.clear_changed_flags ≡ true
  pub returns_it : (i : ℕ) × (i < entry_count nmresp) × (id_in (entry_at payload i) ≡ id)

-- after this nothing of before stands for r of the controller
abbrev pub EndsStanding : ℕ → ℕ → Event → Type 0
EndsStanding r id e = Resets r e ⊎ Clears r id e

-- field f of the controller stands changed for r: an accepted report changed it after the latest of opening, r's granted resets and
-- r's clearings of the controller
abbrev pub StandsChanged : State → List Event → ℕ → ℕ → ℕ → Type 0
StandsChanged s t r id f = Since (Changes s id f) (EndsStanding r id) t

-- r clears composite flag f: a successful Configuration Set with its bit, a successful subsystem poll with Clear Status, or a granted reset
pub data ClearsComposite (r f : ℕ) (e : Event) : Type 0 where
  by_configuration_set : (flags nmresp : ℕ) (payload : List ℕ) → Succeeds r (configuration_set flags) nmresp payload e → bit flags f ≡ true → ClearsComposite r f e
  by_subsystem_poll : (nmresp : ℕ) (payload : List ℕ) → Succeeds r (subsystem_poll true) nmresp payload e → ClearsComposite r f e
  by_reset : Resets r e → ClearsComposite r f e

-- a report changes field f of a controller for which it did not stand changed for r
abbrev pub Rises : State → ℕ → ℕ → List Event → Event → Type 0
Rises s r f before e = (id : ℕ) × Changes s id f before e × (StandsChanged s before r id f → ⊥)

-- some field f rose for r after the latest of opening and r's clearings of composite flag f
abbrev pub Rose : State → List Event → ℕ → ℕ → Type 0
Rose s t r f = Since (Rises s r f) (ClearsComposite r f) t

-- ---- page walks

-- a page from an ID on: a successful health poll at r with all three types, all five selection bits and Clear Changed Flags
pub record Page (r start : ℕ) (e : Event) : Type 0 where
  pub poll : ControllerHealthPoll
  pub nmresp : ℕ
  pub payload : List ℕ
  pub succeeds : Succeeds r (controller_poll poll) nmresp payload e
  pub clearing : poll.clear_changed_flags ≡ true
  pub all_types : (poll.incf ≡ true) × (poll.incpf ≡ true) × (poll.incvf ≡ true)
  pub all_selected : (poll.selection.cwarn ≡ true) × (poll.selection.spare ≡ true) × (poll.selection.pdlu ≡ true) × (poll.selection.ctemp ≡ true) × (poll.selection.csts ≡ true)
  pub from : poll.sctlid ≡ start

-- the last entry of a page has the ID
abbrev pub LastIs : {r start : ℕ} {e : Event} → Page r start e → ℕ → Type 0
LastIs p id = (m : ℕ) × (entry_count p.nmresp ≡ suc m) × (id_in (entry_at p.payload m) ≡ id)

-- the end: fewer entries than MAXRENT + 1, or the last ID is the largest enrolled
abbrev pub IsEnd : State → {r start : ℕ} {e : Event} → Page r start e → Type 0
IsEnd s p =
    (entry_count p.nmresp < p.poll.maxrent + 1)
    ⊎ ((id : ℕ) × LastIs p id × ((c : ControllerValues) → Enrolled c s.drive.register.controllers → c.id ≤ id))

-- among the events are pages at r from an ID on to the end, each next from the last ID of the page before plus 1
pub data Walks (s : State) (r : ℕ) : ℕ → List Event → Type 0 where
  last_page : {start : ℕ} {e : Event} {t : List Event} → (p : Page r start e) → IsEnd s p → Walks s r start (e ∷ t)
  next_page : {start : ℕ} {e : Event} {t : List Event} {id : ℕ} → (p : Page r start e) → LastIs p id → Walks s r (id + 1) t → Walks s r start (e ∷ t)
  other_event : {start : ℕ} {e : Event} {t : List Event} → Walks s r start t → Walks s r start (e ∷ t)

-- the Responder is there, and has composite flag f
abbrev pub HasComposite : Option Responder → ℕ → Type 0
HasComposite None f = ⊥
HasComposite (Some x) f = bit x.composite f ≡ true

-- r's composite flag f is set
abbrev pub CompositeSet : State → ℕ → ℕ → Type 0
CompositeSet s r f = HasComposite (responder_at s r) f
