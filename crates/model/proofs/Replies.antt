-- What is known of a request that was granted, and of one that succeeded.
use Rattle.std.proofs.Common.{◌≡◌, ℕ, ◌+◌, ◌*◌, ◌%◌, ◌^◌, ◌<◌, Bool, true, false, not, eqb, ltb, List, ◌++◌, take, drop, Some, None, Ok, Err, Option, Result, sym, refl, ap, ◌∙◌, subst, arith}
use Rattle.std.proofs.lemmas.List.{take_at, drop_at}
use Rattle.std.proofs.lemmas.Bool.{cond_both, eqb-false}
use Rattle.health.specs.Flags.{named_flags}
use Rattle.wire.specs.Refusals.{Refusal, space_too_short}
use Rattle.wire.specs.Meaning.{CarrierMeaning}
use Rattle.wire.specs.declared.message.Command.{Command}
use Rattle.wire.specs.declared.message.Head.{Head}
use Rattle.wire.specs.declared.message.Request.{Request}
use Rattle.commands.specs.Commands.{Asked, subsystem_poll, controller_poll, configuration_set, configuration_get, asked_in, if_health_status_change}
use Rattle.commands.specs.Status.{head_of}
use Rattle.model.specs.State.{Responder, Drive, State, needed_rows, with_responders}
use Rattle.model.specs.ServiceRefusals.{responder_of_another_kind, memory_too_short}
use Rattle.model.specs.Requests.{Served, error, qualifies, largest_id, polled, by_command, served, Outcome, refuse, grant, refused_if, reply_to}
use Rattle.model.specs.Calls.{Call, report, set_link, set_status, request, reset, replied, responder_at, count_of_responders, reply_space, request_outcome, at_place, outcome_answer, outcome_state, next}
use Rattle.model.specs.Histories.{Event, event, Succeeds}
use Rattle.model.proofs.Entries.{chosen_at_most}

-- ---- the ways of a request

-- the head of an error reply
pub record ErrorHead (head : Head) : Type 0 where
  pub is_error : 0 < head.status
  pub status_fits : head.status < 2 ^ 8
  pub nmresp_fits : head.nmresp < 2 ^ 24

error_head : (status byte : ℕ) → 0 < status → status < 2 ^ 8 → byte < 2 ^ 8 → ErrorHead (head_of status (byte * 2 ^ 8))
error_head status byte l h b = record { is_error = l; status_fits = h; nmresp_fits = omega arith }

-- MAXRENT has 8 bits
abbrev MaxrentFits : Asked → Type 0
MaxrentFits (subsystem_poll clear) = Unit {0}
MaxrentFits (controller_poll p) = p.maxrent < 2 ^ 8
MaxrentFits (configuration_set flags) = Unit {0}
MaxrentFits configuration_get = Unit {0}

abbrev AskedFits : Result Asked Head → Type 0
AskedFits (Ok a) = MaxrentFits a
AskedFits (Err head) = ErrorHead head

asked_fits : (c : Command) → AskedFits (asked_in c)
asked_fits c =
    cond_both (eqb c.opcode 0x01) _ _ (λ a. AskedFits a) (λ _. tt) λ _.
    cond_both (eqb c.opcode 0x02) _ _ (λ a. AskedFits a) (λ _. omega arith) λ _.
    cond_both (eqb c.opcode 0x03) _ _ (λ a. AskedFits a) (λ _. configured (configuration_set (named_flags c.nmd1)) tt) λ _.
    cond_both (eqb c.opcode 0x04) _ _ (λ a. AskedFits a) (λ _. configured configuration_get tt) λ _.
    error_head 3 0 (omega arith) (omega arith) (omega arith)
  where
    configured : (a : Asked) → MaxrentFits a → AskedFits (if_health_status_change c.nmd0 a)
    configured a h =
        cond_both (eqb (c.nmd0 % 2 ^ 8) 0x02) _ _ (λ a. AskedFits a) (λ _. h) (λ _. error_head 4 8 (omega arith) (omega arith) (omega arith))

-- what a command does where there is no error reply
abbrev pub answered : Drive → Responder → Asked → Served
answered d x (subsystem_poll clear) = by_command d x (Ok (subsystem_poll clear))
answered d x (controller_poll p) = polled d x p
answered d x (configuration_set flags) = by_command d x (Ok (configuration_set flags))
answered d x configuration_get = by_command d x (Ok configuration_get)

-- an error reply, or what the command does
pub data Way (d : Drive) (x : Responder) (q : Request) (v : Served) : Type 0 where
  by_error : (head : Head) → ErrorHead head → v ≡ error head x → Way d x q v
  by_answer : (a : Asked) → asked_in q.command ≡ Ok a → (answered d x a).head.nmresp < 2 ^ 24 → v ≡ answered d x a → Way d x q v

module _ (d : Drive) (x : Responder) (q : Request) where
  failing : (status byte : ℕ) → 0 < status → status < 2 ^ 8 → byte < 2 ^ 8 → Way d x q (error (head_of status (byte * 2 ^ 8)) x)
  failing status byte l h b = by_error _ (error_head status byte l h b) refl

  command_way : (a : Result Asked Head) → asked_in q.command ≡ a → AskedFits a → Way d x q (by_command d x a)
  command_way (Err head) e b = by_error head b refl
  command_way (Ok (subsystem_poll clear)) e b = by_answer _ e (omega arith) refl
  command_way (Ok (controller_poll p)) e b =
      cond_both (ltb (largest_id d.register.controllers) p.sctlid) _ _ (Way d x q) (λ _. failing 4 8 (omega arith) (omega arith) (omega arith)) λ _.
      cond_both (eqb p.maxrent 255) _ _ (Way d x q) (λ _. failing 4 10 (omega arith) (omega arith) (omega arith)) λ f.
      let n = eqb-false p.maxrent 255 f in
      let l = chosen_at_most (qualifies p) (p.maxrent + 1) d.register.controllers x.rows in
      by_answer _ e (omega arith) refl
  command_way (Ok (configuration_set flags)) e b = by_answer _ e (omega arith) refl
  command_way (Ok configuration_get) e b = by_answer _ e (omega arith) refl

  pub way : Way d x q (served d x q)
  way =
      cond_both (not (eqb q.surplus 0)) _ _ (Way d x q) (λ _. failing 5 0 (omega arith) (omega arith) (omega arith)) λ _.
      cond_both q.meb _ _ (Way d x q) (λ _. failing 4 2 (omega arith) (omega arith) (omega arith)) λ _.
      command_way (asked_in q.command) refl (asked_fits q.command)

answered_head : (d : Drive) (x : Responder) (a : Asked) → (answered d x a).head ≡ head_of 0x00 (answered d x a).head.nmresp
answered_head d x (subsystem_poll clear) = refl
answered_head d x (controller_poll p) = refl
answered_head d x (configuration_set flags) = refl
answered_head d x configuration_get = refl

-- the head of every reply can be read back
head_fits : (d : Drive) (x : Responder) (q : Request) (v : Served) → Way d x q v → (v.head.status < 2 ^ 8) × (v.head.nmresp < 2 ^ 24)
head_fits d x q v (by_error head h e) = let s = ap (λ (u : Served). u.head.status) e in let n = ap (λ (u : Served). u.head.nmresp) e in (omega (arith, h.status_fits), omega (arith, h.nmresp_fits))
head_fits d x q v (by_answer a h b e) =
    let s = ap (λ (u : Served). u.head.status) e in
    let z = ap (λ (u : Head). u.status) (answered_head d x a) in
    let n = ap (λ (u : Served). u.head.nmresp) e in (omega arith, omega arith)

-- ---- a request that was granted

pub record Granted (d : Drive) (o : Option Responder) (k : CarrierMeaning) (bytes out : List ℕ) (y : Responder) : Type 0 where
  pub who : Responder
  pub there : o ≡ Some who
  pub asked : Request
  pub reads : k.read_request bytes ≡ Ok asked
  pub writes : out ≡ k.write_head asked.tag (served d who asked).head ++ (served d who asked).payload
  pub leaves : y ≡ (served d who asked).responder

refuse≢grant : {f : Refusal} {out : List ℕ} {y : Responder} → refuse f ≡ grant out y → ⊥
refuse≢grant e = let z : ◌≡◌ {A = ℕ} 0 1 = cc in omega arith

not_refused : (b : Bool) (f : Refusal) (o : Outcome) (out : List ℕ) (y : Responder) → refused_if b f o ≡ grant out y → o ≡ grant out y
not_refused true f o out y e = absurd (refuse≢grant e)
not_refused false f o out y e = e

granted_by : (d : Drive) (x : Responder) (k : CarrierMeaning) (bytes out : List ℕ) (y : Responder) (read : Result Request Refusal)
    → k.read_request bytes ≡ read → reply_to d x k read ≡ grant out y → Granted d (Some x) k bytes out y
granted_by d x k bytes out y (Err f) h e = absurd (refuse≢grant e)
granted_by d x k bytes out y (Ok q) h e = record { who = x; there = refl; asked = q; reads = h; writes = cc; leaves = cc }

pub granted : (d : Drive) (n : ℕ) (o : Option Responder) (r : ℕ) (k : CarrierMeaning) (rows ports : ℕ) (bytes : List ℕ) (space : ℕ) (out : List ℕ) (y : Responder)
    → request_outcome d n o r k rows ports bytes space ≡ grant out y → Granted d o k bytes out y
granted d n None r k rows ports bytes space out y e = absurd (refuse≢grant e)
granted d n (Some x) r k rows ports bytes space out y e =
    granted_by d x k bytes out y (k.read_request bytes) refl
    (not_refused (ltb space (reply_space k)) (space_too_short (reply_space k)) _ out y
    (not_refused (ltb ports d.port_count) (memory_too_short d.port_count) _ out y
    (not_refused (ltb rows (needed_rows d n)) (memory_too_short (needed_rows d n)) _ out y
    (not_refused (not (eqb x.kind k.kind)) (responder_of_another_kind r) _ out y e))))

-- what the asker reads in the reply
reply_read : (d : Drive) (x : Responder) (k : CarrierMeaning) (q : Request) (out : List ℕ)
    → out ≡ k.write_head q.tag (served d x q).head ++ (served d x q).payload
    → (k.read_head (take k.head_length out) ≡ Ok (served d x q).head) × (drop k.head_length out ≡ (served d x q).payload)
reply_read d x k q out e =
    let v = served d x q in
    let n = k.head_has_its_length q.tag v.head in
    let f = head_fits d x q v (way d x q) in (
      ap (λ (l : List ℕ). k.read_head (take k.head_length l)) e ∙ ap k.read_head (take_at _ v.payload k.head_length n)
          ∙ k.head_reads_back q.tag v.head f.0 f.1,
      ap (drop k.head_length) e ∙ drop_at _ v.payload k.head_length n,
    )

-- ---- a request that succeeded

same_head : {a b : Head} → ◌≡◌ {A = Result Head Refusal} (Ok a) (Ok b) → a ≡ b
same_head e = cc

module _ (d : Drive) (n : ℕ) (k : CarrierMeaning) (rows ports : ℕ) (bytes : List ℕ) (space : ℕ) (out : List ℕ) (y : Responder) (o : Option Responder) (g : Granted d o k bytes out y) where
  -- the event of the request
  abbrev pub asking : Event
  asking = record { call = request n k rows ports bytes space; answer = replied out }

  abbrev reply : Served
  reply = served d g.who g.asked

  pub record Succeeded (r : ℕ) (a : Asked) (nmresp : ℕ) (payload : List ℕ) : Type 0 where
    pub at_r : n ≡ r
    pub asks : asked_in g.asked.command ≡ Ok a
    pub head_is : reply.head ≡ head_of 0x00 nmresp
    pub payload_is : reply.payload ≡ payload

  succeeds_read : (r : ℕ) (a : Asked) (nmresp : ℕ) (payload : List ℕ) → Succeeds r a nmresp payload asking → Succeeded r a nmresp payload
  succeeds_read r a nmresp payload h =
      let read = reply_read d g.who k g.asked out g.writes in
      let same : g.asked ≡ h.1.0 = let u = g.reads in let v = h.1.1 in cc in
      record {
        at_r = h.0;
        asks = ap (λ (q : Request). asked_in q.command) same ∙ h.1.2;
        head_is = same_head (sym read.0 ∙ h.2);
        payload_is = sym read.1 ∙ h.3;
      }

  -- an error reply is no success
  pub error_fails : (head : Head) → ErrorHead head → reply ≡ error head g.who → (r : ℕ) (a : Asked) (nmresp : ℕ) (payload : List ℕ) → Succeeds r a nmresp payload asking → ⊥
  error_fails head b e r a nmresp payload h =
      let z = ap (λ (u : Head). u.status) (succeeds_read r a nmresp payload h).head_is in
      let s = ap (λ (u : Served). u.head.status) e in
      omega (arith, b.is_error)

  module _ (a : Asked) (asks : asked_in g.asked.command ≡ Ok a) (is : reply ≡ answered d g.who a) where
    -- what else succeeded is the same
    pub record SameSuccess (r : ℕ) (a' : Asked) (nmresp : ℕ) (payload : List ℕ) : Type 0 where
      pub same_responder : n ≡ r
      pub same_asked : a' ≡ a
      pub same_nmresp : (answered d g.who a).head.nmresp ≡ nmresp
      pub same_payload : (answered d g.who a).payload ≡ payload

    pub success_same : (r : ℕ) (a' : Asked) (nmresp : ℕ) (payload : List ℕ) → Succeeds r a' nmresp payload asking → SameSuccess r a' nmresp payload
    success_same r a' nmresp payload h =
        let s = succeeds_read r a' nmresp payload h in
        record {
          same_responder = s.at_r;
          same_asked = let u = s.asks in cc;
          same_nmresp = ap (λ (u : Served). u.head.nmresp) (sym is) ∙ ap (λ (u : Head). u.nmresp) s.head_is;
          same_payload = ap (λ (u : Served). u.payload) (sym is) ∙ s.payload_is;
        }

    -- what a command does is a success
    pub answer_succeeds : Succeeds n a (answered d g.who a).head.nmresp (answered d g.who a).payload asking
    answer_succeeds =
        let read = reply_read d g.who k g.asked out g.writes in (
          refl,
          (g.asked, g.reads, asks),
          read.0 ∙ ap {B = Result Head Refusal} Ok (ap (λ (u : Served). u.head) is ∙ answered_head d g.who a),
          read.1 ∙ ap (λ (u : Served). u.payload) is,
        )

-- a request that succeeds at a state: what it answers, and the state after it
pub record Success (s : State) (c : Call) (r : ℕ) (a : Asked) (nmresp : ℕ) (payload : List ℕ) : Type 0 where
  pub who : Responder
  pub there : responder_at s r ≡ Some who
  pub nmresp_is : (answered s.drive who a).head.nmresp ≡ nmresp
  pub payload_is : (answered s.drive who a).payload ≡ payload
  pub leaves : next s c ≡ with_responders s (at_place s.responders r (λ _. (answered s.drive who a).responder))

pub success : (s : State) (c : Call) (r : ℕ) (a : Asked) (nmresp : ℕ) (payload : List ℕ) → Succeeds r a nmresp payload (event s c) → Success s c r a nmresp payload
success s (report rows id p) r a nmresp payload h = absurd h
success s (set_link ports id up) r a nmresp payload h = absurd h
success s (set_status status) r a nmresp payload h = absurd h
success s (reset n rows) r a nmresp payload h = absurd h
success s (request n k rows ports bytes space) r a nmresp payload h =
    by_outcome (request_outcome s.drive (count_of_responders s) (responder_at s n) n k rows ports bytes space) refl h
  where
    by_outcome : (o : Outcome) → request_outcome s.drive (count_of_responders s) (responder_at s n) n k rows ports bytes space ≡ o
        → Succeeds r a nmresp payload (record { call = request n k rows ports bytes space; answer = outcome_answer o })
        → Success s (request n k rows ports bytes space) r a nmresp payload
    by_outcome (refuse f) e h = absurd h
    by_outcome (grant out y) e h =
        let g = granted s.drive (count_of_responders s) (responder_at s n) n k rows ports bytes space out y e in
        by_way g (way s.drive g.who g.asked)
      where
        by_way : (g : Granted s.drive (responder_at s n) k bytes out y) → Way s.drive g.who g.asked (served s.drive g.who g.asked) → Success s (request n k rows ports bytes space) r a nmresp payload
        by_way g (by_error head b i) = absurd (error_fails s.drive n k rows ports bytes space out y (responder_at s n) g head b i r a nmresp payload h)
        by_way g (by_answer a' asks b i) =
            let u = success_same s.drive n k rows ports bytes space out y (responder_at s n) g a' asks i r a nmresp payload h in
            let d = s.drive in
            let x = g.who in
            record {
              who = x;
              there = subst (λ (m : ℕ). responder_at s m ≡ Some x) u.same_responder g.there;
              nmresp_is = ap (λ (v : Asked). (answered d x v).head.nmresp) u.same_asked ∙ u.same_nmresp;
              payload_is = ap (λ (v : Asked). (answered d x v).payload) u.same_asked ∙ u.same_payload;
              leaves = ap (λ (o : Outcome). outcome_state o s n) e
                  ∙ (λ j. with_responders s (at_place s.responders (u.same_responder j) (λ _. (g.leaves ∙ ap (λ (v : Served). v.responder) i ∙ sym (ap (λ (v : Asked). (answered d x v).responder) u.same_asked)) j)));
            }
