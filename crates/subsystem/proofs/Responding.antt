-- A request that is answered at one Responder, and its reply.
use Rattle.std.proofs.Common.{◌≡◌, ℕ, ◌+◌, ◌-◌, ◌*◌, ◌≤◌, cond, not, eqb, List, ◌++◌, map, length, take, drop, Ok, Err, Result, sym, refl, ap, ◌∙◌, arith}
use native.Mathlib.Nat.{sub-zero}
use borrow.Rule.Slice.PartMut.{mid_of}
use Rattle.std.proofs.lemmas.List.{length-append, length-drop, take-append-drop, append_assoc, drop-drop, take_all, take-append-le, drop-append-le, take-map, drop-map}
use Rattle.health.specs.Rows.{RowValues, row_of}
use Rattle.health.specs.declared.row.Row.{Row}
use Rattle.wire.specs.Meaning.{CarrierMeaning}
use Rattle.wire.specs.declared.message.Head.{Head}
use Rattle.wire.specs.declared.message.Request.{Request}
use Rattle.commands.specs.Commands.{Asked, subsystem_poll, controller_poll, configuration_set, configuration_get, asked_in}
use Rattle.commands.specs.Status.{head_of, invalid_parameter, invalid_command_size}
use Rattle.commands.specs.SubsystemData.{subsystem_bytes}
use Rattle.register.specs.declared.port.Port.{Port}
use Rattle.model.specs.State.{Responder, Drive, State, with_responders}
use Rattle.model.specs.Drives.{ports_in_use}
use Rattle.model.specs.Requests.{Served, error, with_composite, health_shown, health_poll, by_command, served}
use Rattle.model.specs.Calls.{at_place}
use Rattle.subsystem.specs.Replies.{ReplyIs, polled_drive, responder_with, reply_bytes, Responds}
use Rattle.subsystem.specs.declared.answer.Answered.{Answered}

-- drives that show the same answer the same
module _ (d e : Drive) (registers : d.register ≡ e.register) (statuses : d.status ≡ e.status) (ports : ports_in_use d ≡ ports_in_use e) (x : Responder) where
  same_command : (a : Result Asked Head) → by_command d x a ≡ by_command e x a
  same_command (Err head) = refl
  same_command (Ok (subsystem_poll clear)) = λ i. record {
    head = head_of 0x00 0;
    payload = subsystem_bytes (health_shown (registers i) (statuses i) (ports i) x.composite);
    responder = cond clear (with_composite x 0) x;
  }
  same_command (Ok (controller_poll p)) = λ i. health_poll (polled_drive (registers i)) x p
  same_command (Ok (configuration_set flags)) = refl
  same_command (Ok configuration_get) = refl

  pub same_served : (q : Request) → served d x q ≡ served e x q
  same_served q = λ i. cond (not (eqb q.surplus 0)) (error invalid_command_size x) (cond q.meb (error (invalid_parameter 2) x) (same_command (asked_in q.command) i))

-- data that were written fit their memory
pub data_fits : (payload before after : List ℕ) → after ≡ payload ++ drop (length payload) before → length after ≡ length before → length payload ≤ length before
data_fits payload before after e l =
    let n = ap length e ∙ length-append payload (drop (length payload) before) in
    let d = length-drop (length payload) before in
    omega arith

-- a reply at the front of longer memory
pub at_the_front : (v : Served) (kind : ℕ) (r : Answered) (rows : List RowValues) (n : ℕ) (memory front part : List ℕ) → n ≤ length memory → front ≡ take n memory
    → length part ≡ length front → ReplyIs v kind r rows front part → ReplyIs v kind r rows memory (part ++ drop n memory)
at_the_front v kind r rows n memory front part room e long h =
    let fits = data_fits v.payload front part h.writes_the_data long in
    let k = length v.payload in
    record {
      has_the_head = h.has_the_head;
      has_the_length = h.has_the_length;
      writes_the_data =
          ap (λ l. l ++ drop n memory) h.writes_the_data ∙ append_assoc v.payload (drop k front) (drop n memory)
          ∙ ap (λ l. v.payload ++ l) (sym (drop-append-le k front (drop n memory) fits) ∙ ap (drop k) (ap (λ l. l ++ drop n memory) e ∙ take-append-drop n memory));
      leaves_the_responder = h.leaves_the_responder;
    }

-- a head and the data behind it
reply_whole : (head payload before middle after : List ℕ) (k : ℕ) → length head ≡ k → after ≡ head ++ drop k middle
    → drop k middle ≡ payload ++ drop (length payload) (drop k before) → after ≡ (head ++ payload) ++ drop (length (head ++ payload)) before
reply_whole head payload before middle after k l e d =
    e ∙ ap (λ v. head ++ v) d ∙ sym (append_assoc head payload (drop (length payload) (drop k before)))
    ∙ ap (λ v. (head ++ payload) ++ v) (drop-drop (length payload) k before ∙ ap (λ n. drop n before) (ap (λ n. n + length payload) (sym l) ∙ sym (length-append head payload)))

-- from what the calls below promise
pub responds : (k : CarrierMeaning) (s : State) (r : ℕ) (x : Responder) (q : Request) (v : Served) (a : Answered) (kind : ℕ) (rows : List RowValues) (n : ℕ)
    (before middle after : List ℕ) (s' : State) → v ≡ served s.drive x q
    → ReplyIs v kind a rows (drop k.head_length before) (drop k.head_length middle)
    → n ≡ k.head_length + a.length
    → after ≡ k.write_head q.tag a.head ++ drop k.head_length middle
    → s' ≡ with_responders s (at_place s.responders r (λ _. responder_with kind a.composite.bits rows))
    → Responds k s r x q n before after s'
responds k s r x q v a kind rows n before middle after s' same is en ea es =
    let head = k.write_head q.tag a.head in
    let long = k.head_has_its_length q.tag a.head in
    let whole : head ++ v.payload ≡ reply_bytes k q (served s.drive x q) = λ i. k.write_head q.tag ((is.has_the_head ∙ ap (λ w. w.head) same) i) ++ (same i).payload in
    record {
      has_the_length = en ∙ (let l = length-append head v.payload in let e = is.has_the_length in omega arith) ∙ ap length whole;
      writes_the_reply = reply_whole head v.payload before middle after k.head_length long ea is.writes_the_data ∙ ap (λ b. b ++ drop (length b) before) whole;
      changes_this_responder = es ∙ ap (λ y. with_responders s (at_place s.responders r (λ _. y))) (is.leaves_the_responder ∙ ap (λ w. w.responder) same);
    }

-- ---- over the code's memory

-- the ports in use are lent, and a rest is not
pub ports_shown : (n : ℕ) (ports more : List Port) → n ≤ length ports → take (length (mid_of 0 (n - 0) ports)) (mid_of 0 (n - 0) ports) ≡ take n (ports ++ more)
ports_shown n ports more l =
    take_all (length (mid_of 0 (n - 0) ports)) (mid_of 0 (n - 0) ports) (omega arith) ∙ ap (λ k. take k ports) (sub-zero n) ∙ sym (take-append-le n ports more l)

-- the rows of a Responder are lent, and a rest is not
pub own_rows_are : (c r k n : ℕ) (rows rest : List Row) → k ≡ r * c → n ≡ c → k + c ≤ length rows
    → take c (drop (r * c) (map row_of (rows ++ rest))) ≡ map row_of (mid_of k n rows)
own_rows_are c r k n rows rest ek en l =
    let d = length-drop k rows in
    ap (λ j. take c (drop j (map row_of (rows ++ rest)))) (sym ek) ∙ ap (take c) (drop-map row_of k (rows ++ rest) ∙ ap (map row_of) (drop-append-le k rows rest (omega arith)))
    ∙ take-map row_of c (drop k rows ++ rest) ∙ ap (map row_of) (take-append-le c (drop k rows) rest (omega arith)) ∙ ap (λ j. map row_of (take j (drop k rows))) (sym en)
