-- A flag in an entry is set exactly if its field stands changed for the Responder.
use Rattle.std.proofs.Common.{◌≡◌, ℕ, ◌+◌, ◌*◌, ◌^◌, ◌<◌, true, ◌↔◌, List, length, sym, ◌∙◌, subst, arith}
use Rattle.health.specs.Words.{bit}
use Rattle.health.specs.Rows.{RowValues}
use Rattle.commands.specs.Commands.{controller_poll}
use Rattle.commands.specs.declared.controller_poll.ControllerHealthPoll.{ControllerHealthPoll}
use Rattle.register.specs.Controllers.{ControllerValues}
use Rattle.model.specs.State.{State}
use Rattle.model.specs.Requests.{qualifies, chosen}
use Rattle.model.specs.Calls.{Call, after}
use Rattle.model.specs.Histories.{Event, event, events, Succeeds, entry_at, entry_count, id_in, flags_in, StandsChanged}
use Rattle.model.proofs.Entries.{bytes_of, Fits, id_read, flags_read, entry_all}
use Rattle.model.proofs.ParallelRows.{parallel_chosen}
use Rattle.model.proofs.Replies.{success}
use Rattle.model.proofs.RowInvariant.{RowInvariant}
use Rattle.model.proofs.Invariant.{Opening, invariant_after}

-- an entry has the flags of the fields that stand
StandsIn : (s : State) (t : List Event) (r : ℕ) → List ℕ → Type 0
StandsIn s t r entry = (f : ℕ) → f < 16 → (bit (flags_in entry) f ≡ true) ↔ StandsChanged s t r (id_in entry) f

entry_exact : (s : State) (t : List Event) (r : ℕ) (x c : ControllerValues) (w : RowValues) → RowInvariant s t r x c w → StandsIn s t r (bytes_of (c, w))
unfolding StandsIn
entry_exact s t r x c w φ f l =
    let fits : Fits (c, w) = (let i = φ.same_id in omega (arith, φ.id_fits), φ.selectable.sixteen_bits) in
    let i : id_in (bytes_of (c, w)) ≡ x.id = id_read (c, w) fits ∙ φ.same_id in
    subst (λ (v : ℕ). (bit (flags_in (bytes_of (c, w))) f ≡ true) ↔ StandsChanged s t r v f) (sym i)
    (subst (λ (v : ℕ). (bit v f ≡ true) ↔ StandsChanged s t r x.id f) (sym (flags_read (c, w) fits)) (φ.flags_stand f l))

-- the second field of the law
pub flags_exact : (s : State) → Opening s → (h : List Call) (c : Call) (r : ℕ) (p : ControllerHealthPoll) (nmresp : ℕ) (payload : List ℕ)
    → Succeeds r (controller_poll p) nmresp payload (event (after s h) c)
    → (i f : ℕ) → i < entry_count nmresp → f < 16
    → (bit (flags_in (entry_at payload i)) f ≡ true) ↔ StandsChanged s (events s h) r (id_in (entry_at payload i)) f
unfolding StandsIn
flags_exact s o h c r p nmresp payload z i f l m =
    let now = after s h in
    let u = success now c r (controller_poll p) nmresp payload z in
    let es = chosen (qualifies p) (p.maxrent + 1) now.drive.register.controllers u.who.rows in
    let n : length es * 2 ^ 16 ≡ nmresp = u.nmresp_is in
    subst (λ (b : List ℕ). (bit (flags_in (entry_at b i)) f ≡ true) ↔ StandsChanged s (events s h) r (id_in (entry_at b i)) f) u.payload_is
    (entry_all (StandsIn s (events s h) r) es
    (parallel_chosen (λ e. StandsIn s (events s h) r (bytes_of e)) (qualifies p) (p.maxrent + 1) (λ x c w φ. entry_exact s (events s h) r x c w φ)
    ((invariant_after s o h).rows_hold r u.who u.there))
    i (omega arith) f m)
