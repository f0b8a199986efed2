-- The law of independent polling.
use Rattle.std.specs.Prelude.{◌≡◌, ℕ, ◌<◌, Bool, true, ◌↔◌, List, ◌++◌}
use Rattle.health.specs.Words.{bit}
use Rattle.wire.specs.Bytes.{word_at}
use Rattle.commands.specs.Commands.{controller_poll, subsystem_poll}
use Rattle.commands.specs.declared.controller_poll.ControllerHealthPoll.{ControllerHealthPoll}
use Rattle.model.specs.State.{State}
use Rattle.model.specs.Calls.{Call, after}
use Rattle.model.specs.Histories.{event, events, without_others, answers_without_others, NoneOf, Succeeds, entry_at, entry_count, id_in, flags_in, StandsChanged, Rose, ClearsComposite, Walks, CompositeSet}

-- s is the state right after opening; h, k and the calls after them are any history, r any number
pub record Law (s : State) : Type 0 where
  -- two histories that are alike but for the requests and resets at others give r and the drive the same answers, to the byte
  pub noninterference : (r : ℕ) (h k : List Call) → without_others r h ≡ without_others r k
      → answers_without_others r (events s h) ≡ answers_without_others r (events s k)
  -- a flag in an entry for r is set exactly if its field stands changed for r
  pub flags_exact : (h : List Call) (c : Call) (r : ℕ) (p : ControllerHealthPoll) (nmresp : ℕ) (payload : List ℕ)
      → Succeeds r (controller_poll p) nmresp payload (event (after s h) c)
      → (i f : ℕ) → i < entry_count nmresp → f < 16
      → (bit (flags_in (entry_at payload i)) f ≡ true) ↔ StandsChanged s (events s h) r (id_in (entry_at payload i)) f
  -- r has not cleared composite flag f since it began to page to the end: then the flag is set, and shown, whenever field f of any
  -- controller stands changed for r
  pub composite_complete : (h k : List Call) (r f : ℕ) → f < 16
      → NoneOf (ClearsComposite r f) (events (after s h) k) → Walks s r 0 (events (after s h) k)
      → (id : ℕ) → StandsChanged s (events s (h ++ k)) r id f
      → CompositeSet (after s (h ++ k)) r f
      × ((c : Call) (clear : Bool) (nmresp : ℕ) (payload : List ℕ)
      → Succeeds r (subsystem_poll clear) nmresp payload (event (after s (h ++ k)) c) → bit (word_at payload 4) f ≡ true)
  -- a composite flag that is shown to r is set exactly if field f of some controller rose for r since r last cleared the flag
  pub composite_exact : (h : List Call) (c : Call) (r : ℕ) (clear : Bool) (nmresp : ℕ) (payload : List ℕ)
      → Succeeds r (subsystem_poll clear) nmresp payload (event (after s h) c)
      → (f : ℕ) → f < 16 → (bit (word_at payload 4) f ≡ true) ↔ Rose s (events s h) r f
