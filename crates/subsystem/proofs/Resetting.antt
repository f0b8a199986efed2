-- The cases of a reset.
use Rattle.std.proofs.Common.{◌≡◌, ℕ, ◌*◌, ltb, List, [], ◌∷◌, map, length, replicate, Some, None, Ok, Err, Result, sym, refl, ap, ◌∙◌}
use Rattle.health.specs.Rows.{RowValues, clear_row}
use Rattle.health.specs.declared.row.Row.{Row}
use Rattle.wire.specs.Refusals.{Refusal, refuse_if}
use Rattle.register.specs.Registers.{RegisterValues}
use Rattle.register.specs.declared.port.Port.{Port}
use Rattle.model.specs.State.{State, with_responders}
use Rattle.model.specs.State as model
use Rattle.model.specs.ServiceRefusals.{no_such_responder, memory_too_short}
use Rattle.model.specs.Calls.{reset, judged, unless_refused, at_place, reset_answer, reset_responder, responder_at, count_of_responders, step}
use Rattle.subsystem.specs.Responders.{ResponderValues, no_composite}
use Rattle.subsystem.specs.States.{with_its_rows, state_of}
use Rattle.subsystem.specs.declared.service.Subsystem.{Subsystem}
use Rattle.subsystem.proofs.Reporting.{count_is}

-- what a reset is answered, and the state after it, by the answer of its tests
pub reset_taken : (s : State) (r rows : ℕ) (o : Result (Unit {0}) Refusal) → reset_answer s.drive (count_of_responders s) (responder_at s r) r rows ≡ o
    → record { answer = judged o; state = unless_refused o s (with_responders s (at_place s.responders r reset_responder)) } ≡ step s (reset r rows)
reset_taken s r rows o e = sym (λ i. record { answer = judged (e i); state = unless_refused (e i) s (with_responders s (at_place s.responders r reset_responder)) })

-- the tests
module _ (x : Subsystem) (m : RegisterValues) (rows : List Row) (ports : List Port) (r lent : ℕ) where
  abbrev s : State
  s = state_of x m rows ports

  abbrev needed : ℕ
  needed = length x.responders.items * length m.controllers

  pub reset_absent : responder_at s r ≡ None → reset_answer s.drive (count_of_responders s) (responder_at s r) r lent ≡ Err (no_such_responder r)
  reset_absent e = ap (λ o. reset_answer s.drive (count_of_responders s) o r lent) e

  module _ (y : model.Responder) (there : responder_at s r ≡ Some y) where
    by_parts : reset_answer s.drive (count_of_responders s) (responder_at s r) r lent ≡ refuse_if (ltb lent needed) (memory_too_short needed) (Ok tt)
    by_parts = λ i. reset_answer s.drive (count_is x m rows ports i) (there i) r lent

    pub reset_tested : (o : Result (Unit {0}) Refusal) → o ≡ refuse_if (ltb lent needed) (memory_too_short needed) (Ok tt)
        → reset_answer s.drive (count_of_responders s) (responder_at s r) r lent ≡ o
    reset_tested o e = by_parts ∙ sym e

-- rows that are all cleared
pub all_cleared : (ws : List RowValues) (n : ℕ) → length ws ≡ n → map (λ _. clear_row) ws ≡ replicate n clear_row
all_cleared ws n e = go ws ∙ ap (λ k. replicate k clear_row) e
  where
    go : (ws : List RowValues) → map (λ _. clear_row) ws ≡ replicate (length ws) clear_row
    go [] = refl
    go (w ∷ ws) = ap (λ (l : List RowValues). clear_row ∷ l) (go ws)

-- a Responder without flags, with rows that are all cleared, is that Responder reset
pub is_reset : (h old : ResponderValues) (ws before : List RowValues) (n : ℕ) → h ≡ no_composite old.kind → ws ≡ replicate n clear_row → length before ≡ n
    → with_its_rows h ws ≡ reset_responder (with_its_rows old before)
is_reset h old ws before n eh ew l = λ i. record { kind = (eh i).kind; composite = (eh i).composite; rows = (ew ∙ sym (all_cleared before n l)) i }
