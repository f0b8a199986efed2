-- The parts of a reply.
use Rattle.std.proofs.Common.{◌≡◌, ℕ, ◌+◌, ◌*◌, ◌^◌, ◌<◌, ◌≤◌, true, false, cond, ltb, List, [], ◌∷◌, ◌++◌, length, drop, Ok, Result, sym, refl, ap, ◌∙◌, subst, arith}
use Rattle.std.proofs.lemmas.Bool.{le-ltb, ne_eqb}
use Rattle.health.specs.Rows.{RowValues}
use Rattle.wire.specs.Refusals.{Refusal}
use Rattle.commands.specs.Status.{head_of}
use Rattle.commands.specs.declared.controller_poll.ControllerHealthPoll.{ControllerHealthPoll}
use Rattle.polls.specs.Polls.{rows_after_poll, entries_space, entries_answer, rows_after_entries, space_after_entries}
use Rattle.register.specs.Controllers.{ControllerValues}
use Rattle.register.specs.Registers.{RegisterValues}
use Rattle.model.specs.State.{Responder}
use Rattle.model.specs.Requests.{Served, qualifies, cleared, returned, entries, largest_id, with_rows, polled, health_poll}
use Rattle.model.proofs.Entries.{chosen_at_most}
use Rattle.subsystem.proofs.Checks.{passed, placed}
use Rattle.subsystem.specs.Replies.{ReplyIs, polled_drive, responder_with}
use Rattle.subsystem.specs.declared.answer.Answered.{Answered}

length-entries : (es : List (ControllerValues × RowValues)) → length (entries es) ≡ 16 * length es
length-entries [] = refl
length-entries (e ∷ es) = let i = length-entries es in omega arith

-- entries that were written
module _ (p : ControllerHealthPoll) (m : RegisterValues) (ws : List RowValues) (before : List ℕ) (found : ℕ)
    (answered : ◌≡◌ {A = Result ℕ Refusal} (Ok found) (entries_answer p m.controllers ws (length before))) where
  abbrev cs : List ControllerValues
  cs = m.controllers

  room : ltb (length before) (entries_space p) ≡ false
  room = (passed _ _ _ found answered).0

  pub found_is : found ≡ length (returned p cs ws)
  found_is = placed _ _ (length (returned p cs ws)) found answered

  pub found_at_most : found ≤ p.maxrent + 1
  found_at_most = let l = chosen_at_most (qualifies p) (p.maxrent + 1) cs ws in omega (arith, found_is)

  pub found_few : p.maxrent < 2 ^ 8 → (p.maxrent ≡ 255 → ⊥) → found ≤ 255
  found_few small few = let l = found_at_most in omega (arith, few)

  -- the Responder of a poll, with or without Clear Changed Flags
  polled_responder : (kind composite : ℕ) → responder_with kind composite (rows_after_poll p cs ws)
      ≡ cond p.clear_changed_flags (with_rows (responder_with kind composite ws) (cleared (qualifies p) (p.maxrent + 1) cs ws)) (responder_with kind composite ws)
  polled_responder kind composite =
      elim p.clear_changed_flags as (λ b. ◌≡◌ {A = Responder} (responder_with kind composite (cond b (cleared (qualifies p) (p.maxrent + 1) cs ws) ws))
      (cond b (with_rows (responder_with kind composite ws) (cleared (qualifies p) (p.maxrent + 1) cs ws)) (responder_with kind composite ws))) [ true ↦ refl | false ↦ refl ]

  pub polled_reply : (kind : ℕ) (r : Answered) (ws' : List RowValues) (after : List ℕ)
      → p.sctlid ≤ largest_id cs → (p.maxrent ≡ 255 → ⊥) → r.head ≡ head_of 0x00 (found * 2 ^ 16) → r.length ≡ 16 * found
      → ws' ≡ rows_after_entries p cs ws (length before) → after ≡ space_after_entries p cs ws before
      → ReplyIs (health_poll (polled_drive m) (responder_with kind r.composite.bits ws) p) kind r ws' before after
  polled_reply kind r ws' after low few eh el er ea =
      let long = length-entries (returned p cs ws) in
      let x = responder_with kind r.composite.bits ws in
      let granted : polled (polled_drive m) x p ≡ health_poll (polled_drive m) x p = sym (simp (le-ltb (largest_id cs) p.sctlid low, ne_eqb p.maxrent 255 few)) in
      subst (λ (v : Served). ReplyIs v kind r ws' before after) granted (record {
        has_the_head = eh ∙ ap (λ n. head_of 0x00 (n * 2 ^ 16)) found_is;
        has_the_length = el ∙ omega (arith, found_is);
        writes_the_data = ea ∙ simp room (ap (λ k. entries (returned p cs ws) ++ drop k before) (sym long));
        leaves_the_responder = ap (responder_with kind r.composite.bits) (er ∙ simp room) ∙ polled_responder kind r.composite.bits;
      })
