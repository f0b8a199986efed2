-- Which requests clear a composite flag.
use Rattle.std.proofs.Common.{◌≡◌, ℕ, Bool, true, false, not, ◌&&◌, List, Ok, Option, sym, refl, ap, ◌∙◌}
use Rattle.std.proofs.Math.Bool.{and-true}
use Rattle.std.proofs.lemmas.Bool.{true≢false, not-false, not_from_true, and_right, cond_both}
use Rattle.health.specs.Words.{bit}
use Rattle.wire.specs.Meaning.{CarrierMeaning}
use Rattle.wire.specs.declared.message.Head.{Head}
use Rattle.commands.specs.Commands.{Asked, subsystem_poll, controller_poll, configuration_set, configuration_get, asked_in}
use Rattle.model.specs.State.{Responder, Drive}
use Rattle.model.specs.Requests.{error, served}
use Rattle.model.specs.Histories.{Event, ClearsComposite, by_configuration_set, by_subsystem_poll, by_reset}
use Rattle.model.proofs.Bits.{bit_zero, bit-without}
use Rattle.model.proofs.Replies.{answered, Granted, ErrorHead, asking, error_fails, success_same, answer_succeeds}

-- composite flag f is not cleared by what is asked
abbrev pub keeps : ℕ → Asked → Bool
keeps f (subsystem_poll clear) = not clear
keeps f (controller_poll p) = true
keeps f (configuration_set flags) = not (bit flags f)
keeps f configuration_get = true

pub composite_bit : (f : ℕ) (d : Drive) (x : Responder) (a : Asked) → bit (answered d x a).responder.composite f ≡ (bit x.composite f && keeps f a)
composite_bit f d x (subsystem_poll true) = bit_zero f ∙ sym (and_right (bit x.composite f) false refl)
composite_bit f d x (subsystem_poll false) = sym (and-true (bit x.composite f))
composite_bit f d x (controller_poll p) =
    cond_both p.clear_changed_flags _ _ (λ (v : Responder). bit v.composite f ≡ (bit x.composite f && true))
    (λ _. sym (and-true (bit x.composite f))) (λ _. sym (and-true (bit x.composite f)))
composite_bit f d x (configuration_set flags) = bit-without x.composite flags f
composite_bit f d x configuration_get = sym (and-true (bit x.composite f))

module _ (d : Drive) (n : ℕ) (k : CarrierMeaning) (rows ports : ℕ) (bytes : List ℕ) (space : ℕ) (out : List ℕ) (y : Responder) (o : Option Responder) (g : Granted d o k bytes out y) (f : ℕ) where
  abbrev e : Event
  e = asking d n k rows ports bytes space out y o g

  -- it clears no composite flag of another Responder
  pub clears_own : (r : ℕ) → ClearsComposite r f e → n ≡ r
  clears_own r (by_configuration_set flags nmresp payload h b) = h.0
  clears_own r (by_subsystem_poll nmresp payload h) = h.0
  clears_own r (by_reset h) = absurd h

  pub error_clears_nothing : (head : Head) → ErrorHead head → served d g.who g.asked ≡ error head g.who → (r : ℕ) → ClearsComposite r f e → ⊥
  error_clears_nothing head b i r (by_configuration_set flags nmresp payload h _) =
      error_fails d n k rows ports bytes space out y o g head b i r (configuration_set flags) nmresp payload h
  error_clears_nothing head b i r (by_subsystem_poll nmresp payload h) =
      error_fails d n k rows ports bytes space out y o g head b i r (subsystem_poll true) nmresp payload h
  error_clears_nothing head b i r (by_reset h) = h

  pub clears_is : (a : Asked) → asked_in g.asked.command ≡ Ok a → served d g.who g.asked ≡ answered d g.who a
      → (r : ℕ) → ClearsComposite r f e → keeps f a ≡ false
  clears_is a asks is r (by_configuration_set flags nmresp payload h b) =
      let u = success_same d n k rows ports bytes space out y o g a asks is r (configuration_set flags) nmresp payload h in
      ap (keeps f) (sym u.same_asked) ∙ not_from_true (bit flags f) b
  clears_is a asks is r (by_subsystem_poll nmresp payload h) =
      let u = success_same d n k rows ports bytes space out y o g a asks is r (subsystem_poll true) nmresp payload h in
      ap (keeps f) (sym u.same_asked)
  clears_is a asks is r (by_reset h) = absurd h

  pub is_clearing : (a : Asked) → asked_in g.asked.command ≡ Ok a → served d g.who g.asked ≡ answered d g.who a
      → keeps f a ≡ false → ClearsComposite n f e
  is_clearing (subsystem_poll true) asks is h =
      by_subsystem_poll _ _ (answer_succeeds d n k rows ports bytes space out y o g (subsystem_poll true) asks is)
  is_clearing (subsystem_poll false) asks is h = absurd (true≢false h)
  is_clearing (controller_poll p) asks is h = absurd (true≢false h)
  is_clearing (configuration_set flags) asks is h =
      by_configuration_set flags _ _ (answer_succeeds d n k rows ports bytes space out y o g (configuration_set flags) asks is) (not-false (bit flags f) h)
  is_clearing configuration_get asks is h = absurd (true≢false h)
