-- The tests of a request before its bytes are read.
use Rattle.std.proofs.Common.{◌≡◌, ℕ, ◌+◌, ◌<◌, false, ltb, leb, List, get_or, Some, None, Ok, Err, Option, Result, sym, refl, ap, ◌∙◌, arith, length}
use Rattle.std.specs.List.{slice_get}
use Rattle.std.proofs.lemmas.Option.{slice_get_within, slice_get_past}
use Rattle.std.proofs.lemmas.Bool.{eq-eqb, ne_eqb, leb-true}
use Rattle.wire.specs.Refusals.{Refusal, refuse_if, space_too_short}
use Rattle.wire.specs.declared.message.Lengths.{Lengths}
use Rattle.model.specs.ServiceRefusals.{no_such_responder, responder_of_another_kind, memory_too_short}
use Rattle.subsystem.specs.Responders.{ResponderValues, responder_of}
use Rattle.subsystem.specs.States.{responders_of}
use Rattle.subsystem.specs.Admission.{lent_enough, admitted_at, admission}
use Rattle.subsystem.specs.declared.lent.Lent.{Lent}
use Rattle.subsystem.specs.declared.responder.Responder.{Responder}
use Rattle.subsystem.specs.declared.service.Subsystem.{Subsystem}
use Rattle.subsystem.proofs.Checks.{refused_so, test_refused}
use Rattle.subsystem.proofs.OneResponder.{nth_in_use}
use Rattle.subsystem.proofs.Reporting.{in_use}

-- a Responder that is absent
pub absent : (x : Subsystem) (responder : ℕ) (lengths : Lengths) (lent : Lent) (f : Refusal)
    → ◌≡◌ {A = Result ℕ Refusal} (Err f) (refuse_if (leb (length x.responders.items) responder) (no_such_responder responder) (Ok responder))
    → Err f ≡ admission (responders_of x) x.port_count responder lengths lent
absent x responder lengths lent f e =
    let t = refused_so (leb (length x.responders.items) responder) (no_such_responder responder) f responder e in
    let past = leb-true (length x.responders.items) responder t.0 in
    ap Err t.1 ∙ sym (ap (λ o. admitted_at o x.port_count responder lengths lent) (slice_get_past (responders_of x) responder (omega (arith, in_use x))))

-- from what the code reads: `seen` are the Responders, and r is the place of the Responder
module _ (x : Subsystem) (r responder : ℕ) (same : r ≡ responder) (lengths : Lengths) (lent : Lent) (there : r < length x.responders.items)
    (seen : List Responder) (all : seen ≡ x.responders.items) (d : Responder) where
  abbrev tested : Result (Unit {0}) Refusal
  tested = admission (responders_of x) x.port_count responder lengths lent

  abbrev kind : ℕ
  kind = (get_or seen r d).kind

  by_responder : admitted_at (Some (responder_of (get_or seen r d))) x.port_count responder lengths lent ≡ tested
  by_responder =
      let o : slice_get (responders_of x) responder ≡ Some (responder_of (get_or seen r d)) =
      ap (slice_get (responders_of x)) (sym same) ∙ nth_in_use x r d there ∙ ap (λ l. Some (responder_of (get_or l r d))) (sym all) in
      sym (ap (λ o. admitted_at o x.port_count responder lengths lent) o)

  pub another_kind : (kind ≡ lengths.kind → ⊥) → Err (responder_of_another_kind responder) ≡ tested
  another_kind e = sym (simp (ne_eqb kind lengths.kind e)) ∙ by_responder

  module _ (of_it : kind ≡ lengths.kind) where
    by_memory : lent_enough x.port_count lengths.head lent ≡ tested
    by_memory = sym (simp (eq-eqb kind lengths.kind of_it)) ∙ by_responder

    pub rows_short : (f : Refusal) → ◌≡◌ {A = Result (Unit {0}) Refusal} (Err f) (refuse_if (ltb lent.rows lent.rows_needed) (memory_too_short lent.rows_needed) (Ok tt)) → Err f ≡ tested
    rows_short f e = sym (test_refused (ltb lent.rows lent.rows_needed) (memory_too_short lent.rows_needed) f _ e) ∙ by_memory

    module _ (rows : ltb lent.rows lent.rows_needed ≡ false) where
      pub ports_short : (f : Refusal) → ◌≡◌ {A = Result (Unit {0}) Refusal} (Err f) (refuse_if (ltb lent.ports x.port_count) (memory_too_short x.port_count) (Ok tt)) → Err f ≡ tested
      ports_short f e = sym (simp rows (test_refused (ltb lent.ports x.port_count) (memory_too_short x.port_count) f _ e)) ∙ by_memory

      pub last_test : ltb lent.ports x.port_count ≡ false
          → refuse_if (ltb lent.reply (lengths.head + 4080)) (space_too_short (lengths.head + 4080)) (Ok tt) ≡ tested
      last_test ports = sym (simp (rows, ports)) ∙ by_memory

-- a Responder that is admitted is there
pub admitted_there : (o : Option ResponderValues) (port_count r : ℕ) (lengths : Lengths) (lent : Lent) → Ok tt ≡ admitted_at o port_count r lengths lent
    → (h : ResponderValues) × (o ≡ Some h)
admitted_there None port_count r lengths lent e = let z : ◌≡◌ {A = ℕ} 0 1 = cc in absurd (omega arith)
admitted_there (Some h) port_count r lengths lent e = (h, refl)

pub admitted_below : (x : Subsystem) (r : ℕ) (lengths : Lengths) (lent : Lent) → Ok tt ≡ admission (responders_of x) x.port_count r lengths lent
    → r < length x.responders.items
admitted_below x r lengths lent e =
    let h = admitted_there (slice_get (responders_of x) r) x.port_count r lengths lent e in
    omega (arith, slice_get_within (responders_of x) r h.0 h.1, in_use x)
