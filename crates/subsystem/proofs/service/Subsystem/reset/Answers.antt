use borrow.Rule.Slice.PartMut.{put_mid}
use Rattle.std.proofs.Common.{◌≡◌, ◌-◌, ◌*◌, List, ◌++◌, map, length, get_or, replicate, Ok, Err, sym, ap, ◌∙◌, arith}
use Rattle.std.proofs.lemmas.Bool.{ltb-false, leb-true}
use Rattle.health.specs.Rows.{row_of, clear_row}
use Rattle.model.specs.State.{with_responders}
use Rattle.model.specs.Calls.{reset, accepted, judged, reset_responder, Step, step}
use Rattle.subsystem.specs.Faults.{in_numbers, fault_refusal}
use Rattle.subsystem.specs.Responders.{responder_of, no_composite}
use Rattle.subsystem.specs.declared.responder.Responder.{Responder}
use Rattle.subsystem.specs.States.{with_its_rows, state_from, drive_of, state_of}
use Rattle.subsystem.proofs.Checks.{passed, placed, refused_so, by_needed, climbed}
use Rattle.subsystem.proofs.OneResponder.{replaced_given_back, same_change, responder_there, responder_exists, responder_absent, responder_replaced, length_lent, own_rows_length}
use Rattle.subsystem.proofs.Resetting.{reset_taken, reset_absent, reset_tested, is_reset}
use Rattle.subsystem.proofs.RowGroups.{own_rows_lent}
use Rattle.subsystem.proofs.service.Subsystem.reset.Goals as goal

pub returns-in_err-r-clause-is_answered_and_done_as_the_model_says : goal.returns-in_err-r-clause-is_answered_and_done_as_the_model_says
returns-in_err-r-clause-is_answered_and_done_as_the_model_says g c =
    let x = c.args.self.now in
    let m = g.R.Register.meaning c.args.register.now in
    let rows = c.args.rows.now in
    let f = c.in_err-r.field-0.0 in
    let absent = refused_so _ _ (fault_refusal f) _ c.in_err-r.ensures.refused_if_absent in
    λ rest ports.
    let s = state_of x m (rows ++ rest) ports in
    ap {B = Step} (λ r. record { answer = judged (in_numbers r); state = s }) (climbed _ f c.from_residual.ensures.1)
    ∙ reset_taken s c.args.responder (length rows) (Err (fault_refusal f))
    (reset_absent x m (rows ++ rest) ports c.args.responder (length rows) (responder_absent x m (rows ++ rest) ports c.args.responder (leb-true _ _ absent.0)) ∙ ap Err (sym absent.1))

pub returns-in_err-check_length-clause-is_answered_and_done_as_the_model_says : goal.returns-in_err-check_length-clause-is_answered_and_done_as_the_model_says
returns-in_err-check_length-clause-is_answered_and_done_as_the_model_says g c =
    let x = c.args.self.now in
    let m = g.R.Register.meaning c.args.register.now in
    let rows = c.args.rows.now in
    let f = c.in_err-check_length.field-0.0 in
    λ rest ports.
    let s = state_of x m (rows ++ rest) ports in
    ap {B = Step} (λ r. record { answer = judged (in_numbers r); state = s }) (climbed _ f c.from_residual-in_err-check_length.ensures.1)
    ∙ reset_taken s c.args.responder (length rows) (Err (fault_refusal f))
    (let y = responder_exists x m (rows ++ rest) ports c.args.responder (omega (arith, placed _ _ _ _ c.in_ok-r.ensures.refused_if_absent, c.in_ok-r.ensures.in_use)) in
    reset_tested x m (rows ++ rest) ports c.args.responder (length rows) y.0 y.1 (Err (fault_refusal f))
    (by_needed (length rows) _ _ (Err (fault_refusal f)) (c.needed.ensures ∙ c.layout-layout.ensures.for_both) c.in_err-check_length.ensures))

pub returns-clause-is_answered_and_done_as_the_model_says : goal.returns-clause-is_answered_and_done_as_the_model_says
returns-clause-is_answered_and_done_as_the_model_says g c =
    let x = c.args.self.now in
    let m = g.R.Register.meaning c.args.register.now in
    let rows = c.args.rows.now in
    let r = c.in_ok-r.r in
    let k = c.rows_of.result.start in
    let n = c.rows_of.result.end - k in
    let part = c.clear_rows.new.rows in
    let old = c.index-deref-r.result in
    let items = x.responders.items in
    let new = c.without_composite.result in
    let back = replaced_given_back items c.deref_mut.result.now r new c.deref_mut.ensures.value in
    let in_use = c.in_ok-r.ensures.in_use in
    let en : n ≡ length m.controllers = omega (arith, c.rows_of.ensures.begins, c.rows_of.ensures.ends, c.layout-layout.ensures.for_the_controllers) in
    let ek : k ≡ r * length m.controllers = c.rows_of.ensures.begins ∙ ap (λ v. r * v) c.layout-layout.ensures.for_the_controllers in
    let tested = by_needed (length rows) _ _ (Ok tt) (c.needed.ensures ∙ c.layout-layout.ensures.for_both) c.in_ok-check_length.ensures in
    let room = ltb-false _ _ (passed _ _ _ tt tested).0 in
    let within = own_rows_lent r (length x.responders.items) (length m.controllers) k (length rows) in_use ek room in
    let long : length part ≡ length m.controllers = length_lent k (length m.controllers) n rows part en within c.clear_rows.auto.rows in
    let cleared = c.clear_rows.ensures ∙ ap (λ v. replicate v clear_row) (sym c.clear_rows.auto.rows ∙ long) in
    λ rest ports.
    let s = state_of x m (rows ++ rest) ports in
    ap {B = Step} (λ l. record { answer = accepted; state = state_from (drive_of x m ports) (map responder_of l) (map row_of (put_mid k n rows part ++ rest)) }) back
    ∙ ap {B = Step} (λ v. record { answer = accepted; state = v }) (responder_replaced x m rows part rest ports r k n new in_use ek en room long
    ∙ ap (with_responders s) (same_change s.responders r _ (λ _. with_its_rows (responder_of new) (map row_of part)) reset_responder (responder_there x m (rows ++ rest) ports r old in_use)
    (is_reset (responder_of new) (responder_of (get_or x.responders.items r old)) (map row_of part) _ (length m.controllers) (c.without_composite.ensures ∙ ap (λ (y : Responder). no_composite y.kind) c.index-deref-r.is ∙ ap (λ (l : List Responder). no_composite (get_or l r old).kind) c.deref.ensures.0) cleared
    (own_rows_length (length m.controllers) r k rows rest ek within))))
    ∙ reset_taken s r (length rows) (Ok tt) (let y = responder_exists x m (rows ++ rest) ports r in_use in reset_tested x m (rows ++ rest) ports r (length rows) y.0 y.1 (Ok tt) tested)
    ∙ ap (λ v. step s (reset v (length rows))) (placed _ _ _ _ c.in_ok-r.ensures.refused_if_absent)
