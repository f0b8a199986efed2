use Rattle.std.proofs.Common.{◌++◌, map, length, Ok, Err, sym, ap, ◌∙◌, subst, arith}
use Rattle.std.proofs.lemmas.Bool.{ltb-false}
use Rattle.health.specs.Rows.{row_of}
use Rattle.register.specs.Controllers.{controller_of}
use Rattle.model.specs.ServiceRefusals.{unknown_identifier}
use Rattle.model.specs.Calls.{accepted, judged, Step}
use Rattle.model.proofs.Controllers.{lawful_ascends}
use Rattle.subsystem.specs.Faults.{in_numbers, fault_refusal}
use Rattle.subsystem.specs.Finds.{FoundOrAbsent}
use Rattle.subsystem.specs.Responders.{responder_of}
use Rattle.subsystem.specs.States.{state_from, drive_of, state_of}
use Rattle.subsystem.proofs.Checks.{by_needed, enough, climbed, none_there, some_there}
use Rattle.subsystem.proofs.Finding.{present_at}
use Rattle.std.proofs.lemmas.Option.{slice_get_within}
use Rattle.subsystem.proofs.Reporting.{report_taken, report_short, report_unknown, report_accepted, report_granted, given_back}
use Rattle.subsystem.proofs.service.Subsystem.report.Goals as goal

pub returns-in_err-check_length-clause-is_answered_and_done_as_the_model_says : goal.returns-in_err-check_length-clause-is_answered_and_done_as_the_model_says
returns-in_err-check_length-clause-is_answered_and_done_as_the_model_says g c =
    let x = c.args.self.now in
    let m = g.R.Register.meaning c.args.register.now in
    let rows = c.args.rows.now in
    let f = c.in_err-check_length.field-0.0 in
    λ rest ports.
    let s = state_of x m (rows ++ rest) ports in
    ap {B = Step} (λ r. record { answer = judged (in_numbers r); state = s }) (climbed _ f c.from_residual.ensures.1)
    ∙ report_taken s (length rows) c.args.id c.args.new (Err (fault_refusal f))
    (report_short x m (rows ++ rest) rows ports c.args.id c.args.new (sym c.if-not-is_well_formed.ensures) (fault_refusal f)
    (by_needed (length rows) _ _ (Err (fault_refusal f)) (c.needed.ensures ∙ c.layout-layout.ensures.for_both) c.in_err-check_length.ensures))

pub returns-in_err-found-clause-is_answered_and_done_as_the_model_says : goal.returns-in_err-found-clause-is_answered_and_done_as_the_model_says
returns-in_err-found-clause-is_answered_and_done_as_the_model_says g c =
    let x = c.args.self.now in
    let m = g.R.Register.meaning c.args.register.now in
    let rows = c.args.rows.now in
    let room = enough (length rows) _ _ (c.needed.ensures ∙ c.layout-layout.ensures.for_both) c.in_ok-check_length.ensures in
    let none = none_there _ _ _ (sym c.in_err-found.was ∙ c.ok_or.ensures.value) in
    let absent = subst (FoundOrAbsent c.args.id m.controllers) none.0 c.find_controller.ensures in
    λ rest ports.
    let s = state_of x m (rows ++ rest) ports in
    ap {B = Step} (λ r. record { answer = judged (in_numbers r); state = s }) (climbed _ _ c.from_residual-in_err-found.ensures.1 ∙ ap Err none.1)
    ∙ report_taken s (length rows) c.args.id c.args.new (Err (unknown_identifier c.args.id))
    (report_unknown x m (rows ++ rest) rows ports c.args.id c.args.new (sym c.if-not-is_well_formed.ensures) room absent)

pub mark_responders-requires-clause-a_place_of_a_controller : goal.mark_responders-requires-clause-a_place_of_a_controller
mark_responders-requires-clause-a_place_of_a_controller g c =
    let cs = (g.R.Register.meaning c.args.register.now).controllers in
    let found = subst (FoundOrAbsent c.args.id cs) (some_there _ _ _ (sym c.in_ok-found.was ∙ c.ok_or.ensures.value)) c.find_controller.ensures in
    let rows = length c.args.rows.now in
    let room = ltb-false _ _ (enough rows _ _ (c.needed.ensures ∙ c.layout-layout.ensures.for_both) c.in_ok-check_length.ensures) in
    omega (arith, slice_get_within cs c.in_ok-found.found.place _ found.stands_there, c.layout-layout.ensures.for_the_controllers)

pub returns-clause-is_answered_and_done_as_the_model_says : goal.returns-clause-is_answered_and_done_as_the_model_says
returns-clause-is_answered_and_done_as_the_model_says g c =
    let x = c.args.self.now in
    let m = g.R.Register.meaning c.args.register.now in
    let cs = m.controllers in
    let rows = c.args.rows.now in
    let found = subst (FoundOrAbsent c.args.id cs) (some_there _ _ _ (sym c.in_ok-found.was ∙ c.ok_or.ensures.value)) c.find_controller.ensures in
    let place = c.in_ok-found.found.place in
    let controller = controller_of c.in_ok-found.found.controller in
    let part = c.mark_responders.new.responders in
    let b = enough (length rows) _ _ (c.needed.ensures ∙ c.layout-layout.ensures.for_both) c.in_ok-check_length.ensures in
    let marks = c.mark_responders.ensures in
    λ rest ports.
    ap {B = Step} (λ part. record { answer = accepted; state = state_from (drive_of x (g.R.Register.meaning c.renew.new.register) ports) (map responder_of part) (map row_of (c.mark_responders.new.rows ++ rest)) })
    (given_back x.responders.items part (c.mark_responders.auto.responders ∙ ap length c.deref_mut.ensures.value))
    ∙ ap {B = Step} (λ s. record { answer = accepted; state = s })
    (report_granted x m rows rest ports c.args.id c.args.new c.mark_responders.new.rows _ part (g.R.Register.meaning c.renew.new.register) place c.layout-layout.result.controllers c.gained_flags.result.bits c.from_status.result.bits controller
    (lawful_ascends 0 m.controllers (g.R.Register.holds_lawful_controllers c.args.register.now)) found.stands_there found.has_the_id
    c.layout-layout.ensures.for_the_controllers c.gained_flags.ensures c.from_status.ensures c.deref_mut.ensures.value c.mark_responders.auto.responders c.mark_responders.auto.rows
    (ltb-false _ _ b) c.renew.ensures marks.marks_each marks.leaves_the_spare_rows)
    ∙ report_taken (state_of x m (rows ++ rest) ports) (length rows) c.args.id c.args.new (Ok tt)
    (report_accepted x m (rows ++ rest) rows ports c.args.id c.args.new (sym c.if-not-is_well_formed.ensures) b (present_at c.args.id m.controllers place controller found.stands_there found.has_the_id))
