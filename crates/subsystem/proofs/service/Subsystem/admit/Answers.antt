use Rattle.std.proofs.Common.{ap, ◌∙◌}
use Rattle.subsystem.specs.Faults.{in_numbers, fault_refusal}
use Rattle.subsystem.proofs.Checks.{passed, placed, climbed}
use Rattle.subsystem.proofs.Admitting.{absent, another_kind, rows_short, ports_short, last_test}
use Rattle.subsystem.proofs.service.Subsystem.admit.Goals as goal

pub returns-in_err-r : goal.returns-in_err-r
returns-in_err-r c =
    let f = c.in_err-r.field-0.0 in
    ap in_numbers (climbed _ f c.from_residual.ensures.1) ∙ absent c.args.self.now c.args.responder c.args.lengths c.args.lent (fault_refusal f) c.in_err-r.ensures.refused_if_absent

pub returns-then-deref-r : goal.returns-then-deref-r
returns-then-deref-r c =
    another_kind c.args.self.now _ _ (placed _ _ _ _ c.in_ok-r.ensures.refused_if_absent) c.args.lengths c.args.lent c.in_ok-r.ensures.in_use _ c.deref.ensures.0 c.index-deref-r.result c.if-deref-r.true

pub returns-in_err-check_length : goal.returns-in_err-check_length
returns-in_err-check_length c =
    let f = c.in_err-check_length.field-0.0 in
    ap in_numbers (climbed _ f c.from_residual-in_err-check_length.ensures.1)
    ∙ rows_short c.args.self.now _ _ (placed _ _ _ _ c.in_ok-r.ensures.refused_if_absent) c.args.lengths c.args.lent c.in_ok-r.ensures.in_use _ c.deref.ensures.0 c.index-deref-r.result c.if-deref-r.false
    (fault_refusal f) c.in_err-check_length.ensures

pub returns-in_err-check_length-2 : goal.returns-in_err-check_length-2
returns-in_err-check_length-2 c =
    let f = c.in_err-check_length-2.field-0.0 in
    ap in_numbers (climbed _ f c.from_residual-in_err-check_length-2.ensures.1)
    ∙ ports_short c.args.self.now _ _ (placed _ _ _ _ c.in_ok-r.ensures.refused_if_absent) c.args.lengths c.args.lent c.in_ok-r.ensures.in_use _ c.deref.ensures.0 c.index-deref-r.result c.if-deref-r.false
    (passed _ _ _ tt c.in_ok-check_length.ensures).0 (fault_refusal f) c.in_err-check_length-2.ensures

pub returns : goal.returns
returns c =
    c.check_reply.ensures
    ∙ last_test c.args.self.now _ _ (placed _ _ _ _ c.in_ok-r.ensures.refused_if_absent) c.args.lengths c.args.lent c.in_ok-r.ensures.in_use _ c.deref.ensures.0 c.index-deref-r.result c.if-deref-r.false
    (passed _ _ _ tt c.in_ok-check_length.ensures).0 (passed _ _ _ tt c.in_ok-check_length-2.ensures).0
