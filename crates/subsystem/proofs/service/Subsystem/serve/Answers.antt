use Rattle.std.proofs.Common.{◌++◌, ap, ◌∙◌, arith}
use Rattle.wire.specs.Refusals.{refusal}
use Rattle.subsystem.specs.Faults.{in_numbers, fault_refusal}
use Rattle.subsystem.specs.declared.fault.Fault.TheVariants.{Carrier}
use Rattle.subsystem.specs.States.{state_of}
use Rattle.subsystem.specs.Replies.{Exchange}
use Rattle.subsystem.proofs.Checks.{climbed}
use Rattle.subsystem.proofs.Admitting.{admitted_below}
use Rattle.subsystem.proofs.Requesting.{lent_to, serve_not_admitted, serve_unread, serve_answered}
use Rattle.subsystem.proofs.service.Subsystem.serve.Goals as goal

pub returns-in_err-admit-clause-is_answered_and_done_as_the_model_says : goal.returns-in_err-admit-clause-is_answered_and_done_as_the_model_says
returns-in_err-admit-clause-is_answered_and_done_as_the_model_says g c =
    let x = c.args.self.now in
    let m = g.R.Register.meaning c.args.register.now in
    let rows = c.args.rows.now in
    let ports = c.args.ports.now in
    let reply = c.args.reply.now in
    let lent = lent_to c.needed.result rows ports reply in
    let f = c.in_err-admit.field-0.0 in
    λ rest more.
    ap {B = Exchange} (λ r. record { answer = in_numbers r; reply = reply; state = state_of x m (rows ++ rest) (ports ++ more) }) (climbed _ f c.from_residual.ensures.1)
    ∙ serve_not_admitted x m (rows ++ rest) (ports ++ more) c.args.responder g.C.Carrier.meaning c.args.message.now lent (c.needed.ensures ∙ c.layout.ensures.for_both) _ c.lengths.ensures reply
    (fault_refusal f) c.in_err-admit.ensures

pub returns-in_err-asked-clause-is_answered_and_done_as_the_model_says : goal.returns-in_err-asked-clause-is_answered_and_done_as_the_model_says
returns-in_err-asked-clause-is_answered_and_done_as_the_model_says g c =
    let x = c.args.self.now in
    let m = g.R.Register.meaning c.args.register.now in
    let rows = c.args.rows.now in
    let ports = c.args.ports.now in
    let reply = c.args.reply.now in
    let lent = lent_to c.needed.result rows ports reply in
    let f = c.in_err-asked.field-0.0 in
    λ rest more.
    ap {B = Exchange} (λ r. record { answer = in_numbers r; reply = reply; state = state_of x m (rows ++ rest) (ports ++ more) }) (climbed _ (Carrier f) c.from_residual-in_err-asked.ensures.1)
    ∙ serve_unread x m (rows ++ rest) (ports ++ more) c.args.responder g.C.Carrier.meaning c.args.message.now lent (c.needed.ensures ∙ c.layout.ensures.for_both) _ c.lengths.ensures reply
    c.in_ok-admit.ensures (refusal f) c.in_err-asked.ensures

pub respond-requires-clause-a_responder_in_use : goal.respond-requires-clause-a_responder_in_use
respond-requires-clause-a_responder_in_use g c =
    let lent = lent_to c.needed.result c.args.rows.now c.args.ports.now c.args.reply.now in
    omega (arith, admitted_below c.args.self.now c.args.responder c.lengths.result lent c.in_ok-admit.ensures, c.from.ensures)

pub returns-clause-is_answered_and_done_as_the_model_says : goal.returns-clause-is_answered_and_done_as_the_model_says
returns-clause-is_answered_and_done_as_the_model_says g c =
    let x = c.args.self.now in
    let m = g.R.Register.meaning c.args.register.now in
    let rows = c.args.rows.now in
    let ports = c.args.ports.now in
    let reply = c.args.reply.now in
    let lent = lent_to c.needed.result rows ports reply in
    λ rest more.
    serve_answered x m (rows ++ rest) (ports ++ more) c.args.responder g.C.Carrier.meaning c.args.message.now lent (c.needed.ensures ∙ c.layout.ensures.for_both) _ c.lengths.ensures reply
    c.in_ok-admit.ensures c.in_ok-asked.asked _ _ _ c.from.result c.in_ok-asked.ensures c.from.ensures (c.respond.ensures rest more)
