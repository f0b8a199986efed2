use Rattle.std.proofs.Common.{map, refl, sym, ap, ◌∙◌, arith, rules}
use Rattle.health.specs.Rows.{row_of}
use Rattle.wire.specs.Refusals.{in_numbers}
use Rattle.subsystem.proofs.Serving.{found_few, polled_reply}
use Rattle.subsystem.proofs.answer.Polled.answer_controller_poll.Goals as goal

pub entries_head-requires : goal.entries_head-requires
entries_head-requires g c =
    let answered = ap in_numbers (sym c.unwrap-found.ensures) ∙ c.write_entries.ensures.answers_how_many_are_returned in
    found_few c.args.poll (g.R.Register.meaning c.args.self.now.register.now) (map row_of c.args.own.now) c.args.payload.now c.unwrap-found.result answered
    (search rules) c.if-poll-eq255.false

pub returns : goal.returns
returns g c =
    let m = g.R.Register.meaning c.args.self.now.register.now in
    let e = c.write_entries.ensures in
    let answered = ap in_numbers (sym c.unwrap-found.ensures) ∙ e.answers_how_many_are_returned in
    λ kind. polled_reply c.args.poll m (map row_of c.args.own.now) c.args.payload.now c.unwrap-found.result answered kind _ _ _
    (omega (arith, c.largest_id.ensures)) c.if-poll-eq255.false c.entries_head.ensures refl e.clears_those_returned_and_no_other e.writes_their_entries_and_no_other_byte
