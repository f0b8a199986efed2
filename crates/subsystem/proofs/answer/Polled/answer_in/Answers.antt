use Rattle.std.proofs.Common.{map, length, ap, arith}
use Rattle.std.proofs.lemmas.List.{length-take-le}
use Rattle.health.specs.Rows.{row_of}
use Rattle.subsystem.proofs.Responding.{at_the_front}
use Rattle.subsystem.proofs.answer.Polled.answer_in.Goals as goal

pub returns : goal.returns
returns g c = λ kind.
    at_the_front _ kind c.answer_request-answered.result (map row_of c.answer_request-answered.new.own) 4080 c.args.memory.now c.in-Some.payload.now c.answer_request-answered.new.payload
    c.requires c.in-Some.ensures.cases.same (let long = length-take-le 4080 c.args.memory.now c.requires in let same = ap length c.in-Some.ensures.cases.same in omega arith) (c.answer_request-answered.ensures kind)
