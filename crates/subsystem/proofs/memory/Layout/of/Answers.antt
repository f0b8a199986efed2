use Rattle.std.proofs.Common.{◌*◌, ◌^◌, ◌≤◌, mul-le-mul, arith}
use Rattle.model.proofs.Controllers.{lawful_ascends}
use Rattle.subsystem.proofs.Finding.{few_controllers}
use Rattle.subsystem.proofs.memory.Layout.of.Goals as goal

pub invariant_of-result : goal.invariant_of-result
invariant_of-result g c =
    let cs = (g.R.Register.meaning c.args.register.now).controllers in
    let few = few_controllers 0 cs (lawful_ascends 0 cs (g.R.Register.holds_lawful_controllers c.args.register.now)) (omega arith) in
    let n : c.len.result ≤ 2 ^ 16 = omega (arith, c.len.ensures) in
    let product : c.args.responders * c.len.result ≤ 8 * 2 ^ 16 = mul-le-mul c.requires n in
    record { counted_in_64_bits = omega arith }
