use Rattle.std.proofs.Common.{◌+◌, ◌-◌, ◌*◌, get_or, drop, arith}
use Rattle.std.proofs.lemmas.Grind.{common_steps}
use Rattle.console.proofs.Decimals.{above}
use Rattle.console.proofs.number.read_decimal.Goals as goal

pub returns-then-number-from : goal.returns-then-number-from
returns-then-number-from c =
    let past = above c.args.most (c.loop-code.number * 10 + (get_or c.args.text.now c.loop-code.code-index 0 - 48))
    (drop (c.loop-code.code-index + 1) c.args.text.now) (omega arith) in
    grind (arith, common_steps)
