use Rattle.std.proofs.Common.{◌/◌, length, vec_items, arith}
use Rattle.std.proofs.lemmas.Grind.{common_steps}
use Rattle.console.proofs.Pairs.{pushed, pair_at}
use Rattle.console.proofs.hex.read_hex.Goals as goal

pub returns-in_default : goal.returns-in_default
returns-in_default c =
    let turn = pair_at (length c.args.text.now / 2) c.args.text.now c.loop-high.high-index (omega arith) (omega arith) in
    grind (arith, common_steps)

pub returns-in_default-digit : goal.returns-in_default-digit
returns-in_default-digit c =
    let turn = pair_at (length c.args.text.now / 2) c.args.text.now c.loop-high.high-index (omega arith) (omega arith) in
    grind (arith, common_steps)

pub loop-high-preserved : goal.loop-high-preserved
loop-high-preserved c =
    let turn = pair_at (length c.args.text.now / 2) c.args.text.now c.loop-high.high-index (omega arith) (omega arith) in
    let push = pushed (vec_items c.loop-high.bytes) c.in-Some.high c.in-Some-digit.low in
    grind (arith, common_steps)
