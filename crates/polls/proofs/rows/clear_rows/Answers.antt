use Rattle.std.proofs.Common.{◌≡◌, ◌<◌, map, length, replicate, refl, ap, ◌∙◌, arith}
use Rattle.std.proofs.lemmas.List.{length-map}
use Rattle.health.specs.Rows.{row_of, clear_row}
use Rattle.polls.proofs.Clearing.{clear_more, clear_all}
use Rattle.polls.proofs.rows.clear_rows.Goals as goal

pub loop-row-init : goal.loop-row-init
loop-row-init c = refl

pub loop-row-preserved : goal.loop-row-preserved
loop-row-preserved c =
    let l : c.loop-row.row-index < length (map row_of c.args.rows.now) = simp length-map c.loop-row-test.true in
    clear_more row_of clear_row c.loop-row.rows c.loop-row.row-index (map row_of c.args.rows.now) c.clear_row.new.row c.loop-row.invariant l c.clear_row.ensures

pub returns : goal.returns
returns c =
    let n : length (map row_of c.args.rows.now) ≡ length c.args.rows.now = length-map c.args.rows.now row_of in
    let i : c.loop-row.row-index ≡ length c.args.rows.now = omega arith in
    c.loop-row.invariant ∙ clear_all clear_row c.loop-row.row-index (map row_of c.args.rows.now) (omega arith) ∙ ap (λ k. replicate k clear_row) i
