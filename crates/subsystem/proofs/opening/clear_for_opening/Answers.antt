use Rattle.std.proofs.Common.{◌*◌, ◌≤◌, ◌++◌, map, length, drop, replicate, ap, ◌∙◌}
use Rattle.std.proofs.lemmas.Bool.{ltb-false}
use Rattle.health.specs.Rows.{row_of, clear_row}
use Rattle.subsystem.proofs.Checks.{passed}
use Rattle.subsystem.proofs.OpenCases.{rows_cleared}
use Rattle.subsystem.proofs.opening.clear_for_opening.Goals as goal

pub returns-clause-clears_the_rows_in_use : goal.returns-clause-clears_the_rows_in_use
returns-clause-clears_the_rows_in_use g c =
    let b = c.args.builder.now in
    let m = g.R.Register.meaning c.args.register.now in
    let rows = c.args.rows.now in
    let n = c.needed-needed.result in
    let tested = c.in_ok-check_length.ensures in
    let room : n ≤ length rows = ltb-false (length rows) n (passed _ _ _ tt tested).0 in
    let needed = c.needed-needed.ensures ∙ c.of.ensures.for_both ∙ ap (λ k. k * length m.controllers) c.len-3.ensures.value in
    rows_cleared n rows c.clear_rows.new.rows room c.clear_rows.ensures ∙ ap (λ v. replicate v clear_row ++ drop v (map row_of rows)) needed
