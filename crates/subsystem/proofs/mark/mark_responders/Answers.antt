use Rattle.std.proofs.Common.{◌≡◌, ◌*◌, ◌<◌, map, length, get_or, drop, set, sym, ap, ◌∙◌, ap₂, arith}
use Rattle.std.proofs.lemmas.List.{length-map, map-set, drop-set-lt, get_or-map}
use Rattle.model.specs.Calls.{at_place}
use Rattle.health.specs.Rows.{row_of, clear_row, gaining}
use Rattle.subsystem.specs.Responders.{responder_of}
use Rattle.subsystem.specs.States.{responders_with_rows}
use Rattle.subsystem.specs.Marks.{raised, marked_at}
use Rattle.subsystem.proofs.RowGroups.{rows_within, length_responders, responder_marked, first_more, first_all}
use Rattle.subsystem.proofs.mark.mark_responders.Goals as goal

pub loop-r-preserved : goal.loop-r-preserved
loop-r-preserved c =
    let n = c.args.layout.controllers in
    let place = c.args.place in
    let gained = c.args.gained.bits in
    let events = c.args.events.bits in
    let r = c.loop-r.r in
    let k = c.index.result in
    let hs = map responder_of c.loop-r.responders in
    let ws = map row_of c.loop-r.rows in
    let row = get_or c.loop-r.rows k c.index-rows-index.result in
    let x = get_or c.loop-r.responders r c.index-responders-r.result in
    let in_use = rows_within n r (length c.args.responders.now) c.loop-r-test.true in
    let p = c.requires.a_place_of_a_controller in
    let spare : k < length c.args.responders.now * n = omega (arith, c.index.ensures, in_use) in
    let within : k < length c.loop-r.rows = omega (arith, spare) in
    let there : r < length c.loop-r.responders = omega arith in
    let read_row : row_of row ≡ get_or ws k clear_row = sym (get_or-map row_of c.loop-r.rows k _ clear_row within) in
    let read_responder : responder_of x ≡ get_or hs r (responder_of x) = sym (get_or-map responder_of c.loop-r.responders r _ (responder_of x) there) in
    let new_responders = map-set responder_of c.loop-r.responders r _
    ∙ ap (set hs r) (c.raise.ensures ∙ ap₂ (raised gained) read_row read_responder) in
    let new_rows = map-set row_of c.loop-r.rows k c.with.result ∙ ap (set ws k) (c.with.ensures ∙ ap (gaining gained events) read_row) in (
      ap₂ (responders_with_rows n) new_responders new_rows
          ∙ responder_marked n place gained events p hs ws r k (responder_of x) c.index.ensures (simp length-map there)
          ∙ ap (λ xs. at_place xs r (marked_at place gained events)) c.loop-r.invariant.0
          ∙ sym (first_more r (marked_at place gained events) _),
      ap (drop _) new_rows ∙ drop-set-lt _ ws k _ spare ∙ c.loop-r.invariant.1,
    )

pub returns-clause-marks_each : goal.returns-clause-marks_each
returns-clause-marks_each c =
    let n = length_responders c.args.layout.controllers (map responder_of c.args.responders.now) (map row_of c.args.rows.now) in
    let m = length-map c.args.responders.now responder_of in
    c.loop-r.invariant.0 ∙ first_all c.loop-r.r _ _ (omega arith)
