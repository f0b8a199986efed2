use Rattle.std.proofs.Common.{◌≡◌, ℕ, ◌+◌, ◌*◌, ◌<◌, ◌≤◌, map, length, set, Some, sym, refl, ap, ◌∙◌, subst, arith}
use Rattle.std.specs.Option.{option_map}
use Rattle.std.specs.List.{slice_get}
use Rattle.std.proofs.lemmas.List.{length-map, map-set}
use Rattle.std.proofs.lemmas.Bool.{ltb-true}
use Rattle.health.specs.Rows.{row_of}
use Rattle.commands.specs.ControllerData.{entry_bytes}
use Rattle.register.specs.Controllers.{controller_of}
use Rattle.model.specs.Requests.{entry_for}
use Rattle.polls.proofs.Entering.{Going, begin, skip, return_it, ended, no_more_rows, no_more_controllers, read_row, written_front, written_behind}
use Rattle.polls.proofs.entries.fill_entries.Goals as goal
use Rattle.polls.proofs.entries.fill_entries.Goals.{then-qualifies, else-qualifies}

pub loop-place-init : goal.loop-place-init
loop-place-init g c =
    let cs = (g.R.Register.meaning c.args.register.now).controllers in
    let ws = map row_of c.args.rows.now in
    subst (λ (k : ℕ). Going c.args.poll (c.args.poll.maxrent + 1) cs ws c.args.space.now k 0 ws c.args.space.now)
    (sym c.first_place-place.ensures) (begin c.args.poll (c.args.poll.maxrent + 1) cs ws c.args.space.now (omega arith))

pub loop-place-preserved : goal.loop-place-preserved
loop-place-preserved g c =
    let cs = (g.R.Register.meaning c.args.register.now).controllers in
    let ws = map row_of c.args.rows.now in
    let p = c.args.poll in
    let place = c.loop-place.place in
    let found = c.loop-place.found in
    let rows = map row_of c.loop-place.rows in
    let row = c.index-rows-place.result in
    let x = controller_of c.in-Some.controller in
    let at_c : slice_get cs place ≡ Some x = sym c.get.ensures ∙ ap (option_map controller_of) c.in-Some.is in
    let inside : place < length c.loop-place.rows = omega arith in
    let at_w = read_row row_of c.loop-place.rows ws place row inside c.loop-place.invariant.rest_of_rows c.index-rows-place.is in
    let more : found < p.maxrent + 1 = ltb-true found (p.maxrent + 1) (sym c.if-not-may_return_more.ensures) in
    let within : place < length rows = simp length-map inside in
    elim c.if-qualifies.branch [
      | then-qualifies w ↦
          let room : 16 * found + 16 ≤ length c.loop-place.space = omega arith in
          let rows_are = map-set row_of c.loop-place.rows place w.returned_row.result ∙ ap (set rows place) w.returned_row.ensures in
          let bytes = entry_bytes (entry_for x (row_of row)) in
          let wrote = w.copy_from_slice.ensures.after ∙ w.to_bytes.ensures.is_these_bytes ∙ ap entry_bytes w.entry.ensures in
          let front = written_front c.loop-place.space w.copy_from_slice.new.self bytes found wrote refl room in
          let behind = written_behind c.loop-place.space w.copy_from_slice.new.self bytes found wrote refl room in
          rw (w.rows-is, w.space-is, w.found-is) (return_it p (p.maxrent + 1) cs ws c.args.space.now place found x (row_of row) at_c at_w more rows c.loop-place.space c.loop-place.invariant within _ _ (sym w.if-qualifies.ensures) rows_are front behind)
      | else-qualifies w ↦
          rw (w.rows-is, w.space-is, w.found-is) (skip p (p.maxrent + 1) cs ws c.args.space.now place found x (row_of row) at_c at_w more rows c.loop-place.space c.loop-place.invariant within (sym w.if-qualifies.ensures))
    ]

pub returns-in_default : goal.returns-in_default
returns-in_default g c =
    let cs = (g.R.Register.meaning c.args.register.now).controllers in
    ended c.args.poll _ cs _ _ _ _ _ _ c.loop-place.invariant
    (no_more_controllers c.args.poll _ cs _ c.args.space.now _ _ (sym {b = slice_get cs c.loop-place.place} c.in_default.ensures))

pub returns-after-loop-place : goal.returns-after-loop-place
returns-after-loop-place g c =
    let ws = map row_of c.args.rows.now in
    let h : length ws ≤ c.loop-place.place = simp length-map (omega arith) in
    ended c.args.poll _ _ ws _ _ _ _ _ c.loop-place.invariant (no_more_rows c.args.poll _ _ ws c.args.space.now _ _ h)
