use Rattle.std.proofs.Common.{◌≡◌, ◌+◌, ◌-◌, ◌++◌, length, take, drop, set, ap, ◌∙◌, arith}
use Rattle.std.proofs.lemmas.List.{length-take, length-drop, length-set}
use Rattle.table.proofs.Moves.{turned_in}
use Rattle.table.proofs.ordered.insert_at.Goals as goal

pub returns : goal.returns
returns g c =
    let part = take (c.args.len + 1 - c.args.place) (drop c.args.place (set c.args.slots.now c.args.len c.args.item)) in
    let n : length part ≡ c.args.len + 1 - c.args.place = simp (length-take, length-drop, length-set) (omega arith) in
    turned_in c.args.slots.now c.args.len c.args.place c.args.item c.rotate_right.new.self c.requires.room c.requires.inside
    (c.rotate_right.ensures.after ∙ ap (λ k. drop (k - 1) part ++ take (k - 1) part) n)
