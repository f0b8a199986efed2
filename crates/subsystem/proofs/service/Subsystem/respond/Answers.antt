use Rattle.std.proofs.Common.{◌≡◌, ℕ, ◌-◌, ◌*◌, ◌<◌, ◌++◌, map, length, get_or, drop, sym, refl, ap, ◌∙◌, subst, arith, List}
use borrow.Rule.Slice.PartMut.{mid_of, put_mid}
use Rattle.std.proofs.lemmas.List.{length-drop, get_or_default}
use Rattle.health.specs.Rows.{row_of}
use Rattle.polls.specs.Shown.{status_of}
use Rattle.model.specs.State.{with_responders}
use Rattle.model.specs.Requests.{served}
use Rattle.model.specs.Calls.{at_place}
use Rattle.subsystem.specs.Responders.{responder_of}
use Rattle.subsystem.specs.declared.responder.Responder.{Responder}
use Rattle.subsystem.specs.States.{with_its_rows, state_from, drive_of, state_of}
use Rattle.subsystem.specs.Replies.{ReplyIs, drive_shown, responder_with}
use Rattle.subsystem.proofs.RowGroups.{own_rows_lent}
use Rattle.subsystem.proofs.OneResponder.{one_given_back, responder_there, responder_replaced, length_lent}
use Rattle.subsystem.proofs.Responding.{same_served, data_fits, responds, ports_shown, own_rows_are}
use Rattle.subsystem.proofs.service.Subsystem.respond.Goals as goal

pub write_head_before-requires : goal.write_head_before-requires
write_head_before-requires g c =
    let k = g.C.Carrier.meaning.head_length in
    let before = c.args.reply.now in
    let middle = c.answer_behind_head-answered.new.reply in
    let head = c.HEAD.result in
    let is = c.answer_behind_head-answered.ensures 0 in
    let kept = c.answer_behind_head-answered.auto.reply in
    let same : head ≡ k = c.HEAD.ensures ∙ g.met.C.Carrier.head_is_meant in
    let space = c.requires.space_for_the_reply in
    let a = length-drop head before in
    let b = length-drop head middle in
    let fits = data_fits _ (drop head before) (drop head middle) is.writes_the_data (b ∙ ap (λ n. n - head) kept ∙ sym a) in
    let long = is.has_the_length in
    omega arith

pub returns : goal.returns
returns g c = λ rest more x there.
    let self = c.args.self.now in
    let m = g.R.Register.meaning c.args.register.now in
    let rows = c.args.rows.now in
    let ports = c.args.ports.now in
    let s = state_of self m (rows ++ rest) (ports ++ more) in
    let r = c.args.responder in
    let n = length m.controllers in
    let first = c.rows_of.result.start in
    let count = c.rows_of.result.end - first in
    let old = get_or self.responders.items r c.index-deref-responder.result in
    let answered = c.answer_behind_head-answered.result in
    let part = c.answer_behind_head-answered.new.own in
    let items = self.responders.items in
    let stands : r < length items = c.requires.a_responder_in_use in
    let kind = old.kind in
    let en : count ≡ n = omega (arith, c.rows_of.ensures.begins, c.rows_of.ensures.ends, c.layout.ensures.for_the_controllers) in
    let ek : first ≡ r * n = c.rows_of.ensures.begins ∙ ap (λ v. r * v) c.layout.ensures.for_the_controllers in
    let within = own_rows_lent r (length self.responders.items) n first (length rows) c.requires.a_responder_in_use ek c.requires.rows_for_all in
    let lent = map row_of (mid_of first count rows) in
    let used = mid_of 0 (self.port_count - 0) ports in
    let found = responder_there self m (rows ++ rest) (ports ++ more) r c.index-deref-responder.result c.requires.a_responder_in_use in
    let is_x : responder_with kind old.composite.bits lent ≡ x =
    ap (responder_with kind old.composite.bits) (sym (own_rows_are n r first count rows rest ek en within)) ∙ (let e = sym found ∙ there in cc) in
    let d = drive_shown m (status_of self.status) used in
    let v = served d (responder_with kind old.composite.bits lent) c.args.asked in
    let same : v ≡ served s.drive x c.args.asked =
    same_served d s.drive refl refl (ports_shown self.port_count ports more c.requires.ports_in_use) (responder_with kind old.composite.bits lent) c.args.asked
    ∙ ap (λ y. served s.drive y c.args.asked) is_x in
    let k = g.C.Carrier.meaning in
    let head : c.HEAD.result ≡ k.head_length = c.HEAD.ensures ∙ g.met.C.Carrier.head_is_meant in
    let answered_so = subst (λ (l : List Responder). ReplyIs (served d (responder_with kind (get_or l r c.index-deref-responder.result).composite.bits lent) c.args.asked) kind answered (map row_of part)
    (drop c.HEAD.result c.args.reply.now) (drop c.HEAD.result c.answer_behind_head-answered.new.reply)) c.deref.ensures.0 (c.answer_behind_head-answered.ensures kind) in
    let is = subst (λ (h : ℕ). ReplyIs v kind answered (map row_of part) (drop h c.args.reply.now) (drop h c.answer_behind_head-answered.new.reply)) head answered_so in
    let with_flags : Responder → Responder = λ y. record { kind = y.kind; composite = answered.composite } in
    let changed = with_flags (get_or items r c.index-deref_mut-responder.result) in
    let back = one_given_back with_flags items c.deref_mut.result.now r c.index-deref_mut-responder.result c.deref_mut.ensures.value in
    let long = length_lent first n count rows part en within c.answer_behind_head-answered.auto.own in
    responds k s r x c.args.asked v answered kind (map row_of part) _ c.args.reply.now c.answer_behind_head-answered.new.reply c.write_head_before.new.reply _ same is
    c.write_head_before.ensures.answers_the_length c.write_head_before.ensures.writes_the_head
    (ap (λ l. state_from (drive_of self m (ports ++ more)) (map responder_of l) (map row_of (put_mid first count rows part ++ rest))) back
    ∙ responder_replaced self m rows part rest (ports ++ more) r first count changed c.requires.a_responder_in_use ek en c.requires.rows_for_all long
    ∙ ap (λ y. with_responders s (at_place s.responders r (λ _. with_its_rows (responder_of (with_flags y)) (map row_of part)))) (get_or_default self.responders.items r _ _ stands))
