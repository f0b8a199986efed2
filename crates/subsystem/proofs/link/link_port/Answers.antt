use Rattle.std.proofs.Common.{Err, set, sym, ap, ◌∙◌}
use Rattle.std.proofs.lemmas.List.{get_or_default}
use Rattle.std.proofs.lemmas.List.Quantifiers.{position-Some}
use Rattle.model.specs.ServiceRefusals.{unknown_identifier}
use Rattle.subsystem.specs.Faults.{in_numbers, fault_refusal}
use Rattle.subsystem.proofs.Checks.{climbed, none_there, some_there}
use Rattle.subsystem.proofs.Linking.{has_id, vacant, no_port, first_port}
use Rattle.subsystem.proofs.link.link_port.Goals as goal

pub returns-in_err-place-clause-refused_if_there_is_none : goal.returns-in_err-place-clause-refused_if_there_is_none
returns-in_err-place-clause-refused_if_there_is_none c =
    let none = none_there _ _ _ (sym c.in_err-place.was ∙ c.ok_or.ensures.value) in
    simp (no_port c.args.id c.args.up c.args.ports.now (sym c.place_of.ensures ∙ none.0)).0
    (ap in_numbers (climbed _ _ c.from_residual.ensures.1) ∙ ap (λ f. Err (fault_refusal f)) none.1 ∙ ap (λ id. Err (unknown_identifier id)) c.from.ensures)

pub returns-in_err-place-clause-links_the_first : goal.returns-in_err-place-clause-links_the_first
returns-in_err-place-clause-links_the_first c =
    sym (no_port c.args.id c.args.up c.args.ports.now (sym c.place_of.ensures ∙ (none_there _ _ _ (sym c.in_err-place.was ∙ c.ok_or.ensures.value)).0)).1

pub returns-clause-refused_if_there_is_none : goal.returns-clause-refused_if_there_is_none
returns-clause-refused_if_there_is_none c =
    simp (first_port c.args.id c.args.up c.args.ports.now c.in_ok-place.place (sym c.place_of.ensures ∙ some_there _ _ _ (sym c.in_ok-place.was ∙ c.ok_or.ensures.value))).0

pub returns-clause-links_the_first : goal.returns-clause-links_the_first
returns-clause-links_the_first c =
    let id = c.args.id in
    let up = c.args.up in
    let ports = c.args.ports.now in
    let k = c.in_ok-place.place in
    let found = sym c.place_of.ensures ∙ some_there _ _ _ (sym c.in_ok-place.was ∙ c.ok_or.ensures.value) in
    let within = (position-Some (has_id id) ports k vacant found).0 in
    ap (set ports k) (c.with_link.ensures ∙ ap (λ p. record { id = p.id; link_up = up }) (get_or_default ports k _ vacant within))
    ∙ sym (first_port id up ports k found).1
