use Rattle.std.proofs.Common.{◌≡◌, List, ◌++◌, map, sym, ap, ◌∙◌, subst, ap₂, rules}
use Rattle.std.proofs.lemmas.List.{map-append}
use Rattle.health.specs.Rows.{row_of}
use Rattle.health.specs.declared.row.Row.{Row}
use Rattle.register.specs.declared.port.Port.{Port}
use Rattle.model.specs.State.{Drive}
use Rattle.polls.specs.Shown.{status_of}
use Rattle.model.specs.Fitting.{opened}
use Rattle.model.specs.Law.{Law}
use Rattle.model.proofs.IndependentPolling.{independent_polling}
use Rattle.subsystem.specs.Builders.{fitted_of}
use Rattle.subsystem.specs.Responders.{responder_of}
use Rattle.subsystem.specs.States.{state_from}
use Rattle.subsystem.proofs.OpenCases.{open_room, opened_is}
use Rattle.subsystem.proofs.builder.SubsystemBuilder.open.Goals as goal

pub returns-in-Ok : goal.returns-in-Ok
returns-in-Ok g c =
    let b = c.args.self in
    let m = g.R.Register.meaning c.args.register.now in
    let rows = c.args.rows.now in
    let after = c.clear_for_opening.new.rows in
    let e = c.in-Ok.ensures in
    let drive : List Port → Drive = λ ports. record { register = m; status = status_of c.initial_status.result; port_count = b.port_count; ports = ports } in
    let state : (rest : List Row) (ports : List Port)
    → state_from (drive ports) (map responder_of c.responders_of_kinds.result.items) (map row_of (after ++ rest)) ≡ opened (fitted_of b) m (map row_of (rows ++ rest)) ports =
    λ rest ports.
    ap₂ (λ status ws. state_from (record { register = m; status = status; port_count = b.port_count; ports = ports }) (map responder_of c.responders_of_kinds.result.items) ws)
    c.initial_status.ensures (map-append row_of after rest)
    ∙ opened_is (fitted_of b) m ports (map responder_of c.responders_of_kinds.result.items) (map row_of rows) (map row_of rest) (map row_of after) c.responders_of_kinds.ensures
    (open_room (fitted_of b) m (map row_of rows) e.refused_without_controllers_responders_or_rows) e.clears_the_rows_in_use
    ∙ ap (λ ws. opened (fitted_of b) m ws ports) (sym (map-append row_of rows rest)) in
    record {
      refused_without_controllers_responders_or_rows = e.refused_without_controllers_responders_or_rows;
      clears_the_rows_in_use_and_no_other = e.clears_the_rows_in_use;
      gives_the_opened_subsystem = state;
      polling_is_independent = λ rest ports.
          subst Law (sym (state rest ports)) (independent_polling (fitted_of b) m (map row_of (rows ++ rest)) ports (g.R.Register.holds_lawful_controllers c.args.register.now));
      a_refusal_gives_the_builder_back = tt;
      a_refusal_changes_nothing = search rules;
    }
