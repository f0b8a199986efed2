use Rattle.std.proofs.Common.{◌≡◌, ℕ, Some, None, sym, subst}
use Rattle.std.specs.List.{slice_get}
use Rattle.register.specs.Controllers.{controller_of}
use Rattle.model.proofs.Controllers.{lawful_ascends}
use Rattle.subsystem.specs.Finds.{FoundOrAbsent}
use Rattle.subsystem.proofs.Finding.{absent_past, absent_there}
use Rattle.subsystem.proofs.find.find_controller.Goals as goal

pub returns-else-controller-id : goal.returns-else-controller-id
returns-else-controller-id g c =
    let m = g.R.Register.meaning c.args.register.now in
    let cs = m.controllers in
    let e = subst (λ (k : ℕ). slice_get cs k ≡ Some (controller_of c.in_ok-controller.controller)) c.first_place-place.ensures (sym c.in_ok-controller.ensures) in
    absent_there c.args.id 0 cs (controller_of c.in_ok-controller.controller) (lawful_ascends 0 cs (g.R.Register.holds_lawful_controllers c.args.register.now)) e c.if-controller-id.false

pub returns-in_err-controller : goal.returns-in_err-controller
returns-in_err-controller g c =
    let cs = (g.R.Register.meaning c.args.register.now).controllers in
    subst (FoundOrAbsent c.args.id cs) (sym c.from_residual.ensures) (absent_past c.args.id cs (subst (λ (k : ℕ). slice_get cs k ≡ None) c.first_place-place.ensures (sym c.in_err-controller.ensures)))
