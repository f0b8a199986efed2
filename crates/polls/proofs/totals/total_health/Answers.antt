use Rattle.std.proofs.Common.{◌≡◌, ℕ, ◌-◌, ◌<◌, max, List, drop, Some, sym, ap, ◌∙◌}
use lib.Bits.{bit_or}
use Rattle.std.specs.Option.{option_map}
use Rattle.std.specs.List.{slice_get}
use Rattle.health.specs.Values.{HealthValues}
use Rattle.register.specs.Controllers.{ControllerValues, controller_of}
use Rattle.model.specs.Requests.{over}
use Rattle.polls.proofs.Steps.{drop_last_nth}
use Rattle.polls.proofs.totals.total_health.Goals as goal

-- one controller more, from the last to the first
joined : (f : ℕ → ℕ → ℕ) (field : HealthValues → ℕ) (cs : List ControllerValues) (k total new : ℕ) (c : ControllerValues) → 0 < k
    → slice_get cs (k - 1) ≡ Some c → total ≡ over f field (drop k cs) → new ≡ f (field c.health) total → new ≡ over f field (drop (k - 1) cs)
joined f field cs k total new c h e t n = n ∙ ap (f (field c.health)) t ∙ sym (ap (over f field) (drop_last_nth cs k c h e))

pub loop-place-preserved-in-Some : goal.loop-place-preserved-in-Some
loop-place-preserved-in-Some g c =
    let cs = (g.R.Register.meaning c.args.register.now).controllers in
    let e : slice_get cs (c.loop-place.place - 1) ≡ Some (controller_of c.in-Some.controller) = sym c.get.ensures ∙ ap (option_map controller_of) c.in-Some.is in
    let w = c.with-totals.ensures in
    let i = c.loop-place.invariant in
    let h = c.loop-place-test.true in (
      joined bit_or _ cs _ _ _ (controller_of c.in-Some.controller) h e i.0 w.joins_critical_warnings,
      joined max _ cs _ _ _ (controller_of c.in-Some.controller) h e i.1 w.takes_the_warmer,
      joined max _ cs _ _ _ (controller_of c.in-Some.controller) h e i.2 w.takes_the_more_used,
    )
