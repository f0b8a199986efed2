use Rattle.std.proofs.Common.{◌≡◌, max, drop}
use lib.Bits.{bit_or}
use Rattle.model.specs.Requests.{over}
use Rattle.polls.proofs.totals.total_health.Given as goal

abbrev pub invariant-loop-place : goal.invariant-loop-place
invariant-loop-place g l =
    let cs = drop l.place (g.R.Register.meaning l.register).controllers in
    (l.totals.critical_warning ≡ over bit_or (λ h. h.critical_warning) cs)
    × (l.totals.temperature ≡ over max (λ h. h.temperature) cs)
    × (l.totals.percentage_used ≡ over max (λ h. h.percentage_used) cs)
