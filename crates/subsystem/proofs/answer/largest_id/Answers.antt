use Rattle.std.proofs.Common.{◌≡◌, ◌-◌, length, ap, ◌∙◌, rules}
use Rattle.std.specs.List.{slice_get}
use Rattle.model.proofs.Controllers.{lawful_ascends}
use Rattle.subsystem.proofs.Finding.{largest_is}
use Rattle.subsystem.proofs.answer.largest_id.Goals as goal

pub returns : goal.returns
returns g c =
    let cs = (g.R.Register.meaning c.args.register.now).controllers in
    let last : c.saturating_sub.result ≡ length cs - 1 = c.saturating_sub.ensures ∙ ap (λ n. n - 1) c.len.ensures in
    largest_is cs c.get.result c.map_or.result (lawful_ascends 0 cs (g.R.Register.holds_lawful_controllers c.args.register.now)) (c.get.ensures ∙ ap (slice_get cs) last)
    (λ none. search rules) (λ x some. search rules)
