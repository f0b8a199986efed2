use Rattle.std.proofs.Common.{Bool, nat_le, ◌∙◌, rules, tests}
use Rattle.std.proofs.lemmas.Iterator.Consumers.{YieldsList-from_filter, YieldsList-at}
use Rattle.std.proofs.lemmas.Iterator.{YieldsList-from_slice}
use Rattle.register.specs.declared.port.Port.{Port}
use Rattle.polls.proofs.LowestPorts.{lowest_from_yields_List, lowest_of_those}
use Rattle.polls.proofs.links.lowest_port.Goals as goal

pub returns : goal.returns
returns c =
    let t : Port → Bool = λ p. nat_le c.args.from p.id in
    c.copied.ensures
    ∙ lowest_from_yields_List _ _ (λ x k q e. search (rules, tests)) _ _ c.min_by_key.ensures.ran
    (YieldsList-from_filter _ t (YieldsList-at c.filter.ensures.source (YieldsList-from_slice c.args.ports.now (cc))) c.filter.ensures.closure (λ x r q k. search (rules, tests)))
    ∙ lowest_of_those c.args.from c.args.ports.now
