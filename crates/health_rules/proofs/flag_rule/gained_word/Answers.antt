use Rattle.health.specs.Values.{health_of}
use Rattle.health_rules.proofs.Gains.{joined}
use Rattle.health_rules.proofs.flag_rule.gained_word.Goals as goal

pub returns : goal.returns
returns c =
    let status = c.status_flags.ensures in
    let is = joined (health_of c.args.old) c.args.new c.status_flags.result c.field_flags.result status.is_the_word_of_its_rows status.below_ctemp status.bit_3_is_clear c.field_flags.ensures in
    record { is_the_word_of_the_table = is.0; names_flags_only = is.1 }
