-- What a builder stands for.
use Rattle.model.specs.Fitting.{Fitted}
use Rattle.subsystem.specs.declared.builder.SubsystemBuilder.{SubsystemBuilder}

-- a builder of the code
abbrev pub fitted_of : SubsystemBuilder → Fitted
fitted_of b = record { kinds = b.kinds.items; port_count = b.port_count }
