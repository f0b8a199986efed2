-- A Responder without its rows.
use Rattle.std.specs.Prelude.{ℕ}
use Rattle.subsystem.specs.declared.responder.Responder.{Responder}

-- the kind of its carrier, and its Composite Controller Status Flags
pub record ResponderValues : Type 0 where
  pub kind : ℕ
  pub composite : ℕ

-- a Responder of the code
abbrev pub responder_of : Responder → ResponderValues
responder_of x = record { kind = x.kind; composite = x.composite.bits }

-- no composite flag is set
abbrev pub no_composite : ℕ → ResponderValues
no_composite kind = record { kind = kind; composite = 0 }
