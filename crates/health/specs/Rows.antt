-- What one Responder keeps of one controller.
use Rattle.std.specs.Prelude.{ℕ, bit_or}
use Rattle.health.specs.declared.row.Row.{Row}

-- changed flags, and copies of the status events at their places in the status word
pub record RowValues : Type 0 where
  pub changed : ℕ
  pub events : ℕ

-- a row of the code
abbrev pub row_of : Row → RowValues
row_of w = record { changed = w.changed.bits; events = w.events.bits }

-- no flag and no event
abbrev pub clear_row : RowValues
clear_row = record { changed = 0; events = 0 }

-- the row with these flags and events too
abbrev pub gaining : ℕ → ℕ → RowValues → RowValues
gaining changed events w = record { changed = bit_or w.changed changed; events = bit_or w.events events }
