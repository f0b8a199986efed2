-- What a report does to one Responder, by the place of the controller.
use Rattle.std.specs.Prelude.{ℕ, get_or, bit_or, slice_index_or, slice_set}
use Rattle.health.specs.Words.{without}
use Rattle.health.specs.Rows.{RowValues, clear_row, gaining}
use Rattle.model.specs.State.{Responder}
use Rattle.subsystem.specs.Responders.{ResponderValues}

-- the composite flags rise where the flags of the row do
abbrev pub raised : ℕ → RowValues → ResponderValues → ResponderValues
raised gained w h = record { kind = h.kind; composite = bit_or h.composite (without gained w.changed) }

-- its row at the place gains the flags and the status events
abbrev pub marked_at : ℕ → ℕ → ℕ → Responder → Responder
marked_at place gained events x = record {
  kind = x.kind;
  composite = bit_or x.composite (without gained (get_or x.rows place clear_row).changed);
  rows = slice_set x.rows place (gaining gained events (slice_index_or x.rows place clear_row));
}
