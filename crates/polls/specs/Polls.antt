-- What a Controller Health Status Poll writes to lent space, and what it leaves in a Responder's rows.
use Rattle.std.specs.Prelude.{ℕ, ◌+◌, ◌*◌, cond, List, ◌++◌, length, drop, Ok, Result, nat_lt}
use Rattle.health.specs.Rows.{RowValues, clear_row}
use Rattle.wire.specs.Refusals.{Refusal, refuse_if, space_too_short}
use Rattle.commands.specs.declared.controller_poll.ControllerHealthPoll.{ControllerHealthPoll}
use Rattle.register.specs.Controllers.{ControllerValues}
use Rattle.model.specs.Requests.{qualifies, cleared, returned, entries}

-- the row of a controller that is returned
abbrev pub row_after : ControllerHealthPoll → RowValues → RowValues
row_after p w = cond p.clear_changed_flags clear_row w

-- the rows after a poll: with Clear Changed Flags, those of the controllers returned are cleared
abbrev pub rows_after_poll : ControllerHealthPoll → List ControllerValues → List RowValues → List RowValues
rows_after_poll p cs ws = cond p.clear_changed_flags (cleared (qualifies p) (p.maxrent + 1) cs ws) ws

-- space for MAXRENT + 1 entries of 16 bytes
abbrev pub entries_space : ControllerHealthPoll → ℕ
entries_space p = 16 * (p.maxrent + 1)

-- refused where the space is shorter, else how many are returned
abbrev pub entries_answer : ControllerHealthPoll → List ControllerValues → List RowValues → ℕ → Result ℕ Refusal
entries_answer p cs ws space = refuse_if (nat_lt space (entries_space p)) (space_too_short (entries_space p)) (Ok (length (returned p cs ws)))

-- the rows then
abbrev pub rows_after_entries : ControllerHealthPoll → List ControllerValues → List RowValues → ℕ → List RowValues
rows_after_entries p cs ws space = cond (nat_lt space (entries_space p)) ws (rows_after_poll p cs ws)

-- the space then: the entries, and what stood behind them
abbrev pub space_after_entries : ControllerHealthPoll → List ControllerValues → List RowValues → List ℕ → List ℕ
space_after_entries p cs ws space =
    cond (nat_lt (length space) (entries_space p)) space
    (entries (returned p cs ws) ++ drop (16 * length (returned p cs ws)) space)
