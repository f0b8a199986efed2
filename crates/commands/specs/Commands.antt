-- The four health commands, and the dwords that carry them.
use Rattle.std.specs.Prelude.{ℕ, ◌%◌, ◌^◌, Bool, if◌then◌else◌, Ok, Err, Result, ◌==◌}
use Rattle.std.specs.Result.{result_map_both}
use Rattle.health.specs.Words.{bit}
use Rattle.health.specs.Flags.{named_flags}
use Rattle.wire.specs.declared.message.Command.{Command}
use Rattle.wire.specs.declared.message.Head.{Head}
use Rattle.commands.specs.Fields.{bit_at}
use Rattle.commands.specs.ControllerPoll.{poll_nmd0, poll_nmd1, poll_in}
use Rattle.commands.specs.Status.{error_head, invalid_opcode, invalid_parameter}
use Rattle.commands.specs.declared.error.ErrorReply.{ErrorReply}
use Rattle.commands.specs.declared.controller_poll.ControllerHealthPoll.{ControllerHealthPoll}
use Rattle.commands.specs.declared.command.HealthCommand.{HealthCommand}
use Rattle.commands.specs.declared.command.HealthCommand.TheVariants.{SubsystemHealthStatusPoll, ControllerHealthStatusPoll, ConfigurationSet, ConfigurationGet}

-- what is asked, over plain numbers
pub data Asked : Type 0 where
  -- NVM Subsystem Health Status Poll, opcode 01h; whether to clear the composite flags
  subsystem_poll : Bool → Asked
  -- Controller Health Status Poll, opcode 02h
  controller_poll : ControllerHealthPoll → Asked
  -- Configuration Set, opcode 03h; the composite flags to clear
  configuration_set : ℕ → Asked
  -- Configuration Get, opcode 04h
  configuration_get : Asked

-- what a request of the code asks
abbrev pub asked_of : HealthCommand → Asked
asked_of (SubsystemHealthStatusPoll clear) = subsystem_poll clear
asked_of (ControllerHealthStatusPoll poll) = controller_poll poll
asked_of (ConfigurationSet clear) = configuration_set clear.bits
asked_of ConfigurationGet = configuration_get

-- a command, by its opcode and its dwords
abbrev pub dwords : ℕ → ℕ → ℕ → Command
dwords opcode nmd0 nmd1 = record { opcode = opcode; nmd0 = nmd0; nmd1 = nmd1 }

-- the Configuration Identifier Health Status Change is 02h
abbrev pub command_of : Asked → Command
command_of (subsystem_poll clear) = dwords 0x01 0 (bit_at 31 clear)
command_of (controller_poll poll) = dwords 0x02 (poll_nmd0 poll) (poll_nmd1 poll)
command_of (configuration_set clear) = dwords 0x03 0x02 clear
command_of configuration_get = dwords 0x04 0x02 0

-- NMD0 bits 7:0 are the Configuration Identifier
abbrev pub if_health_status_change : ℕ → Asked → Result Asked Head
if_health_status_change nmd0 asked = if nmd0 % 2 ^ 8 == 0x02 then Ok asked else Err (invalid_parameter 8)

-- what an opcode and two dwords ask, or the error reply that they get
abbrev pub asked_in : Command → Result Asked Head
asked_in c =
    if c.opcode == 0x01 then Ok (subsystem_poll (bit c.nmd1 31))
    else if c.opcode == 0x02 then Ok (controller_poll (poll_in c.nmd0 c.nmd1))
    else if c.opcode == 0x03 then if_health_status_change c.nmd0 (configuration_set (named_flags c.nmd1))
    else if c.opcode == 0x04 then if_health_status_change c.nmd0 configuration_get
    else Err invalid_opcode

-- an answer of the code, over plain numbers
abbrev pub told : Result HealthCommand ErrorReply → Result Asked Head
told r = result_map_both asked_of error_head r
