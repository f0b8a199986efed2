-- The Response Message Status of a reply's head, and its NVMe Management Response.
use Rattle.std.specs.Prelude.{ℕ, ◌*◌, ◌/◌, ◌%◌, ◌^◌, if◌then◌else◌, ◌==◌}
use Rattle.wire.specs.declared.message.Head.{Head}
use Rattle.commands.specs.declared.error.ErrorReply.{ErrorReply}
use Rattle.commands.specs.declared.error.ErrorReply.TheVariants as error
use Rattle.commands.specs.declared.response.ResponseStatus.{ResponseStatus}
use Rattle.commands.specs.declared.response.ResponseStatus.TheVariants as status

-- a head, by its status and NMRESP
abbrev pub head_of : ℕ → ℕ → Head
head_of status nmresp = record { status = status; nmresp = nmresp }

-- Invalid Command Opcode
abbrev pub invalid_opcode : Head
invalid_opcode = head_of 0x03 0

-- the place of the byte at fault is in NMRESP bits 23:8
abbrev pub invalid_parameter : ℕ → Head
invalid_parameter byte = head_of 0x04 (byte * 2 ^ 8)

-- Invalid Command Size
abbrev pub invalid_command_size : Head
invalid_command_size = head_of 0x05 0

-- the head of each error reply of the code
abbrev pub error_head : ErrorReply → Head
error_head error.InvalidOpcode = invalid_opcode
error_head (error.InvalidParameter byte) = invalid_parameter byte
error_head error.InvalidCommandSize = invalid_command_size

-- what a head says
abbrev pub status_in : Head → ResponseStatus
status_in head =
    if head.status == 0x00 then status.Success
    else if head.status == 0x03 then status.InvalidOpcode
    else if head.status == 0x04 then status.InvalidParameter (head.nmresp / 2 ^ 8 % 2 ^ 16)
    else if head.status == 0x05 then status.InvalidCommandSize
    else status.Other head.status
