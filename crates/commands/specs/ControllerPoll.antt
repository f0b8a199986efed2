-- The dwords of a Controller Health Status Poll, opcode 02h.
use Rattle.std.specs.Prelude.{ℕ, ◌+◌, ◌*◌, ◌/◌, ◌%◌, ◌^◌}
use Rattle.health.specs.Words.{bit}
use Rattle.commands.specs.Fields.{bit_at}
use Rattle.commands.specs.declared.controller_poll.ControllerHealthPoll.{ControllerHealthPoll}

-- NMD0: bit 31 Report All, 26 INCVF, 25 INCPF, 24 INCF, 23:16 MAXRENT, 15:0 SCTLID
abbrev pub poll_nmd0 : ControllerHealthPoll → ℕ
poll_nmd0 p =
    bit_at 31 p.report_all + bit_at 26 p.incvf + bit_at 25 p.incpf + bit_at 24 p.incf + p.maxrent * 2 ^ 16 + p.sctlid

-- NMD1: bit 31 Clear Changed Flags, and the selection bits 4 CWARN, 3 SPARE, 2 PDLU, 1 CTEMP, 0 CSTS
abbrev pub poll_nmd1 : ControllerHealthPoll → ℕ
poll_nmd1 p =
    bit_at 31 p.clear_changed_flags + bit_at 4 p.selection.cwarn + bit_at 3 p.selection.spare + bit_at 2 p.selection.pdlu
    + bit_at 1 p.selection.ctemp + bit_at 0 p.selection.csts

-- what two dwords ask for
abbrev pub poll_in : ℕ → ℕ → ControllerHealthPoll
poll_in nmd0 nmd1 = record {
  report_all = bit nmd0 31;
  incvf = bit nmd0 26;
  incpf = bit nmd0 25;
  incf = bit nmd0 24;
  maxrent = nmd0 / 2 ^ 16 % 2 ^ 8;
  sctlid = nmd0 % 2 ^ 16;
  clear_changed_flags = bit nmd1 31;
  selection = record { cwarn = bit nmd1 4; spare = bit nmd1 3; pdlu = bit nmd1 2; ctemp = bit nmd1 1; csts = bit nmd1 0 };
}
