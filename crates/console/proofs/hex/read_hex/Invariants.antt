use Rattle.std.proofs.Common.{◌≡◌, ◌*◌, drop, vec_items}
use Rattle.console.specs.Hex.{hex_bytes}
use Rattle.console.proofs.Pairs.{prefixed}
use Rattle.console.proofs.hex.read_hex.Given as goal

-- what was read, and then the bytes of what is left
abbrev pub invariant-loop-high : goal.invariant-loop-high
invariant-loop-high l = prefixed (vec_items l.bytes) (hex_bytes (drop (l.high-index * 2) l.text)) ≡ hex_bytes l.text
