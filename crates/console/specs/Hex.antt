-- Bytes as pairs of hex digits.
use Rattle.std.specs.Prelude.{◌≡◌, ℕ, ◌+◌, ◌-◌, ◌*◌, Bool, cond, ◌&&◌, List, [], ◌∷◌, Some, None, Ok, Err, vec_items, Option, Result, Vec, nat_le}
use Rattle.std.specs.declared.alloc.Global.{Global}
use Rattle.console.specs.declared.hex.HexFault.{HexFault}
use Rattle.console.specs.declared.hex.HexFault.TheVariants.{NotHexPairs, OutOfMemory}

-- a code from the first to the last of a range
abbrev pub from_to : ℕ → ℕ → ℕ → Bool
from_to first last code = nat_le first code && nat_le code last

-- the codes of 0 to 9, A to F, a to f
abbrev pub hex_digit : ℕ → Option ℕ
hex_digit code =
    cond (from_to 48 57 code) (Some (code - 48))
    (cond (from_to 65 70 code) (Some (code - 65 + 10))
    (cond (from_to 97 102 code) (Some (code - 97 + 10)) None))

-- a byte before others, where its digits and the others are there
abbrev pub byte_before : Option ℕ → Option ℕ → Option (List ℕ) → Option (List ℕ)
byte_before (Some high) (Some low) (Some bytes) = Some ((high * 16 + low) ∷ bytes)
byte_before (Some high) (Some low) None = None
byte_before (Some high) None rest = None
byte_before None low rest = None

-- the bytes that a text names, where it is pairs of hex digits
abbrev pub hex_bytes : List ℕ → Option (List ℕ)
hex_bytes [] = Some []
hex_bytes (high ∷ []) = None
hex_bytes (high ∷ (low ∷ behind)) = byte_before (hex_digit high) (hex_digit low) (hex_bytes behind)

-- what is answered of a text; memory may be short at any text
abbrev pub Reads : Result (Vec ℕ Global) HexFault → List ℕ → Type 0
Reads (Ok bytes) text = hex_bytes text ≡ Some (vec_items bytes)
Reads (Err NotHexPairs) text = hex_bytes text ≡ None
Reads (Err OutOfMemory) text = Unit {0}
