-- Refusals in numbers.
use Rattle.std.specs.Prelude.{◌≡◌, ℕ, Bool, true, false, if◌then◌else◌, Ok, Err, Result, refl}
use Rattle.wire.specs.declared.fault.WireFault.{WireFault}
use Rattle.wire.specs.declared.fault.WireFault.TheVariants.{SpaceTooShort, CutShort, WrongFirstByte, WrongMessageType, WrongDirection}

-- a refusal: its number, the layer that refuses (1 subsystem or asking end, 2 register, 3 carrier), and its place
pub record Refusal : Type 0 where
  pub number : ℕ
  pub layer : ℕ
  pub place : ℕ

-- space for writing is shorter than the length needed
abbrev pub space_too_short : ℕ → Refusal
space_too_short needed = record { number = 2; layer = 1; place = needed }

-- bytes are cut short, or not of their length; the place is the length found
abbrev pub cut_short : ℕ → Refusal
cut_short found = record { number = 3; layer = 3; place = found }

-- byte 0 is another
abbrev pub wrong_first_byte : Refusal
wrong_first_byte = record { number = 4; layer = 3; place = 0 }

-- ROR or the message type is another, in the NMP byte at this place
abbrev pub wrong_message_type : ℕ → Refusal
wrong_message_type place = record { number = 5; layer = 3; place = place }

-- the opcode does not go with Send or with Receive
abbrev pub wrong_direction : Refusal
wrong_direction = record { number = 6; layer = 3; place = 44 }

-- what each fault of the code is
abbrev pub refusal : WireFault → Refusal
refusal (SpaceTooShort needed) = space_too_short needed
refusal (CutShort found) = cut_short found
refusal WrongFirstByte = wrong_first_byte
refusal (WrongMessageType place) = wrong_message_type place
refusal WrongDirection = wrong_direction

-- an answer of the code, its fault as the refusal that it is
abbrev pub with_refusals : {A E : Type 0} → (E → Refusal) → Result A E → Result A Refusal
with_refusals refused (Ok answer) = Ok answer
with_refusals refused (Err fault) = Err (refused fault)

-- an answer of the code, its fault in numbers
abbrev pub in_numbers : {A : Type 0} → Result A WireFault → Result A Refusal
in_numbers r = with_refusals refusal r

-- refused where the test holds, else what follows
abbrev pub refuse_if : {A : Type 0} → Bool → Refusal → Result A Refusal → Result A Refusal
refuse_if test refused rest = if test then Err refused else rest

-- what is refused is refused by a carrier
abbrev pub AtLayer3 : {A : Type 0} → Result A Refusal → Type 0
AtLayer3 (Ok answer) = Unit {0}
AtLayer3 (Err refused) = refused.layer ≡ 3

-- a test, and the tests that every message begins with, refuse at layer 3
pub test_at_layer_3 : {A : Type 0} (test : Bool) (f : Refusal) (rest : Result A Refusal) → f.layer ≡ 3 → AtLayer3 rest
    → AtLayer3 (refuse_if test f rest)
test_at_layer_3 true f rest e h = e
test_at_layer_3 false f rest e h = h

pub header_at_layer_3 : {A : Type 0} (short first message : Bool) (found place : ℕ) (rest : Result A Refusal) → AtLayer3 rest
    → AtLayer3 (refuse_if short (cut_short found) (refuse_if first wrong_first_byte (refuse_if message (wrong_message_type place) rest)))
header_at_layer_3 true first message found place rest h = refl
header_at_layer_3 false true message found place rest h = refl
header_at_layer_3 false false true found place rest h = refl
header_at_layer_3 false false false found place rest h = h
