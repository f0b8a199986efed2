-- The temperature code of a reading in kelvins.
use Rattle.std.specs.Prelude.{ℕ, ◌-◌, if◌then◌else◌, ℤ, pos, negsuc, ◌-ℤ◌, ◌==◌, int_le}

-- a byte in two's complement: -1 is `negsuc 0`, and FFh
abbrev pub byte_of : ℤ → ℕ
byte_of (pos n) = n
byte_of (negsuc n) = 255 - n

-- degrees Celsius: 127 and above is 7Fh, -60 and below is C4h, between them the two's complement byte
abbrev pub celsius_code : ℤ → ℕ
celsius_code celsius = if int_le (pos 127) celsius then 0x7f else if int_le celsius (negsuc 59) then 0xc4 else byte_of celsius

-- 0 kelvin is no reading
abbrev pub code_of : ℕ → ℕ
code_of kelvins = if kelvins == 0 then 0x80 else celsius_code (pos kelvins -ℤ pos 273)
