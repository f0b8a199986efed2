-- What the register of capacity 4 means.
use Rattle.register.specs.Registers.{RegisterValues, register_over}
use Rattle.register.specs.declared.inline.InlineRegister.{InlineRegister}

-- the register over its own four slots
abbrev pub inline_of : InlineRegister → RegisterValues
inline_of r = register_over 4 r.count r.slots
