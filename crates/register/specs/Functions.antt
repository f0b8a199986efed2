-- The type of a controller's PCI function.
use Rattle.std.specs.Prelude.{ℕ, if◌then◌else◌, Some, None, Option, Result, ◌==◌}
use Rattle.std.specs.Option.{ok_or}
use Rattle.register.specs.declared.controller.FunctionType.{FunctionType}
use Rattle.register.specs.declared.controller.FunctionType.TheVariants.{Pci, SriovPhysical, SriovVirtual}
use Rattle.register.specs.declared.controller.UnknownFunctionType.{UnknownFunctionType}

-- 0 plain PCI, 1 SR-IOV physical, 2 SR-IOV virtual function
abbrev pub function_number : FunctionType → ℕ
function_number Pci = 0
function_number SriovPhysical = 1
function_number SriovVirtual = 2

-- the type of a number, where there is one
abbrev pub function_in : ℕ → Option FunctionType
function_in n =
    if n == 0 then Some Pci else
    (if n == 1 then Some SriovPhysical else
    (if n == 2 then Some SriovVirtual else None))

-- the same as the code answers it, with the number where there is none
abbrev pub function_read : ℕ → Result FunctionType UnknownFunctionType
function_read n = ok_or (function_in n) (record { 0 = n })
