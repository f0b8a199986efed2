-- What a register means, and what its calls answer and leave.
use Rattle.std.specs.Prelude.{ℕ, ◌+◌, if◌then◌else◌, not, List, map, length, take, is_ok, Ok, Result, nat_lt}
use Rattle.health.specs.Values.{HealthValues}
use Rattle.wire.specs.Refusals.{Refusal, refuse_if}
use Rattle.register.specs.Controllers.{ControllerValues, controller_of, present, enrolled, written}
use Rattle.register.specs.declared.controller.Controller.{Controller}
use Rattle.register.specs.RegisterRefusals.{id_present, register_full}

-- a capacity, and the controllers in ascending ID
pub record RegisterValues : Type 0 where
  pub capacity : ℕ
  pub controllers : List ControllerValues

-- the register over slots of which the first n are in use
abbrev pub register_over : ℕ → ℕ → List Controller → RegisterValues
register_over capacity n slots = record { capacity = capacity; controllers = map controller_of (take n slots) }

-- how many are in use after an enrolment that answers r
abbrev pub count_after : {A E : Type 0} → Result A E → ℕ → ℕ
count_after r n = if is_ok r then n + 1 else n

-- the same register with another list
abbrev pub with_controllers : RegisterValues → List ControllerValues → RegisterValues
with_controllers m cs = record { capacity = m.capacity; controllers = cs }

-- refused exactly if the ID is present, or the list is at capacity
abbrev pub enroll_answer : ControllerValues → RegisterValues → Result (Unit {0}) Refusal
enroll_answer x m =
    refuse_if (present x.id m.controllers) (id_present x.id)
    (refuse_if (not (nat_lt (length m.controllers) m.capacity)) (register_full m.capacity) (Ok tt))

-- the list has it in its place, unless it is refused
abbrev pub after_enroll : ControllerValues → RegisterValues → RegisterValues
after_enroll x m =
    if present x.id m.controllers then m else
    (if not (nat_lt (length m.controllers) m.capacity) then m else with_controllers m (enrolled x m.controllers))

-- one health is replaced
abbrev pub after_write : ℕ → HealthValues → RegisterValues → RegisterValues
after_write place h m = with_controllers m (written place h m.controllers)
