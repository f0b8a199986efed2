-- A controller found by its ID.
use Rattle.std.specs.Prelude.{◌≡◌, ℕ, false, List, Some, None, Option}
use Rattle.std.specs.List.{slice_get}
use Rattle.register.specs.Controllers.{ControllerValues, controller_of, present}
use Rattle.subsystem.specs.declared.find.Found.{Found}

-- the controller at a place, where it has the ID
pub record Finds (id : ℕ) (cs : List ControllerValues) (f : Found) : Type 0 where
  pub stands_there : slice_get cs f.place ≡ Some (controller_of f.controller)
  pub has_the_id : f.controller.id ≡ id

-- found, or no controller has the ID
abbrev pub FoundOrAbsent : ℕ → List ControllerValues → Option Found → Type 0
FoundOrAbsent id cs (Some f) = Finds id cs f
FoundOrAbsent id cs None = present id cs ≡ false
