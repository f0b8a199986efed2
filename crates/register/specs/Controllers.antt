-- Controllers, over plain numbers, and lists of them.
use Rattle.std.specs.Prelude.{ℕ, zero, suc, ◌+◌, ◌^◌, Bool, true, false, if◌then◌else◌, ◌&&◌, ◌||◌, List, [], ◌∷◌, ◌==◌, nat_le, nat_lt}
use Rattle.health.specs.Values.{HealthValues, health_of}
use Rattle.register.specs.Functions.{function_number}
use Rattle.std.specs.Ordering.{nat_cmp}
use Rattle.table.specs.Orders.{first_place}
use Rattle.register.specs.declared.controller.Controller.{Controller}

-- a controller
pub record ControllerValues : Type 0 where
  pub id : ℕ
  -- 0 plain PCI, 1 SR-IOV physical, 2 SR-IOV virtual function
  pub function : ℕ
  pub health : HealthValues

-- a controller of the code
abbrev pub controller_of : Controller → ControllerValues
controller_of c = record { id = c.id; function = function_number c.function; health = health_of c.health }

-- an ID of 16 bits, one of the three function types, levels of 6 bits
abbrev pub sound : ControllerValues → Bool
sound c = nat_lt c.id (2 ^ 16) && (nat_le c.function 2 && nat_lt c.health.levels (2 ^ 6))

-- sound controllers whose IDs ascend from n on, none twice
abbrev pub lawful_from : ℕ → List ControllerValues → Bool
lawful_from n [] = true
lawful_from n (c ∷ cs) = nat_le n c.id && (sound c && lawful_from (c.id + 1) cs)

-- sound controllers whose IDs ascend, none twice
abbrev pub lawful : List ControllerValues → Bool
lawful cs = lawful_from 0 cs

-- the first place with an ID at or above n, else the length
abbrev pub first_from : ℕ → List ControllerValues → ℕ
first_from n cs = first_place nat_cmp (λ c. c.id) n cs

-- a controller has the ID n
abbrev pub present : ℕ → List ControllerValues → Bool
present n [] = false
present n (c ∷ cs) = c.id == n || present n cs

-- a controller in its place
abbrev pub enrolled : ControllerValues → List ControllerValues → List ControllerValues
enrolled x [] = x ∷ []
enrolled x (c ∷ cs) = if nat_lt c.id x.id then c ∷ enrolled x cs else x ∷ (c ∷ cs)

-- another health
abbrev pub with_health : HealthValues → ControllerValues → ControllerValues
with_health h c = record { id = c.id; function = c.function; health = h }

-- another health at a place, and nothing past the end
abbrev pub written : ℕ → HealthValues → List ControllerValues → List ControllerValues
written k h [] = []
written zero h (c ∷ cs) = with_health h c ∷ cs
written (suc k) h (c ∷ cs) = c ∷ written k h cs
