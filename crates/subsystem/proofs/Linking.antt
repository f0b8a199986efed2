-- The port that is looked for by its identifier.
use Rattle.std.proofs.Common.{◌≡◌, ℕ, zero, suc, ◌+◌, ◌<◌, Bool, true, false, cond, ◌||◌, eqb, List, [], ◌∷◌, length, get_or, set, Some, None, sym, refl, ap, ◌∙◌, arith}
use Rattle.std.specs.List.{position, position_from}
use Rattle.std.proofs.lemmas.Option.{none-some}
use Rattle.std.proofs.lemmas.List.Quantifiers.{position-Some}
use Rattle.std.proofs.lemmas.Iterator.Adapters.{position_from-zero}
use Rattle.register.specs.declared.port.Port.{Port}
use Rattle.model.specs.Drives.{is_port, linked_ports}

abbrev pub has_id : ℕ → Port → Bool
has_id id p = eqb p.id id

abbrev pub Unlinked : ℕ → Bool → List Port → Type 0
Unlinked id up ports = (is_port id ports ≡ false) × (linked_ports id up ports ≡ ports)

passed : (id : ℕ) (up : Bool) (i : ℕ) (p : Port) (ports : List Port) → (position_from (has_id id) (i + 1) ports ≡ None → Unlinked id up ports)
    → (b : Bool) → cond b (Some i) (position_from (has_id id) (i + 1) ports) ≡ None
    → ((b || is_port id ports) ≡ false) × (cond b (record { id = p.id; link_up = up } ∷ ports) (p ∷ linked_ports id up ports) ≡ p ∷ ports)
passed id up i p ports behind true e = absurd (none-some i (sym e))
passed id up i p ports behind false e = let u = behind e in (u.0, ap (λ l. p ∷ l) u.1)

no_port_from : (id : ℕ) (up : Bool) (i : ℕ) (ports : List Port) → position_from (has_id id) i ports ≡ None → Unlinked id up ports
no_port_from id up i [] e = (refl, refl)
no_port_from id up i (p ∷ ports) e = passed id up i p ports (no_port_from id up (i + 1) ports) (eqb p.id id) e

-- there is none: nothing is linked
pub no_port : (id : ℕ) (up : Bool) (ports : List Port) → position (has_id id) ports ≡ None → Unlinked id up ports
no_port id up ports e = no_port_from id up 0 ports (sym (position_from-zero (has_id id) ports) ∙ e)

abbrev pub vacant : Port
vacant = record { id = 0; link_up = false }

first_port_at : (id : ℕ) (up : Bool) (ports : List Port) (k : ℕ) → k < length ports → eqb (get_or ports k vacant).id id ≡ true
    → ((j : ℕ) → j < k → eqb (get_or ports j vacant).id id ≡ false)
    → (is_port id ports ≡ true) × (linked_ports id up ports ≡ set ports k (record { id = (get_or ports k vacant).id; link_up = up }))
first_port_at id up [] k within here before = absurd (omega arith)
first_port_at id up (p ∷ ports) zero within here before = (simp here, simp here)
first_port_at id up (p ∷ ports) (suc k) within here before =
    let other = before 0 (omega arith) in
    let behind = first_port_at id up ports k (omega arith) here (λ j h. before (suc j) (omega arith)) in
    (simp other behind.0, simp other (ap (λ l. p ∷ l) behind.1))

-- the first gets the link
pub first_port : (id : ℕ) (up : Bool) (ports : List Port) (k : ℕ) → position (has_id id) ports ≡ Some k
    → (is_port id ports ≡ true) × (linked_ports id up ports ≡ set ports k (record { id = (get_or ports k vacant).id; link_up = up }))
first_port id up ports k e = let found = position-Some (has_id id) ports k vacant e in first_port_at id up ports k found.0 found.1 found.2
