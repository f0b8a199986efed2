-- The entries of a reply, and which IDs they have.
use Rattle.std.proofs.Common.{◌≡◌, ℕ, zero, suc, ◌*◌, ◌^◌, ◌<◌, ◌≤◌, Bool, ◌⊎◌, ◌↔◌, List, [], ◌∷◌, ◌++◌, length, take, drop, sym, ap, ◌∙◌, subst, inl, inr, suc-mul, add_comm, arith}
use Rattle.std.specs.List.{AllByRecursion as All}
use Rattle.std.proofs.lemmas.List.{drop-drop}
use Rattle.std.proofs.lemmas.Bool.{cond_both}
use Rattle.health.specs.Rows.{RowValues}
use Rattle.wire.specs.Bytes.{word_reads_back}
use Rattle.commands.specs.ControllerData.{entry_bytes}
use Rattle.register.specs.Controllers.{ControllerValues}
use Rattle.model.specs.Requests.{chosen, entry_for, entries}
use Rattle.model.specs.Histories.{entry_at, entry_count, id_in, flags_in}

-- a poll chooses no more than it may
pub chosen_at_most : (t : ControllerValues → RowValues → Bool) (n : ℕ) (cs : List ControllerValues) (ws : List RowValues) → length (chosen t n cs ws) ≤ n
chosen_at_most t zero cs ws = omega arith
chosen_at_most t (suc n) [] ws = omega arith
chosen_at_most t (suc n) (c ∷ cs) [] = omega arith
chosen_at_most t (suc n) (c ∷ cs) (w ∷ ws) =
    let i = chosen_at_most t n cs ws in
    let j = chosen_at_most t (suc n) cs ws in
    cond_both (t c w) _ _ (λ (l : List (ControllerValues × RowValues)). length l ≤ suc n) (λ _. omega arith) (λ _. j)

abbrev pub bytes_of : ControllerValues × RowValues → List ℕ
bytes_of e = entry_bytes (entry_for e.0 e.1)

entry_behind : (i : ℕ) (e : ControllerValues × RowValues) (l : List ℕ) → entry_at (bytes_of e ++ l) (suc i) ≡ entry_at l i
entry_behind i e l =
    ap (λ k. take 16 (drop k (bytes_of e ++ l))) (suc-mul i 16 ∙ add_comm (i * 16) 16) ∙ ap (take 16) (sym (drop-drop (i * 16) 16 (bytes_of e ++ l)))

-- what holds of the bytes of each chosen one holds of the entry at each place
pub entry_all : (P : List ℕ → Type 0) (es : List (ControllerValues × RowValues)) → All (λ e. P (bytes_of e)) es → (i : ℕ) → i < length es
    → P (entry_at (entries es) i)
entry_all P [] a i h = absurd (omega arith)
entry_all P (e ∷ es) a zero h = a.0
entry_all P (e ∷ es) a (suc i) h = subst P (sym (entry_behind i e (entries es))) (entry_all P es a.1 i (omega arith))

-- ID and changed flags have 16 bits
abbrev pub Fits : ControllerValues × RowValues → Type 0
Fits e = (e.0.id < 2 ^ 16) × (e.1.changed < 2 ^ 16)

pub id_read : (e : ControllerValues × RowValues) → Fits e → id_in (bytes_of e) ≡ e.0.id
id_read e h = word_reads_back e.0.id h.0

pub flags_read : (e : ControllerValues × RowValues) → Fits e → flags_in (bytes_of e) ≡ e.1.changed
flags_read e h = word_reads_back e.1.changed h.1

-- one of the chosen has the ID
abbrev pub HasId : ℕ → List (ControllerValues × RowValues) → Type 0
HasId id [] = ⊥
HasId id (e ∷ es) = (e.0.id ≡ id) ⊎ HasId id es

-- one of the entries of a reply has the ID
abbrev pub Returns : ℕ → List ℕ → ℕ → Type 0
Returns nmresp payload id = (i : ℕ) × (i < entry_count nmresp) × (id_in (entry_at payload i) ≡ id)

place_of : (es : List (ControllerValues × RowValues)) (id : ℕ) → All Fits es → HasId id es → (i : ℕ) × (i < length es) × (id_in (entry_at (entries es) i) ≡ id)
place_of [] id a h = absurd h
place_of (e ∷ es) id a (inl p) = (0, omega arith, id_read e a.0 ∙ p)
place_of (e ∷ es) id a (inr h) =
    let g = place_of es id a.1 h in (suc g.0, omega (arith, g.1), ap id_in (entry_behind g.0 e (entries es)) ∙ g.2)

id_at_place : (es : List (ControllerValues × RowValues)) (id : ℕ) → All Fits es → (i : ℕ) → i < length es → id_in (entry_at (entries es) i) ≡ id → HasId id es
id_at_place [] id a i h p = absurd (omega arith)
id_at_place (e ∷ es) id a zero h p = inl (sym (id_read e a.0) ∙ p)
id_at_place (e ∷ es) id a (suc i) h p = inr (id_at_place es id a.1 i (omega arith) (sym (ap id_in (entry_behind i e (entries es))) ∙ p))

-- the IDs that the reply to a poll returns are those of the chosen
pub returns_chosen : (es : List (ControllerValues × RowValues)) (id : ℕ) → All Fits es → Returns (length es * 2 ^ 16) (entries es) id ↔ HasId id es
returns_chosen es id a = (
  (λ h. id_at_place es id a h.0 (let l = h.1 in omega arith) h.2),
  (λ h. let g = place_of es id a h in (g.0, (let l = g.1 in omega arith), g.2)),
)
