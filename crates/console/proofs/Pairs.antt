-- Bytes that were read stand before those of the text that is left.
use Rattle.std.proofs.Common.{◌≡◌, ℕ, zero, suc, ◌+◌, ◌*◌, ◌%◌, ◌<◌, ◌≤◌, List, [], ◌∷◌, ◌++◌, length, get_or, drop, Some, None, Option, refl, ap, ◌∙◌, append_assoc, arith}
use Rattle.std.specs.Simd.{first_chunks}
use Rattle.console.specs.Hex.{hex_digit, hex_bytes, byte_before}

abbrev pub prefixed : List ℕ → Option (List ℕ) → Option (List ℕ)
prefixed before (Some bytes) = Some (before ++ bytes)
prefixed before None = None

-- nothing is read yet
pub none_read : (bytes : Option (List ℕ)) → prefixed [] bytes ≡ bytes
none_read (Some bytes) = refl
none_read None = refl

-- a byte is pushed behind those read before
pub pushed : (before : List ℕ) (high low : ℕ) (rest : Option (List ℕ))
    → prefixed (before ++ ((high * 16 + low) ∷ [])) rest ≡ prefixed before (byte_before (Some high) (Some low) rest)
pushed before high low (Some bytes) = ap {B = Option (List ℕ)} (λ l. Some l) (append_assoc before ((high * 16 + low) ∷ []) bytes)
pushed before high low None = refl

-- the text that a pair begins: its byte, and then the bytes of the text behind it
pub pair_at : (count : ℕ) (text : List ℕ) (i : ℕ) → count * 2 ≤ length text → i < count
    → hex_bytes (drop (i * 2) text)
    ≡ byte_before (hex_digit (get_or (get_or (first_chunks 2 count text) i []) 0 0)) (hex_digit (get_or (get_or (first_chunks 2 count text) i []) 1 0))
    (hex_bytes (drop ((i + 1) * 2) text))
pair_at zero text i le h = absurd (omega arith)
pair_at (suc count) [] i le h = absurd (omega arith)
pair_at (suc count) (a ∷ []) i le h = absurd (omega arith)
pair_at (suc count) (a ∷ (b ∷ behind)) zero le h = refl
pair_at (suc count) (a ∷ (b ∷ behind)) (suc i) le h =
    let here : suc i * 2 ≡ suc (suc (i * 2)) = omega arith in
    let next : (suc i + 1) * 2 ≡ suc (suc ((i + 1) * 2)) = omega arith in
    rw (here, next) (pair_at count behind i (omega arith) (omega arith))

none_behind : (high low : Option ℕ) → byte_before high low None ≡ None
none_behind (Some high) (Some low) = refl
none_behind (Some high) None = refl
none_behind None low = refl

-- a digit is left over
pub odd : (text : List ℕ) → length text % 2 ≡ 1 → hex_bytes text ≡ None
odd [] e = absurd (omega arith)
odd (code ∷ []) e = refl
odd (a ∷ (b ∷ behind)) e =
    ap (byte_before (hex_digit a) (hex_digit b)) (odd behind (omega arith)) ∙ none_behind (hex_digit a) (hex_digit b)
