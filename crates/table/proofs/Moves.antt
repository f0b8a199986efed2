-- A record put behind those in use, and then turned into its place.
use Rattle.std.proofs.Common.{◌≡◌, ℕ, suc, ◌+◌, ◌-◌, ◌<◌, ◌≤◌, List, [], ◌∷◌, ◌++◌, length, take, drop, set, sym, ap, ◌∙◌, add-one, arith}
use borrow.Rule.Slice.PartMut.{put_mid}
use Rattle.std.specs.List.{insert}
use Rattle.std.proofs.lemmas.List.{length-take, length-drop, length_push, set_split, take-append-drop, append_assoc, take_at, drop_at}

-- the part from `place` to `n`, turned by one, after x was put at `n`
pub turned_in : {X : Type 0} (xs : List X) (n place : ℕ) (x : X) (part : List X) → n < length xs → place ≤ n
    → part ≡ drop (n + 1 - place - 1) (take (n + 1 - place) (drop place (set xs n x))) ++ take (n + 1 - place - 1) (take (n + 1 - place) (drop place (set xs n x)))
    → put_mid place (n + 1 - place) (set xs n x) part ≡ insert (take n xs) place x ++ drop (n + 1) xs
turned_in xs n place x part h l e =
    let A = take place (take n xs) in
    let B = drop place (take n xs) in
    let R = drop (suc n) xs in
    let lc : length (take n xs) ≡ n = simp length-take (omega arith) in
    let la : length A ≡ place = simp length-take (omega arith) in
    let lb : length B ≡ n - place = simp length-drop (omega arith) in
    let whole : set xs n x ≡ A ++ (B ++ x ∷ R) =
    set_split xs n x h ∙ ap (λ l. l ++ x ∷ R) (sym (take-append-drop place (take n xs))) ∙ append_assoc A B (x ∷ R) in
    let front : take place (set xs n x) ≡ A = ap (take place) whole ∙ take_at A (B ++ x ∷ R) place la in
    let back : drop place (set xs n x) ≡ (B ++ x ∷ []) ++ R =
    ap (drop place) whole ∙ drop_at A (B ++ x ∷ R) place la ∙ sym (append_assoc B (x ∷ []) R) in
    let lbx : length (B ++ x ∷ []) ≡ n + 1 - place = simp length_push (omega arith) in
    let mid : take (n + 1 - place) (drop place (set xs n x)) ≡ B ++ x ∷ [] =
    ap (take (n + 1 - place)) back ∙ take_at (B ++ x ∷ []) R (n + 1 - place) lbx in
    let end : drop (n + 1 - place) (drop place (set xs n x)) ≡ R = ap (drop (n + 1 - place)) back ∙ drop_at (B ++ x ∷ []) R (n + 1 - place) lbx in
    let lb' : length B ≡ n + 1 - place - 1 = omega arith in
    let turned : part ≡ x ∷ B =
    e ∙ ap (λ l. drop (n + 1 - place - 1) l ++ take (n + 1 - place - 1) l) mid
    ∙ ap (λ l. l ++ take (n + 1 - place - 1) (B ++ x ∷ [])) (drop_at B (x ∷ []) (n + 1 - place - 1) lb')
    ∙ ap (λ l. x ∷ l) (take_at B (x ∷ []) (n + 1 - place - 1) lb') in
    let next : R ≡ drop (n + 1) xs = ap (λ k. drop k xs) (sym (add-one n)) in
    ap (λ l. l ++ (part ++ drop (n + 1 - place) (drop place (set xs n x)))) front
    ∙ ap (λ l. A ++ (l ++ drop (n + 1 - place) (drop place (set xs n x)))) turned
    ∙ ap (λ l. A ++ ((x ∷ B) ++ l)) (end ∙ next)
    ∙ sym (append_assoc A (x ∷ B) (drop (n + 1) xs))
