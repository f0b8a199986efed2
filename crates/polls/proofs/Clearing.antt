-- A loop that writes one value over every element, as seen through a map.
use Rattle.std.proofs.Common.{◌≡◌, ℕ, ◌+◌, ◌<◌, ◌≤◌, List, [], ◌∷◌, ◌++◌, map, length, get_or, drop, set, replicate, sym, ap, ◌∙◌}
use Rattle.std.proofs.lemmas.List.{map-set, set_at, drop_more, drop_all, append_assoc, append-nil, replicate_more, length-replicate}

pub clear_more : {X Y : Type 0} (f : X → Y) (z : Y) (xs : List X) (i : ℕ) (m : List Y) (x : X)
    → map f xs ≡ replicate i z ++ drop i m → i < length m → f x ≡ z → map f (set xs i x) ≡ replicate (i + 1) z ++ drop (i + 1) m
clear_more f z xs i m x inv l e =
    map-set f xs i x ∙ ap (λ l. set l i (f x)) inv ∙ ap (set (replicate i z ++ drop i m) i) e
    ∙ ap (λ l. set (replicate i z ++ l) i z) (drop_more m i z l)
    ∙ set_at (replicate i z) (get_or m i z) (drop (i + 1) m) z i (length-replicate i z)
    ∙ sym (append_assoc (replicate i z) (z ∷ []) (drop (i + 1) m)) ∙ ap (λ l. l ++ drop (i + 1) m) (replicate_more i z)

pub clear_all : {Y : Type 0} (z : Y) (i : ℕ) (m : List Y) → length m ≤ i → replicate i z ++ drop i m ≡ replicate i z
clear_all z i m l = ap (λ r. replicate i z ++ r) (drop_all i m l) ∙ append-nil (replicate i z)
