-- Sets of positions in words: what is read from a list of words, and what is stored there.
use Rattle.std.proofs.Common.{◌≡◌, ℕ, zero, suc, ◌+◌, ◌<◌, ◌≤◌, List, ◌∷◌, map, replicate, refl, sym, ap, ◌∙◌, arith, length, get_or, set}
use Rattle.std.proofs.lemmas.List.{length-map, get_or-map, map-set}
use Rattle.line_settle.proofs.MarkLemmas.{stored}

-- ---- reading and storing

pub word_at : {X : Type 0} (bits : X → ℕ) (xs : List X) (k : ℕ) (x : X) → k < length xs → x ≡ get_or xs k x → bits x ≡ get_or (map bits xs) k 0
word_at bits xs k x room is = ap bits is ∙ sym (get_or-map bits xs k x 0 room)

pub word_stored : {X : Type 0} (bits : X → ℕ) (P : ℕ → ℕ → Type 0) (B : ℕ → Type 0) (xs : List X) (n j : ℕ) (x : X) → n ≡ j + 1 → j < length xs → P j (bits x)
    → ((r : ℕ) → n ≤ r → B r → P r (get_or (map bits xs) r 0)) → (r : ℕ) → j ≤ r → B r → P r (get_or (map bits (set xs j x)) r 0)
word_stored bits P B xs n j x e room is before r h b =
    let l = length-map xs bits in
    rw map-set (stored P B (map bits xs) n j (bits x) e (omega arith) is before r h b)

-- empty sets alone
pub none_in : {X : Type 0} (bits : X → ℕ) (n : ℕ) (x : X) → bits x ≡ 0 → map bits (replicate n x) ≡ replicate n 0
none_in bits zero x e = refl
none_in bits (suc n) x e = ap (λ y. y ∷ map bits (replicate n x)) e ∙ ap (λ (ys : List ℕ). 0 ∷ ys) (none_in bits n x e)
