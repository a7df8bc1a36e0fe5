-- Texts to which parts were appended one after the other.
use Rattle.std.proofs.Common.{◌≡◌, ◌++◌, ◌∙◌, ℕ, List, Result, Ok, Err, OnOk, ap, append_assoc}

-- four parts, of which the last may be refused
pub joined : {E : Type 0} (r : Result (Unit {0}) E) (old one two three four a b c d : List ℕ) → one ≡ old ++ a → two ≡ one ++ b → three ≡ two ++ c → OnOk r (four ≡ three ++ d)
    → OnOk r (four ≡ old ++ (a ++ (b ++ (c ++ d))))
joined (Err e) old one two three four a b c d p q s t = tt
joined (Ok done) old one two three four a b c d p q s t =
    let all : three ≡ ((old ++ a) ++ b) ++ c = s ∙ ap (λ (x : List ℕ). x ++ c) (q ∙ ap (λ (x : List ℕ). x ++ b) p) in
    let same : (((old ++ a) ++ b) ++ c) ++ d ≡ old ++ (a ++ (b ++ (c ++ d))) = simp append_assoc in
    t ∙ (ap (λ (x : List ℕ). x ++ d) all ∙ same)

-- five
pub joined_five : {E : Type 0} (r : Result (Unit {0}) E) (old one two three four five a b c d e : List ℕ) → one ≡ old ++ a → two ≡ one ++ b → three ≡ two ++ c → four ≡ three ++ d
    → OnOk r (five ≡ four ++ e) → OnOk r (five ≡ old ++ (a ++ (b ++ (c ++ (d ++ e)))))
joined_five (Err f) old one two three four five a b c d e p q s u t = tt
joined_five (Ok done) old one two three four five a b c d e p q s u t =
    let start : two ≡ old ++ (a ++ b) = q ∙ (ap (λ (x : List ℕ). x ++ b) p ∙ append_assoc old a b) in
    let rest = joined {E = Unit {0}} (Ok done) old two three four five (a ++ b) c d e start s u t in
    let same : old ++ ((a ++ b) ++ (c ++ (d ++ e))) ≡ old ++ (a ++ (b ++ (c ++ (d ++ e)))) = ap (λ (x : List ℕ). old ++ x) (append_assoc a b (c ++ (d ++ e))) in
    rest ∙ same
