-- Names of files that are opened, and what is left alone.
use Rattle.std.proofs.Common.{◌≡◌, ℕ, List, [], ◌∷◌, ◌++◌, Option, Some, None, refl, ap, ◌∙◌}
use Rattle.std.specs.Io.KnownBytes.{Keeps}
use Rattle.std.proofs.lemmas.List.{append_assoc}
use Rattle.command_text.specs.Words.{Texts}

-- ---- names

pub names_both : (before between after : Texts) (one other : List ℕ) → between ≡ before ++ one ∷ [] → after ≡ between ++ other ∷ [] → after ≡ before ++ one ∷ other ∷ []
names_both before between after one other first next =
    next ∙ (ap (λ (xs : Texts). xs ++ (other ∷ [])) first ∙ append_assoc before (one ∷ []) (other ∷ []))

pub names_three : (before one two three : Texts) (a b c : List ℕ) → one ≡ before ++ a ∷ [] → two ≡ one ++ b ∷ [] → three ≡ two ++ c ∷ [] → three ≡ before ++ a ∷ b ∷ c ∷ []
names_three before one two three a b c first next last =
    last ∙ (ap (λ (xs : Texts). xs ++ (c ∷ [])) (names_both before one two a b first next) ∙ append_assoc before (a ∷ b ∷ []) (c ∷ []))

-- ---- what is left alone

pub keeps_same : (known : Option (List ℕ)) → Keeps known known
keeps_same None = tt
keeps_same (Some bytes) = refl
