-- What a line does to the facts of a branch.
use Rattle.std.specs.Prelude.{◌≡◌, List, [], ◌∷◌, Some}
use Rattle.line_facts.specs.Masks.{Masks}
use Rattle.picture.specs.Rows.{Rows}
use Rattle.cert_text.specs.declared.cert_line.CertLine.{CertLine}
use Rattle.cert_text.specs.declared.cert_line.CertLine.TheVariants.{Line, Use, Split, Dead, Broken, Done, Part}
use Rattle.cert_text.specs.declared.cert_line.Literal.{Literal}
use Rattle.cert_check.specs.Puzzle.{HasCellNumber, HasLineNumber, IsDead, IsForced, ShowsOnly, line_id, split_at}
use Rattle.cert_check.specs.Lemmas.{HasLiteral, Lemmas, held_off, held_to, lemma_at, still_open, used}

-- The line is valid, and leads from a branch with these facts to branches with those: to one that goes on with more,
-- to several, or to none where it ends. Lines that begin, deny or drop lemmas lead nowhere.
abbrev pub Leads : Rows → Lemmas → Masks → CertLine → List Masks → Type 0
Leads picture lemmas facts (Line number) next =
    HasLineNumber picture number
    × ((gained : Masks) × (IsForced picture facts (line_id number) gained × (next ≡ gained ∷ [])))
Leads picture lemmas facts (Use n) next =
    (literals : List Literal) × ((lemma_at lemmas n ≡ Some literals) × (next ≡ used facts literals ∷ []))
Leads picture lemmas facts (Split cell) next = HasCellNumber picture cell × (next ≡ split_at facts cell)
Leads picture lemmas facts (Part literal) next =
    HasLiteral picture literal × (next ≡ held_off facts literal ∷ held_to facts literal ∷ [])
Leads picture lemmas facts (Dead number) next =
    HasLineNumber picture number × IsDead picture facts (line_id number) × (next ≡ [])
Leads picture lemmas facts (Broken n) next =
    (literals : List Literal)
    × ((lemma_at lemmas n ≡ Some literals) × (still_open facts literals ≡ []) × (next ≡ []))
Leads picture lemmas facts Done next = ShowsOnly picture facts × (next ≡ [])
Leads picture lemmas facts _ next = ⊥
