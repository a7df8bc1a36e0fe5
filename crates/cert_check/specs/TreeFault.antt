-- The first error of the lines of a tree, line by line from the top.
use Rattle.std.specs.Prelude.{◌≡◌, ◌⊎◌, ℕ, ◌+◌, List, [], ◌∷◌, ◌++◌, Option, Some, None}
use Rattle.line_facts.specs.Masks.{Masks}
use Rattle.picture.specs.Rows.{Rows}
use Rattle.cert_text.specs.declared.fault.CertFault.{CertFault}
use Rattle.cert_text.specs.declared.fault.CertFault.TheVariants.{Place, NotDead, NotDone, Ended, Trailing}
use Rattle.cert_text.specs.declared.cert_line.CertLine.{CertLine}
use Rattle.cert_text.specs.declared.cert_line.CertLine.TheVariants.{Line, Split, Dead, Done}
use Rattle.cert_check.specs.Puzzle.{HasCellNumber, HasLineNumber, IsDead, IsForced, ShowsOnly, line_id}
use Rattle.cert_check.specs.Puzzle.{split_at}

-- the line is valid, and leads to branches with these facts
abbrev pub TreeLeads : Rows → Masks → CertLine → List Masks → Type 0
TreeLeads picture facts (Line number) next =
    HasLineNumber picture number
    × ((gained : Masks) × (IsForced picture facts (line_id number) gained × (next ≡ gained ∷ [])))
TreeLeads picture facts (Split cell) next = HasCellNumber picture cell × (next ≡ split_at facts cell)
TreeLeads picture facts (Dead number) next =
    HasLineNumber picture number × IsDead picture facts (line_id number) × (next ≡ [])
TreeLeads picture facts Done next = ShowsOnly picture facts × (next ≡ [])
TreeLeads picture facts _ next = ⊥

-- the error of line n, if it has one
abbrev pub HasTreeFault : Rows → Masks → CertLine → ℕ → CertFault → Type 0
HasTreeFault picture facts (Line number) n fault = (HasLineNumber picture number → ⊥) × (fault ≡ Place n)
HasTreeFault picture facts (Split cell) n fault = (HasCellNumber picture cell → ⊥) × (fault ≡ Place n)
HasTreeFault picture facts (Dead number) n fault =
    ((HasLineNumber picture number → ⊥) × (fault ≡ Place n))
    ⊎ (HasLineNumber picture number × (IsDead picture facts (line_id number) → ⊥) × (fault ≡ NotDead n))
HasTreeFault picture facts Done n fault = (ShowsOnly picture facts → ⊥) × (fault ≡ NotDone n)
HasTreeFault picture facts _ n fault = ⊥

-- The first error of lines, which are numbered from n, where branches with these facts are still to be proved.
abbrev pub TreeFault : Rows → List (List (List ℕ)) → ℕ → List CertLine → Option CertFault → Type 0
TreeFault picture [] n [] fault = fault ≡ None
TreeFault picture (facts ∷ others) n [] fault = fault ≡ Some (Ended n)
TreeFault picture [] n (line ∷ lines) fault = fault ≡ Some (Trailing n)
TreeFault picture (facts ∷ others) n (line ∷ lines) fault =
    ((found : CertFault) × (HasTreeFault picture facts line n found × (fault ≡ Some found)))
    ⊎ ((next : List Masks) × (TreeLeads picture facts line next × TreeFault picture (next ++ others)
    (n + 1) lines fault))
