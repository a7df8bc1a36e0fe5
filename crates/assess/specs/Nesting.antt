-- A walk through a tree by a trail, and in how many splits its branches stand.
use Rattle.std.specs.Prelude.{◌≡◌, ℕ, ◌+◌, ◌-◌, ◌^◌, List, [], ◌∷◌, ◌++◌, length, min}
use Rattle.line_facts.specs.Masks.{Masks}
use Rattle.picture.specs.Rows.{Rows}
use Rattle.trail.specs.Trail.{Trailed}
use Rattle.cert_text.specs.declared.cert_line.CertLine.{CertLine}
use Rattle.cert_text.specs.declared.cert_line.CertLine.TheVariants.{Line, Split, Dead, Done}
use Rattle.cert_check.specs.Puzzle.{HasCellNumber, HasLineNumber, IsForced, line_id, split_at}

-- in how many splits branches stand that begin at a line, where it stands in so many, if there is a larger number
abbrev pub nest_after : CertLine → ℕ → ℕ
nest_after (Split cell) nest = min (nest + 1) (2 ^ 64 - 1)
nest_after _ nest = nest

-- the first of these facts are at hand, and the others wait; where there are none, the walk is over
abbrev pub IsAt : Trailed → List Masks → Type 0
IsAt trail [] = Unit {0}
IsAt trail (facts ∷ others) = (trail.at_hand ≡ facts) × (trail.behind ≡ others)

-- A line of a tree leads to so many branches, which come before those that wait.
abbrev pub Follows : Rows → Trailed → CertLine → ℕ → Trailed → Type 0
Follows picture old (Line number) begun new = HasLineNumber picture number → (begun ≡ 1)
    × IsForced picture old.at_hand (line_id number) new.at_hand × (new.behind ≡ old.behind)
Follows picture old (Split cell) begun new = HasCellNumber picture cell
    → (begun ≡ length (split_at old.at_hand cell)) × IsAt new (split_at old.at_hand cell ++ old.behind)
Follows picture old (Dead number) begun new = (begun ≡ 0) × IsAt new old.behind
Follows picture old Done begun new = (begun ≡ 0) × IsAt new old.behind
Follows picture old _ begun new = Unit {0}
