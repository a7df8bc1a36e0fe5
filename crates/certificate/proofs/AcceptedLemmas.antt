-- The lines of a tree without an error are accepted.
use Rattle.std.proofs.Common.{◌≡◌, ℕ, ◌+◌, List, [], ◌∷◌, ◌++◌, None, length, refl, inl, inr}
use Rattle.std.specs.List.{AllByRecursion}
use Rattle.line_facts.specs.Masks.{Masks}
use Rattle.picture.specs.Rows.{Rows}
use Rattle.cert_text.specs.declared.cert_line.CertLine.{CertLine}
use Rattle.cert_text.specs.declared.cert_line.CertLine.TheVariants.{Line, Use, Split, Dead, Broken, Done, Part, Lemma, Deny, Forget}
use Rattle.cert_text.specs.Cert.{Certificate, place_of}
use Rattle.cert_check.specs.FirstFault.{CertFirstFault, FirstFault, Moves, found_by}
use Rattle.cert_check.specs.Puzzle.{HasCellNumber, base_of}
use Rattle.cert_check.specs.TreeFault.{TreeFault, TreeLeads}
use Rattle.cert_check.specs.Walk.{Walk, next_at, root}
use Rattle.cert_check.proofs.TreeExactness.{tree_walk}

-- where branches with these facts wait, and no lemma is proved
abbrev waiting : List (List ℕ) → List (List (List ℕ)) → Walk
waiting facts others = record (root facts) { behind = others }

tree_next : (facts : Masks) (others waits : List Masks) → tree_walk waits ≡ next_at (waiting facts others) waits
tree_next facts others [] = refl
tree_next facts others (next ∷ []) = refl
tree_next facts others (next ∷ other ∷ behind) = refl

tree_moves : (picture : Rows) (facts : Masks) (others : List Masks) (line : CertLine) (next : List (List (List ℕ))) → TreeLeads picture facts line next
    → Moves picture (found_by (waiting facts others) line) line (tree_walk (next ++ others))
tree_moves picture facts others (Line number) next l = (next, (l, tree_next facts others (next ++ others)))
tree_moves picture facts others (Split cell) next l = (next, (l, tree_next facts others (next ++ others)))
tree_moves picture facts others (Dead number) next l = (next, (l, tree_next facts others (next ++ others)))
tree_moves picture facts others Done next l = (next, (l, tree_next facts others (next ++ others)))
tree_moves picture facts others (Use n) next l = absurd l
tree_moves picture facts others (Broken n) next l = absurd l
tree_moves picture facts others (Part literal) next l = absurd l
tree_moves picture facts others Lemma next l = absurd l
tree_moves picture facts others (Deny literal) next l = absurd l
tree_moves picture facts others (Forget n) next l = absurd l

walks_on : (picture : Rows) (place : ℕ → ℕ) (lines : List CertLine) (waits : List (List (List ℕ))) (n i : ℕ) → TreeFault picture waits n lines None
    → FirstFault picture (tree_walk waits) place i lines None
walks_on picture place [] [] n i f = f
walks_on picture place [] (facts ∷ others) n i f = absurd (let e = f in cc)
walks_on picture place (line ∷ lines) [] n i f = absurd (let e = f in cc)
walks_on picture place (line ∷ lines) (facts ∷ others) n i (inl (found, (has, e))) = absurd (let none = e in cc)
walks_on picture place (line ∷ lines) (facts ∷ others) n i (inr (next, (leads, f))) =
    inr (tree_walk (next ++ others), (tree_moves picture facts others line next leads, walks_on picture place lines (next ++ others) (n + 1) (i + 1) f))

pub tree_accepted : (picture : Rows) (cert : Certificate) → AllByRecursion (HasCellNumber picture) cert.givens → TreeFault picture (base_of picture cert.givens ∷ []) 0 cert.lines None
    → CertFirstFault picture cert None
tree_accepted picture cert inside none =
    inr (inside, walks_on picture (place_of cert.runs (2 + length cert.givens)) cert.lines (base_of picture cert.givens ∷ []) 0 0 none)
