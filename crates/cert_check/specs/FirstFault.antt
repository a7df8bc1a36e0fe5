-- The first error of a certificate, line by line from the top.
use Rattle.std.specs.Prelude.{◌≡◌, ◌⊎◌, ℕ, ◌+◌, ◌<◌, List, [], ◌∷◌, ◌++◌, length, Option, Some, None, Result, Ok, Err}
use Rattle.std.specs.List.{AllByRecursion}
use Rattle.line_facts.specs.Masks.{Masks}
use Rattle.picture.specs.Rows.{Rows}
use Rattle.cert_text.specs.declared.fault.CertFault.{CertFault}
use Rattle.cert_text.specs.declared.fault.CertFault.TheVariants.{Place, NoLemma, Misplaced, Full, NotDead, NotDone}
use Rattle.cert_text.specs.declared.fault.CertFault.TheVariants.{Ended, Trailing, Memory}
use Rattle.cert_text.specs.declared.cert_line.CellNumber.{CellNumber}
use Rattle.cert_text.specs.declared.cert_line.Literal.{Literal}
use Rattle.cert_text.specs.declared.cert_line.CertLine.{CertLine}
use Rattle.cert_text.specs.declared.cert_line.CertLine.TheVariants.{Line, Use, Split, Dead, Broken, Done, Part, Lemma}
use Rattle.cert_text.specs.declared.cert_line.CertLine.TheVariants.{Deny, Forget}
use Rattle.cert_text.specs.Cert.{Certificate, place_of}
use Rattle.cert_text.specs.declared.cert_line.TheConstants.{MAX_LEMMA_LITERALS, MAX_LITERALS}
use Rattle.cert_check.specs.declared.stage.Stage.TheVariants.{Denying}
use Rattle.cert_check.specs.Puzzle.{HasCellNumber, HasLineNumber, IsDead, ShowsOnly, base_of, line_id}
use Rattle.cert_check.specs.Lemmas.{HasLiteral, IsKept, lemma_at, still_open, total}
use Rattle.cert_check.specs.Steps.{Leads}
use Rattle.cert_check.specs.Walk.{Walk, begun, denied, next_at, root, settled, without}

-- the lemma that begins may get a literal more
abbrev pub HasRoom : Walk → Type 0
HasRoom walk =
    (length walk.denied < MAX_LEMMA_LITERALS) × (total walk.lemmas + length walk.denied < MAX_LITERALS)

-- where a line without an error leads: to another walk, or to None, the end of the proof
abbrev pub Moves : Rows → Walk → CertLine → Option Walk → Type 0
Moves picture walk Lemma next = (walk.behind ≡ []) × (next ≡ Some (begun walk))
Moves picture walk (Deny literal) next =
    (walk.stage ≡ Denying) × HasLiteral picture literal × HasRoom walk × (next ≡ Some (denied walk literal))
Moves picture walk (Forget n) next = (walk.behind ≡ []) × IsKept walk.lemmas n × (next ≡ Some (without walk n))
Moves picture walk line next =
    (facts : List Masks)
    × (Leads picture walk.lemmas walk.at_hand line facts × (next ≡ next_at walk (facts ++ walk.behind)))

-- the error of line n, if it has one
abbrev pub HasFault : Rows → Walk → CertLine → ℕ → CertFault → Type 0
HasFault picture walk (Line number) n fault = (HasLineNumber picture number → ⊥) × (fault ≡ Place n)
HasFault picture walk (Use lemma) n fault = (lemma_at walk.lemmas lemma ≡ None) × (fault ≡ NoLemma n)
HasFault picture walk (Split cell) n fault = (HasCellNumber picture cell → ⊥) × (fault ≡ Place n)
HasFault picture walk (Part literal) n fault = (HasCellNumber picture literal.cell → ⊥) × (fault ≡ Place n)
HasFault picture walk (Dead number) n fault =
    ((HasLineNumber picture number → ⊥) × (fault ≡ Place n))
    ⊎ (HasLineNumber picture number × (IsDead picture walk.at_hand (line_id number) → ⊥) × (fault ≡ NotDead n))
HasFault picture walk (Broken lemma) n fault =
    ((lemma_at walk.lemmas lemma ≡ None) × (fault ≡ NoLemma n))
    ⊎ ((literals : List Literal) × ((lemma_at walk.lemmas lemma ≡ Some literals)
    × (still_open walk.at_hand literals ≡ [] → ⊥) × (fault ≡ NotDead n)))
HasFault picture walk Done n fault = (ShowsOnly picture walk.at_hand → ⊥) × (fault ≡ NotDone n)
HasFault picture walk Lemma n fault = (walk.behind ≡ [] → ⊥) × (fault ≡ Misplaced n)
HasFault picture walk (Deny literal) n fault =
    ((walk.stage ≡ Denying → ⊥) × (fault ≡ Misplaced n))
    ⊎ (((walk.stage ≡ Denying) × (HasCellNumber picture literal.cell → ⊥) × (fault ≡ Place n))
    ⊎ ((walk.stage ≡ Denying) × HasCellNumber picture literal.cell × (HasRoom walk → ⊥) × (fault ≡ Full n)))
HasFault picture walk (Forget lemma) n fault =
    ((walk.behind ≡ [] → ⊥) × (fault ≡ Misplaced n))
    ⊎ ((walk.behind ≡ []) × (lemma_at walk.lemmas lemma ≡ None) × (fault ≡ NoLemma n))

-- the walk as a line finds it: any line but a `deny` ends the literals of the lemma that begins
abbrev pub found_by : Walk → CertLine → Walk
found_by walk (Deny literal) = walk
found_by walk line = settled walk

-- The first error of lines, of which the first is step i, from a walk on, or after the end of the proof (None). Each
-- step has its place, the number of its line in the text.
abbrev pub FirstFault : Rows → Option Walk → (ℕ → ℕ) → ℕ → List CertLine → Option CertFault → Type 0
FirstFault picture None place i [] fault = fault ≡ None
FirstFault picture (Some walk) place i [] fault = fault ≡ Some (Ended (place i))
FirstFault picture None place i (line ∷ lines) fault = fault ≡ Some (Trailing (place i))
FirstFault picture (Some walk) place i (line ∷ lines) fault =
    ((found : CertFault) × (HasFault picture (found_by walk line) line (place i) found × (fault ≡ Some found)))
    ⊎ ((next : Option Walk)
    × (Moves picture (found_by walk line) line next × FirstFault picture next place (i + 1) lines fault))

-- the error of the first given that lies outside the picture, where the first given is line n
abbrev pub GivenFault : Rows → ℕ → List CellNumber → CertFault → Type 0
GivenFault picture n [] fault = ⊥
GivenFault picture n (cell ∷ cells) fault =
    ((HasCellNumber picture cell → ⊥) × (fault ≡ Place n))
    ⊎ (HasCellNumber picture cell × GivenFault picture (n + 1) cells fault)

-- the first error of a certificate: the givens begin at line 2
abbrev pub CertFirstFault : Rows → Certificate → Option CertFault → Type 0
CertFirstFault picture cert fault =
    ((found : CertFault) × (GivenFault picture 2 cert.givens found × (fault ≡ Some found)))
    ⊎ (AllByRecursion (HasCellNumber picture) cert.givens
    × FirstFault picture (Some (root (base_of picture cert.givens))) (place_of cert.runs (2 + length cert.givens)) 0
    cert.lines fault)

-- What a checker answers that has its memory: the first error, and Ok where there is none.
abbrev pub Answers : (Option CertFault → Type 0) → Result (Unit {0}) CertFault → Type 0
Answers Is (Ok x) = Is None
Answers Is (Err e) = Is (Some e)

-- What a checker answers: out of memory, or the first error, and Ok where there is none.
abbrev pub AnswersFirst : (Option CertFault → Type 0) → Result (Unit {0}) CertFault → Type 0
AnswersFirst Is (Ok x) = Is None
AnswersFirst Is (Err e) = (e ≡ Memory) ⊎ Is (Some e)
