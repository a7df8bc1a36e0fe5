-- A proof with lemmas has no error.
use Rattle.std.proofs.Common.{◌≡◌, ◌⊎◌, ℕ, ◌+◌, List, [], ◌∷◌, ◌++◌, length, map, set, Option, None, Some, append_assoc, refl, sym, ap, subst, ◌∙◌, arith, inl, inr}
use Rattle.std.specs.List.{AllByRecursion}
use Rattle.std.proofs.lemmas.List.{append-nil, length-append}
use Rattle.line_facts.specs.Masks.{Masks}
use Rattle.picture.specs.Rows.{Rows}
use Rattle.cert_text.specs.declared.fault.CertFault.{CertFault}
use Rattle.cert_text.specs.declared.cert_line.Literal.{Literal}
use Rattle.cert_text.specs.declared.cert_line.CertLine.{CertLine}
use Rattle.cert_text.specs.declared.cert_line.CertLine.TheVariants.{Line, Use, Split, Dead, Broken, Done, Part, Lemma, Deny, Forget}
use Rattle.cert_text.specs.Cert.{Certificate, place_of}
use Rattle.cert_check.specs.declared.stage.Stage.{Stage}
use Rattle.cert_check.specs.declared.stage.Stage.TheVariants.{Denying}
use Rattle.cert_check.specs.Puzzle.{base_of, line_id}
use Rattle.cert_check.specs.Lemmas.{Fits, HasLiteral, IsKept, Lemmas, denied_all, held_off}
use Rattle.cert_check.specs.Steps.{Leads}
use Rattle.cert_check.specs.LemmaProof.{Branch, Branches, Trunk, leads, none, more, ends, goes, proved, dropped, branch_lines, branches_lines, trunk_lines, BranchProves, EachBranchProves}
use Rattle.cert_check.specs.LemmaProof.{TrunkProves, IsLemmaProof}
use Rattle.cert_check.specs.FirstFault.{CertFirstFault, FirstFault, HasFault, HasRoom, Moves, found_by}
use Rattle.cert_check.specs.Walk.{Walk, last_at, lasting, next_at, root, settled, taken, walk_of, without}
use Rattle.cert_check.proofs.GivenLemmas.{inside_no_fault}
use Rattle.cert_check.proofs.LemmaExactness.{AreLeft, AreRest, AreWalks, IsWalk, Left, last_free, next_walk, root_walk, trunk_left, untaken, walks, with_none}
use Rattle.cert_check.proofs.TreeExactness.{same_gains}

-- ---- a line that leads on has no error, and leads to the same facts always

module _ (picture : Rows) (walk : Walk) where
  not_both : (line : CertLine) (next : List Masks) (n : ℕ) (fault : CertFault) → Leads picture walk.lemmas walk.at_hand line next → HasFault picture (settled walk) line n fault → ⊥
  not_both (Line number) next n fault l h = h.0 l.0
  not_both (Use lemma) next n fault l h = let e = sym l.1.0 ∙ h.0 in cc
  not_both (Split cell) next n fault l h = h.0 l.0
  not_both (Dead number) next n fault l (inl h) = h.0 l.0
  not_both (Dead number) next n fault l (inr h) = h.1 l.1
  not_both (Broken lemma) next n fault l (inl h) = let e = sym l.1.0 ∙ h.0 in cc
  not_both (Broken lemma) next n fault l (inr h) =
      let e = sym l.1.0 ∙ h.1.0 in
      let same : l.0 ≡ h.0 = cc in
      h.1.1 (rw (← same) l.1.1)
  not_both Done next n fault l h = h.0 l.0
  not_both (Part literal) next n fault l h = h.0 l.0.0
  not_both Lemma next n fault l h = absurd l
  not_both (Deny literal) next n fault l h = absurd l
  not_both (Forget lemma) next n fault l h = absurd l

  same_next : (line : CertLine) (one other : List Masks) → Leads picture walk.lemmas walk.at_hand line one → Leads picture walk.lemmas walk.at_hand line other → one ≡ other
  same_next (Line number) one other l m =
      l.1.1.1 ∙ (ap (λ (facts : Masks). facts ∷ []) (same_gains picture walk.at_hand l.1.0 m.1.0 (line_id number) l.1.1.0 m.1.1.0) ∙ sym m.1.1.1)
  same_next (Use lemma) one other l m =
      let e = sym l.1.0 ∙ m.1.0 in
      let same : l.0 ≡ m.0 = cc in
      l.1.1 ∙ (rw same (sym m.1.1))
  same_next (Split cell) one other l m = l.1 ∙ sym m.1
  same_next (Dead number) one other l m = l.2 ∙ sym m.2
  same_next (Broken lemma) one other l m = l.1.2 ∙ sym m.1.2
  same_next Done one other l m = l.1 ∙ sym m.1
  same_next (Part literal) one other l m = l.1 ∙ sym m.1
  same_next Lemma one other l m = absurd l
  same_next (Deny literal) one other l m = absurd l
  same_next (Forget lemma) one other l m = absurd l

-- ---- the rest of a proof after a line

-- branches before the rest
join : (picture : Rows) (lemmas last : Lemmas) (front : List Masks) (facts : Masks) (others : List Masks) (branches : Branches) (rest : List CertLine) → EachBranchProves picture lemmas front branches
    → AreRest picture lemmas last (facts ∷ others) rest → AreRest picture lemmas last (front ++ facts ∷ others) (branches_lines branches ++ rest)
join picture lemmas last [] facts others none rest p r = r
join picture lemmas last [] facts others (more branch branches) rest p r = absurd p
join picture lemmas last (one ∷ front) facts others none rest p r = absurd p
join picture lemmas last (one ∷ []) facts others (more branch none) rest p r =
    (branch, (rest, (ap (λ (ls : List CertLine). ls ++ rest) (append-nil (branch_lines branch)), p.0, r)))
join picture lemmas last (one ∷ []) facts others (more branch (more other branches)) rest p r = absurd p.1
join picture lemmas last (one ∷ next ∷ front) facts others (more branch branches) rest p r =
    (branch, (branches_lines branches ++ rest, (append_assoc (branch_lines branch) (branches_lines branches) rest, p.0, join picture lemmas last (next ∷ front) facts others branches rest p.1 r)))

module _ (picture : Rows) (walk : Walk) (is : IsWalk walk) where
  -- where the rest proves the branches that wait, it proves what is at hand and waits
  rest_left : (waits : List Masks) (lines : List CertLine) → AreRest picture walk.lemmas (lasting walk.stage walk.lemmas walk.denied) waits lines → Left picture (next_at (settled walk) waits) lines
  rest_left [] lines r = r
  rest_left (facts ∷ []) lines r =
      let last = next_walk walk (facts ∷ []) is in
      with_none picture (last_at (settled walk) facts) lines last.fits (subst (λ (kept : Lemmas). AreRest picture walk.lemmas kept (facts ∷ []) lines) (sym
      (untaken walk.stage walk.lemmas walk.denied)) r)
  rest_left (facts ∷ other ∷ others) lines r =
      with_none picture (walk_of facts (other ∷ others) walk.lemmas walk.denied (taken walk.stage)) lines is.fits
      (subst (λ (kept : Lemmas). AreRest picture walk.lemmas kept (facts ∷ other ∷ others) lines) (sym (untaken walk.stage walk.lemmas walk.denied)) r)

  -- a line that is the next of a proof has no error, and leads to the rest of the proof
  record Stands (line : CertLine) (lines : List CertLine) : Type 0 where
    no_fault : (n : ℕ) (fault : CertFault) → HasFault picture (found_by walk line) line n fault → ⊥
    goes_to : (next : Option Walk) → Moves picture (found_by walk line) line next → Left picture next lines

  plain_goes : (line : CertLine) (lines : List CertLine) (facts : List Masks) → Leads picture walk.lemmas walk.at_hand line facts
      → AreRest picture walk.lemmas (lasting walk.stage walk.lemmas walk.denied) (facts ++ walk.behind) lines → (next : Option Walk) (other : List Masks)
      → Leads picture walk.lemmas walk.at_hand line other
      → next ≡ next_at (settled walk) (other ++ walk.behind) → Left picture next lines
  plain_goes line lines facts l r next other m e =
      let same = same_next picture walk line facts other l m in
      subst (λ (at : Option Walk). Left picture at lines) (sym e)
      (rest_left (other ++ walk.behind) lines (subst (λ (fs : List Masks). AreRest picture walk.lemmas (lasting walk.stage walk.lemmas walk.denied) (fs ++ walk.behind) lines) same r))

  plain_stands : (line : CertLine) (lines : List CertLine) (facts : List Masks) → Leads picture walk.lemmas walk.at_hand line facts
      → AreRest picture walk.lemmas (lasting walk.stage walk.lemmas walk.denied) (facts ++ walk.behind) lines → Stands line lines
  plain_stands (Line number) lines facts l r = record {
    no_fault = λ n f h. not_both picture walk (Line number) facts n f l h;
    goes_to = λ next m. plain_goes
        (Line number) lines facts l r next m.0 m.1.0 m.1.1;
  }
  plain_stands (Use lemma) lines facts l r = record {
    no_fault = λ n f h. not_both picture walk (Use lemma) facts n f l h;
    goes_to = λ next m. plain_goes
        (Use lemma) lines facts l r next m.0 m.1.0 m.1.1;
  }
  plain_stands (Split cell) lines facts l r = record {
    no_fault = λ n f h. not_both picture walk (Split cell) facts n f l h;
    goes_to = λ next m. plain_goes
        (Split cell) lines facts l r next m.0 m.1.0 m.1.1;
  }
  plain_stands (Dead number) lines facts l r = record {
    no_fault = λ n f h. not_both picture walk (Dead number) facts n f l h;
    goes_to = λ next m. plain_goes
        (Dead number) lines facts l r next m.0 m.1.0 m.1.1;
  }
  plain_stands (Broken lemma) lines facts l r = record {
    no_fault = λ n f h. not_both picture walk (Broken lemma) facts n f l h;
    goes_to = λ next m. plain_goes
        (Broken lemma) lines facts l r next m.0 m.1.0 m.1.1;
  }
  plain_stands Done lines facts l r = record { no_fault = λ n f h. not_both picture walk Done facts n f l h; goes_to = λ next m. plain_goes Done lines facts l r next m.0 m.1.0 m.1.1 }
  plain_stands (Part literal) lines facts l r = record {
    no_fault = λ n f h. not_both picture walk (Part literal) facts n f l h;
    goes_to = λ next m. plain_goes
        (Part literal) lines facts l r next m.0 m.1.0 m.1.1;
  }
  plain_stands Lemma lines facts l r = absurd l
  plain_stands (Deny literal) lines facts l r = absurd l
  plain_stands (Forget lemma) lines facts l r = absurd l

  -- the same for lines that an equation names
  told : (line x : CertLine) (lines xs : List CertLine) → line ∷ lines ≡ x ∷ xs → Stands x xs → Stands line lines
  told line x lines xs e s =
      let a : x ≡ line = cc in
      let b : xs ≡ lines = cc in
      rw (← a, ← b) s

  branch_stands : (branch : Branch) (rest : List CertLine) (other : Masks) (others : List Masks) (line : CertLine) (lines : List CertLine) → walk.behind ≡ other ∷ others
      → line ∷ lines ≡ branch_lines branch ++ rest → BranchProves picture walk.lemmas walk.at_hand branch
      → AreRest picture walk.lemmas (lasting walk.stage walk.lemmas walk.denied) (other ∷ others) rest → Stands line lines
  branch_stands (leads first branches) rest other others line lines b e p r =
      told line first lines (branches_lines branches ++ rest) e
      (plain_stands first (branches_lines branches ++ rest) p.0 p.1.0
      (subst (λ (behind : List (List (List ℕ))). AreRest picture walk.lemmas (lasting walk.stage walk.lemmas walk.denied) (p.0 ++ behind) (branches_lines branches ++ rest)) (sym b)
      (join picture walk.lemmas (lasting walk.stage walk.lemmas walk.denied) p.0 other others branches rest p.1.1 r)))

  -- the facts that a line of the trunk leads to
  trunk_rest : (facts : List Masks) (lines : List CertLine) → walk.behind ≡ [] → AreRest picture walk.lemmas walk.lemmas facts lines
      → AreRest picture walk.lemmas (lasting walk.stage walk.lemmas walk.denied) (facts ++ walk.behind) lines
  trunk_rest facts lines b r =
      subst (λ (kept : Lemmas). AreRest picture walk.lemmas kept (facts ++ walk.behind) lines) (sym (last_free picture walk is b))
      (subst (λ (fs : List Masks). AreRest picture walk.lemmas walk.lemmas fs lines) (sym (append-nil facts) ∙ ap (λ (behind : List (List (List ℕ))). facts ++ behind) (sym b)) r)

  lemma_stands : (literals : List Literal) (branch : Branch) (trunk : Trunk) → walk.behind ≡ [] → AllByRecursion (HasLiteral picture) literals → Fits walk.lemmas literals
      → BranchProves picture walk.lemmas (denied_all walk.at_hand literals) branch → TrunkProves picture (walk.lemmas ++ Some literals ∷ []) walk.at_hand trunk
      → Stands Lemma (map Deny literals ++ (branch_lines branch ++ trunk_lines trunk))
  lemma_stands literals branch trunk b has fits p t = record {
    no_fault = λ n f h. h.0 b;
    goes_to = λ next m. subst (λ (at : Option Walk). Left picture at (map Deny literals ++ (branch_lines branch ++ trunk_lines trunk))) (sym m.1) (record {
      literals = literals;
      rest = branch_lines branch ++ trunk_lines trunk;
      lines_are = refl;
      only_denying = inr refl;
      inside = has;
      fits = fits;
      proves = (branch, (trunk_lines trunk, (refl, p, (trunk, (refl, t)))));
    });
  }

  dropped_stands : (n : ℕ) (trunk : Trunk) → walk.behind ≡ [] → IsKept walk.lemmas n → TrunkProves picture (set walk.lemmas n None) walk.at_hand trunk → Stands (Forget n) (trunk_lines trunk)
  dropped_stands n trunk b kept t = record {
    no_fault = λ m f h. elim h [ inl g ↦ g.0 b | inr g ↦ let e = sym kept.1 ∙ g.1 in cc ];
    goes_to = λ next m. subst (λ (at : Option Walk). Left picture at (trunk_lines trunk)) (sym m.2)
        (let after = walks picture walk (Forget n) (Some (without (settled walk) n)) is (b, kept, refl) in
        with_none picture (without (settled walk) n) (trunk_lines trunk) after.fits (trunk, (refl, t)));
  }

  trunk_stands : (trunk : Trunk) (line : CertLine) (lines : List CertLine) → walk.behind ≡ [] → line ∷ lines ≡ trunk_lines trunk → TrunkProves picture walk.lemmas walk.at_hand trunk
      → Stands line lines
  trunk_stands (ends first) line lines b e p = told line first lines [] e (plain_stands first [] [] p (trunk_rest [] [] b refl))
  trunk_stands (goes first branches trunk) line lines b e p =
      told line first lines (branches_lines branches ++ trunk_lines trunk) e
      (plain_stands first (branches_lines branches ++ trunk_lines trunk) (p.0 ++ p.1.0 ∷ []) p.1.1.0
      (trunk_rest (p.0 ++ p.1.0 ∷ []) (branches_lines branches ++ trunk_lines trunk) b
      (join picture walk.lemmas walk.lemmas p.0 p.1.0 [] branches (trunk_lines trunk) p.1.1.1 (trunk, (refl, p.1.1.2)))))
  trunk_stands (proved literals branch trunk) line lines b e p =
      told line Lemma lines (map Deny literals ++ (branch_lines branch ++ trunk_lines trunk)) e (lemma_stands literals branch trunk b p.0 p.1 p.2 p.3)
  trunk_stands (dropped n trunk) line lines b e p = told line (Forget n) lines (trunk_lines trunk) e (dropped_stands n trunk b p.0 p.1)

  rest_stands : (behind : List Masks) (line : CertLine) (lines : List CertLine) → walk.behind ≡ behind
      → AreRest picture walk.lemmas (lasting walk.stage walk.lemmas walk.denied) (walk.at_hand ∷ behind) (line ∷ lines) → Stands line lines
  rest_stands [] line lines b r =
      trunk_stands r.0 line lines b r.1.0 (subst (λ (kept : Lemmas). TrunkProves picture kept walk.at_hand r.0) (last_free picture walk is b) r.1.1)
  rest_stands (other ∷ others) line lines b r = branch_stands r.0 r.1.0 other others line lines b r.1.1.0 r.1.1.1 r.1.1.2

  -- a literal more is denied
  has_room : (literal : Literal) (literals : List Literal) → Fits walk.lemmas (walk.denied ++ literal ∷ literals) → HasRoom walk
  has_room literal literals f =
      let n = length-append walk.denied (literal ∷ literals) in
      ((let a = f.0 in omega arith), (let b = f.1 in omega arith))

  denied_stands : (literal : Literal) (literals : List Literal) (rest : List CertLine) → walk.stage ≡ Denying → HasLiteral picture literal → AllByRecursion (HasLiteral picture) literals
      → Fits walk.lemmas (walk.denied ++ literal ∷ literals)
      → AreRest picture walk.lemmas (lasting walk.stage walk.lemmas (walk.denied ++ literal ∷ literals)) (denied_all walk.at_hand (literal ∷ literals) ∷ walk.behind) rest
      → Stands (Deny literal) (map Deny literals ++ rest)
  denied_stands literal literals rest s has others fits r =
      let same : (walk.denied ++ literal ∷ []) ++ literals ≡ walk.denied ++ literal ∷ literals = append_assoc walk.denied (literal ∷ []) literals in
      record {
        no_fault = λ n f h. elim h [ inl g ↦ g.0 s | inr (inl g) ↦ g.1 has.0 | inr (inr g) ↦ g.2 (has_room literal literals fits) ];
        goes_to = λ next m. subst (λ (at : Option Walk). Left picture at (map Deny literals ++ rest)) (sym m.3) (record {
          literals = literals;
          rest = rest;
          lines_are = refl;
          only_denying = inr refl;
          inside = others;
          fits = subst (Fits walk.lemmas) (sym same) fits;
          proves = subst (λ (ds : List Literal). AreRest picture walk.lemmas (walk.lemmas ++ Some ds ∷ []) (denied_all (held_off walk.at_hand literal) literals ∷ walk.behind) rest) (sym same)
              (subst (λ (stage : Stage). AreRest picture walk.lemmas (lasting stage walk.lemmas (walk.denied ++ literal ∷ literals)) (denied_all
              (held_off walk.at_hand literal) literals ∷ walk.behind) rest) s r);
        });
      }

  stands : (line : CertLine) (lines : List CertLine) → AreLeft picture walk (line ∷ lines) → Stands line lines
  stands line lines left = go left.literals left.rest left.lines_are left.only_denying left.inside left.fits left.proves
    where
      go : (literals : List Literal) (rest : List CertLine) → line ∷ lines ≡ map Deny literals ++ rest → (literals ≡ []) ⊎ (walk.stage ≡ Denying) → AllByRecursion (HasLiteral picture) literals
          → Fits walk.lemmas (walk.denied ++ literals)
          → AreRest picture walk.lemmas (lasting walk.stage walk.lemmas (walk.denied ++ literals)) (denied_all walk.at_hand literals ∷ walk.behind) rest → Stands line lines
      go [] rest e d has fits r =
          rest_stands walk.behind line lines refl
          (subst (λ (ls : List CertLine). AreRest picture walk.lemmas (lasting walk.stage walk.lemmas walk.denied) (walk.at_hand ∷ walk.behind) ls) (sym e)
          (subst (λ (ds : List Literal). AreRest picture walk.lemmas (lasting walk.stage walk.lemmas ds) (walk.at_hand ∷ walk.behind) rest) (append-nil walk.denied) r))
      go (literal ∷ literals) rest e (inl d) has fits r = cc
      go (literal ∷ literals) rest e (inr d) has fits r = told line (Deny literal) lines (map Deny literals ++ rest) e (denied_stands literal literals rest d has.0 has.1 fits r)

-- ---- a proof has a line

branch_has : (branch : Branch) (rest : List CertLine) → [] ≡ branch_lines branch ++ rest → ⊥
branch_has (leads line branches) rest e = cc

trunk_has : (trunk : Trunk) → [] ≡ trunk_lines trunk → ⊥
trunk_has (ends line) e = cc
trunk_has (goes line branches trunk) e = cc
trunk_has (proved literals branch trunk) e = cc
trunk_has (dropped n trunk) e = cc

rest_has : (picture : Rows) (lemmas last : Lemmas) (facts : Masks) (behind : List Masks) → AreRest picture lemmas last (facts ∷ behind) [] → ⊥
rest_has picture lemmas last facts [] r = trunk_has r.0 r.1.0
rest_has picture lemmas last facts (other ∷ others) r = branch_has r.0 r.1.0 r.1.1.0

left_has : (picture : Rows) (walk : Walk) → AreLeft picture walk [] → ⊥
left_has picture walk left = go left.literals left.rest left.lines_are left.proves
  where
    go : (literals : List Literal) (rest : List CertLine) → [] ≡ map Deny literals ++ rest
        → AreRest picture walk.lemmas (lasting walk.stage walk.lemmas (walk.denied ++ literals)) (denied_all walk.at_hand literals ∷ walk.behind) rest → ⊥
    go [] rest e r =
        rest_has picture walk.lemmas (lasting walk.stage walk.lemmas (walk.denied ++ [])) walk.at_hand walk.behind
        (subst (λ (ls : List CertLine). AreRest picture walk.lemmas (lasting walk.stage walk.lemmas (walk.denied ++ [])) (walk.at_hand ∷ walk.behind) ls) (sym e) r)
    go (literal ∷ literals) rest e r = cc

-- ---- all lines

left_no_fault : (picture : Rows) (place : ℕ → ℕ) (lines : List CertLine) (at : Option Walk) (i : ℕ) (fault : Option CertFault) → AreWalks at → Left picture at lines
    → FirstFault picture at place i lines fault → fault ≡ None
left_no_fault picture place [] None i fault is left f = f
left_no_fault picture place [] (Some walk) i fault is left f = absurd (left_has picture walk left)
left_no_fault picture place (line ∷ lines) None i fault is left f = cc
left_no_fault picture place (line ∷ lines) (Some walk) i fault is left (inl h) = absurd ((stands picture walk is line lines left).no_fault (place i) h.0 h.1.0)
left_no_fault picture place (line ∷ lines) (Some walk) i fault is left (inr s) =
    left_no_fault picture place lines s.0 (i + 1) fault (walks picture walk line s.0 is s.1.0) ((stands picture walk is line lines left).goes_to s.0 s.1.0) s.1.1

pub proof_is_none : (picture : Rows) (cert : Certificate) → IsLemmaProof picture cert → (fault : Option CertFault) → CertFirstFault picture cert fault → fault ≡ None
proof_is_none picture cert p fault (inl h) = absurd (inside_no_fault picture cert.givens 2 h.0 p.inside h.1.0)
proof_is_none picture cert p fault (inr f) =
    let facts = base_of picture cert.givens in
    left_no_fault picture (place_of cert.runs (2 + length cert.givens)) cert.lines (Some (root facts)) 0 fault (root_walk facts)
    (trunk_left picture (root facts) cert.lines p.trunk (root_walk facts) refl p.lines p.proves) f.1
