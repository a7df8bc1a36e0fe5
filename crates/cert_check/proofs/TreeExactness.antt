-- Lines of a tree have no error exactly where they are a tree that proves the picture.
use Rattle.std.proofs.Common.{◌≡◌, ℕ, ◌+◌, List, [], ◌∷◌, ◌++◌, Option, None, Some, append_assoc, get_or, length, refl, sym, ap, subst, ◌∙◌, inl, inr}
use Rattle.std.specs.List.{AllByRecursion}
use Rattle.std.proofs.lemmas.List.{append-nil, ext_get_or}
use Rattle.line_facts.specs.Masks.{Masks}
use Rattle.picture.proofs.BitLaws.{same_bits}
use Rattle.picture.specs.Rows.{cell_at, line_of, row_at, Rows}
use Rattle.picture.specs.declared.line_id.LineId.{LineId}
use Rattle.line_facts.proofs.ForceLaws.{on_or_not}
use Rattle.cert_text.specs.declared.fault.CertFault.{CertFault}
use Rattle.cert_text.specs.declared.fault.CertFault.TheVariants.{Ended, Trailing}
use Rattle.cert_text.specs.declared.cert_line.LineNumber.{LineNumber}
use Rattle.cert_text.specs.declared.cert_line.CellNumber.{CellNumber}
use Rattle.cert_text.specs.declared.cert_line.CertLine.{CertLine}
use Rattle.cert_text.specs.declared.cert_line.CertLine.TheVariants.{Line, Use, Split, Dead, Broken, Done, Part, Lemma, Deny, Forget}
use Rattle.cert_text.specs.Cert.{Certificate, IsOfTree, place_of}
use Rattle.cert_check.specs.Puzzle.{HasCellNumber, HasLineNumber, IsDead, IsForced, ShowsOnly, base_of, line_id, split_at}
use Rattle.cert_check.specs.Tree.{Tree, Trees, done, dead, forced, split, none, more, written, each_written, Proves, EachProves, IsProof}
use Rattle.cert_check.specs.declared.stage.Stage.TheVariants.{Free}
use Rattle.cert_check.specs.FirstFault.{CertFirstFault, FirstFault}
use Rattle.cert_check.specs.Lemmas.{no_lemmas}
use Rattle.cert_check.specs.Moving.{moved_to}
use Rattle.cert_check.specs.Walk.{Walk, next_at, walk_of}
use Rattle.cert_check.proofs.GivenLemmas.{inside_no_fault}
use Rattle.cert_check.proofs.WalkLemmas.{moves}
use Rattle.cert_check.specs.TreeFault.{HasTreeFault, TreeFault, TreeLeads}
use Rattle.cert_check.proofs.Soundness.{at_place}

-- ---- what a line forces is one set of facts

pub same_gains : (picture : Rows) (facts : Masks) (one : List (List ℕ)) (other : Rows) (line : LineId) → IsForced picture facts line one → IsForced picture facts line other → one ≡ other
same_gains picture facts one other line f h =
    ext_get_or [] one other (sym f.same_shape.rows ∙ h.same_shape.rows)
    (λ row _. ext_get_or 0 (row_at one row) (row_at other row) (sym (f.same_shape.each row) ∙ h.same_shape.each row) (λ col _. each_cell row col))
  where
    each_cell : (row col : ℕ) → cell_at one row col ≡ cell_at other row col
    each_cell row col = elim (on_or_not line row col) [
      | inl on ↦
          at_place one line row col on
          ∙ (same_bits (get_or (line_of one line) on.0 0) (get_or (line_of other line) on.0 0)
          (λ k. ((λ s. (h.exact on.0 k).1 ((f.exact on.0 k).0 s)), (λ s. (f.exact on.0 k).1 ((h.exact on.0 k).0 s))))
          ∙ sym (at_place other line row col on))
      | inr off ↦ f.elsewhere row col off ∙ sym (h.elsewhere row col off)
    ]

-- ---- trees one after the other

record Forest (picture : Rows) (waits : List Masks) (lines : List CertLine) : Type 0 where
  trees : Trees
  written_is : lines ≡ each_written trees
  proves : EachProves picture waits trees

record Cut (picture : Rows) (front back : List (List (List ℕ))) (trees : Trees) : Type 0 where
  first : Trees
  rest : Trees
  written_is : each_written trees ≡ each_written first ++ each_written rest
  proves_first : EachProves picture front first
  proves_rest : EachProves picture back rest

cut : (picture : Rows) (front back : List (List (List ℕ))) (trees : Trees) → EachProves picture (front ++ back) trees → Cut picture front back trees
cut picture [] back trees p = record { first = none; rest = trees; written_is = refl; proves_first = tt; proves_rest = p }
cut picture (facts ∷ front) back none p = absurd p
cut picture (facts ∷ front) back (more tree trees) p =
    let c = cut picture front back trees p.1 in
    record {
      first = more tree c.first;
      rest = c.rest;
      written_is = ap (λ (ls : List CertLine). written tree ++ ls) c.written_is ∙ sym (append_assoc (written tree) (each_written c.first) (each_written c.rest));
      proves_first = (p.0, c.proves_first);
      proves_rest = c.proves_rest;
    }

line_led : (picture : Rows) (facts : Masks) (others : List Masks) (gained : Masks) (number : LineNumber) (lines : List CertLine) → HasLineNumber picture number
    → IsForced picture facts (line_id number) gained → (trees : Trees) → lines ≡ each_written trees → EachProves picture (gained ∷ others) trees → Forest picture (facts ∷ others) (Line number ∷ lines)
line_led picture facts others gained number lines h f none e p = absurd p
line_led picture facts others gained number lines h f (more tree trees) e p =
    record { trees = more (forced number tree) trees; written_is = ap (λ (ls : List CertLine). Line number ∷ ls) e; proves = ((h, (gained, (f, p.0))), p.1) }

-- from the lines to the trees
led_to : (picture : Rows) (facts : Masks) (others next : List Masks) (line : CertLine) (lines : List CertLine) → TreeLeads picture facts line next → Forest picture (next ++ others) lines
    → Forest picture (facts ∷ others) (line ∷ lines)
led_to picture facts others next Done lines l f =
    let g = rw l.1 at f in
    record { trees = more done g.trees; written_is = ap (λ (ls : List CertLine). Done ∷ ls) g.written_is; proves = (l.0, g.proves) }
led_to picture facts others next (Dead number) lines l f =
    let g = rw l.2 at f in
    record { trees = more (dead number) g.trees; written_is = ap (λ (ls : List CertLine). Dead number ∷ ls) g.written_is; proves = ((l.0, l.1), g.proves) }
led_to picture facts others next (Line number) lines l f =
    let g = rw l.1.1.1 at f in
    line_led picture facts others l.1.0 number lines l.0 l.1.1.0 g.trees g.written_is g.proves
led_to picture facts others next (Split cell) lines l f =
    let g = rw l.1 at f in
    let c = cut picture (split_at facts cell) others g.trees g.proves in
    record {
      trees = more (split cell c.first) c.rest;
      written_is = ap (λ (ls : List CertLine). Split cell ∷ ls) (g.written_is ∙ c.written_is);
      proves = ((l.0, c.proves_first), c.proves_rest);
    }
led_to picture facts others next (Use lemma) lines l f = absurd l
led_to picture facts others next (Broken lemma) lines l f = absurd l
led_to picture facts others next (Part literal) lines l f = absurd l
led_to picture facts others next Lemma lines l f = absurd l
led_to picture facts others next (Deny literal) lines l f = absurd l
led_to picture facts others next (Forget lemma) lines l f = absurd l

no_fault_trees : (picture : Rows) (lines : List CertLine) (waits : List Masks) (n : ℕ) → TreeFault picture waits n lines None → Forest picture waits lines
no_fault_trees picture [] [] n f = record { trees = none; written_is = refl; proves = tt }
no_fault_trees picture [] (facts ∷ others) n f = cc
no_fault_trees picture (line ∷ lines) [] n f = cc
no_fault_trees picture (line ∷ lines) (facts ∷ others) n (inl h) = let e = h.1.1 in cc
no_fault_trees picture (line ∷ lines) (facts ∷ others) n (inr s) = led_to picture facts others s.0 line lines s.1.0 (no_fault_trees picture lines (s.0 ++ others) (n + 1) s.1.1)

-- ---- from the trees to the lines

join : Trees → Trees → Trees
join none back = back
join (more tree trees) back = more tree (join trees back)

joined_written : (front back : Trees) → each_written (join front back) ≡ each_written front ++ each_written back
unfolding join
joined_written none back = refl
joined_written (more tree trees) back = ap (λ (ls : List CertLine). written tree ++ ls) (joined_written trees back) ∙ sym (append_assoc (written tree) (each_written trees) (each_written back))

joined_proves : (picture : Rows) (waits others : List Masks) (front back : Trees) → EachProves picture waits front → EachProves picture others back
    → EachProves picture (waits ++ others) (join front back)
unfolding join
joined_proves picture [] others none back p q = q
joined_proves picture [] others (more tree trees) back p q = absurd p
joined_proves picture (facts ∷ waits) others none back p q = absurd p
joined_proves picture (facts ∷ waits) others (more tree trees) back p q = (p.0, joined_proves picture waits others trees back p.1 q)

-- a line that is the next of a tree has no error, and leads to the rest of the tree
record Stands (picture : Rows) (facts : Masks) (others : List Masks) (line : CertLine) (lines : List CertLine) : Type 0 where
  no_fault : (n : ℕ) (found : CertFault) → HasTreeFault picture facts line n found → ⊥
  goes : (next : List Masks) → TreeLeads picture facts line next → Forest picture (next ++ others) lines

done_stands : (picture : Rows) (facts : Masks) (others : List Masks) (trees : Trees) → ShowsOnly picture facts → EachProves picture others trees → Stands picture facts others Done (each_written trees)
done_stands picture facts others trees p q = record {
  no_fault = λ n found h. h.0 p;
  goes = λ next l. rw l.1 (record { trees = trees; written_is = refl; proves = q });
}

dead_stands : (picture : Rows) (facts : Masks) (others : List Masks) (number : LineNumber) (trees : Trees) → HasLineNumber picture number → IsDead picture facts (line_id number)
    → EachProves picture others trees → Stands picture facts others (Dead number) (each_written trees)
dead_stands picture facts others number trees has p q = record {
  no_fault = λ n found h. elim h [ inl g ↦ g.0 has | inr g ↦ g.1 p ];
  goes = λ next l. rw l.2 (record { trees = trees; written_is = refl; proves = q });
}

forced_stands : (picture : Rows) (facts gained : Masks) (others : List Masks) (number : LineNumber) (tree : Tree) (trees : Trees) → HasLineNumber picture number
    → IsForced picture facts (line_id number) gained → Proves picture gained tree → EachProves picture others trees → Stands picture facts others (Line number) (written tree ++ each_written trees)
forced_stands picture facts gained others number tree trees has f p q = record {
  no_fault = λ n found h. h.0 has;
  goes = λ next l.
      rw (l.1.1.1, ← same_gains picture facts gained l.1.0 (line_id number) f l.1.1.0) (record { trees = more tree trees; written_is = refl; proves = (p, q) });
}

split_stands : (picture : Rows) (facts : Masks) (others : List Masks) (cell : CellNumber) (branches trees : Trees) → HasCellNumber picture cell → EachProves picture (split_at facts cell) branches
    → EachProves picture others trees → Stands picture facts others (Split cell) (each_written branches ++ each_written trees)
split_stands picture facts others cell branches trees has p q = record {
  no_fault = λ n found h. h.0 has;
  goes = λ next l.
      rw l.1 (record { trees = join branches trees; written_is = sym (joined_written branches trees); proves = joined_proves picture (split_at facts cell) others branches trees p q });
}

-- the same for lines that an equation names
told : (picture : Rows) (facts : Masks) (others : List Masks) (line x : CertLine) (lines xs : List CertLine) → line ∷ lines ≡ x ∷ xs → Stands picture facts others x xs
    → Stands picture facts others line lines
told picture facts others line x lines xs e s =
    let a : x ≡ line = cc in
    let b : xs ≡ lines = cc in
    rw (← a, ← b) s

stands : (picture : Rows) (facts : Masks) (others : List Masks) (tree : Tree) (trees : Trees) (line : CertLine) (lines : List CertLine) → line ∷ lines ≡ written tree ++ each_written trees
    → Proves picture facts tree → EachProves picture others trees → Stands picture facts others line lines
stands picture facts others done trees line lines e p q = told picture facts others line Done lines (each_written trees) e (done_stands picture facts others trees p q)
stands picture facts others (dead number) trees line lines e p q = told picture facts others line (Dead number) lines (each_written trees) e (dead_stands picture facts others number trees p.0 p.1 q)
stands picture facts others (forced number tree) trees line lines e p q =
    told picture facts others line (Line number) lines (written tree ++ each_written trees) e (forced_stands picture facts p.1.0 others number tree trees p.0 p.1.1.0 p.1.1.1 q)
stands picture facts others (split cell branches) trees line lines e p q =
    told picture facts others line (Split cell) lines (each_written branches ++ each_written trees) e (split_stands picture facts others cell branches trees p.0 p.1 q)

-- a tree has a line
not_empty : (tree : Tree) (lines : List CertLine) → [] ≡ written tree ++ lines → ⊥
not_empty done lines e = cc
not_empty (dead number) lines e = cc
not_empty (forced number tree) lines e = cc
not_empty (split cell trees) lines e = cc

trees_no_fault : (picture : Rows) (lines : List CertLine) (waits : List Masks) (trees : Trees) → lines ≡ each_written trees → EachProves picture waits trees → (n : ℕ) (fault : Option CertFault)
    → TreeFault picture waits n lines fault → fault ≡ None
trees_no_fault picture [] [] trees e p n fault f = f
trees_no_fault picture [] (facts ∷ others) none e p n fault f = absurd p
trees_no_fault picture [] (facts ∷ others) (more tree trees) e p n fault f = absurd (not_empty tree (each_written trees) e)
trees_no_fault picture (line ∷ lines) [] none e p n fault f = cc
trees_no_fault picture (line ∷ lines) [] (more tree trees) e p n fault f = absurd p
trees_no_fault picture (line ∷ lines) (facts ∷ others) none e p n fault f = absurd p
trees_no_fault picture (line ∷ lines) (facts ∷ others) (more tree trees) e p n fault (inl h) = absurd ((stands picture facts others tree trees line lines e p.0 p.1).no_fault n h.0 h.1.0)
trees_no_fault picture (line ∷ lines) (facts ∷ others) (more tree trees) e p n fault (inr s) =
    let g = (stands picture facts others tree trees line lines e p.0 p.1).goes s.0 s.1.0 in
    trees_no_fault picture lines (s.0 ++ others) g.trees g.written_is g.proves (n + 1) fault s.1.1

-- ---- certificates

one_tree : (picture : Rows) (facts : Masks) (lines : List CertLine) (trees : Trees) → lines ≡ each_written trees → EachProves picture (facts ∷ []) trees
    → (tree : Tree) × (lines ≡ written tree) × Proves picture facts tree
one_tree picture facts lines none e p = absurd p
one_tree picture facts lines (more tree none) e p = (tree, e ∙ append-nil (written tree), p.0)
one_tree picture facts lines (more tree (more other trees)) e p = absurd p.1

-- ---- the walk over the lines of a tree

-- a line that a tree can have
abbrev pub IsTreeLine : CertLine → Type 0
IsTreeLine (Line number) = Unit {0}
IsTreeLine (Split cell) = Unit {0}
IsTreeLine (Dead number) = Unit {0}
IsTreeLine Done = Unit {0}
IsTreeLine _ = ⊥

-- where no lemma is proved
abbrev pub tree_walk : List (List (List ℕ)) → Option Walk
tree_walk [] = None
tree_walk (facts ∷ others) = Some (walk_of facts others no_lemmas [] Free)

-- the first error of a walk, and that of the branches that wait, are both none or both some
record SameFault (picture : Rows) (waits : List Masks) (n : ℕ) (lines : List CertLine) (fault : Option CertFault) : Type 0 where
  other : Option CertFault
  first : TreeFault picture waits n lines other
  none_here : other ≡ None → fault ≡ None
  none_there : fault ≡ None → other ≡ None

tree_next : (facts : Masks) (others waits : List Masks) → next_at (walk_of facts others no_lemmas [] Free) waits ≡ tree_walk waits
tree_next facts others [] = refl
tree_next facts others (next ∷ []) = refl
tree_next facts others (next ∷ other ∷ behind) = refl

tree_refused : (picture : Rows) (facts : Masks) (others : List Masks) (line : CertLine) (n : ℕ) (lines : List CertLine) (found there : CertFault) (fault : Option CertFault)
    → HasTreeFault picture facts line n found
    → fault ≡ Some there → SameFault picture (facts ∷ others) n (line ∷ lines) fault
tree_refused picture facts others line n lines found there fault h e = record {
  other = Some found;
  first = inl (found, (h, refl));
  none_here = λ z. cc;
  none_there = λ z. let y = sym e ∙ z in cc;
}

tree_led : (picture : Rows) (facts : Masks) (others : List Masks) (line : CertLine) (n : ℕ) (lines : List CertLine) (next : List Masks) (fault : Option CertFault) → TreeLeads picture facts line next
    → SameFault picture (next ++ others) (n + 1) lines fault → SameFault picture (facts ∷ others) n (line ∷ lines) fault
tree_led picture facts others line n lines next fault l s = record {
  other = s.other;
  first = inr (next, (l, s.first));
  none_here = s.none_here;
  none_there = s.none_there;
}

module _ (picture : Rows) (place : ℕ → ℕ) where
  -- the walk after a line is that of the branches that wait then
  tree_on : (facts : Masks) (others waits : List Masks) (at : Option Walk) (i : ℕ) (lines : List CertLine) (fault : Option CertFault) → at ≡ next_at (walk_of facts others no_lemmas [] Free) waits
      → FirstFault picture at place i lines fault → FirstFault picture (tree_walk waits) place i lines fault
  tree_on facts others waits at i lines fault e f = subst (λ (x : Option Walk). FirstFault picture x place i lines fault) (e ∙ tree_next facts others waits) f

  tree_same : (lines : List CertLine) (waits : List Masks) (n i : ℕ) (fault : Option CertFault) → AllByRecursion IsTreeLine lines → FirstFault picture (tree_walk waits) place i lines fault
      → SameFault picture waits n lines fault
  tree_same [] [] n i fault t f = record { other = None; first = refl; none_here = λ z. f; none_there = λ z. refl }
  tree_same [] (facts ∷ others) n i fault t f = record { other = Some (Ended n); first = refl; none_here = λ z. cc; none_there = λ z. let y = sym f ∙ z in cc }
  tree_same (line ∷ lines) [] n i fault t f = record { other = Some (Trailing n); first = refl; none_here = λ z. cc; none_there = λ z. let y = sym f ∙ z in cc }
  tree_same (Line number ∷ lines) (facts ∷ others) n i fault t (inl h) =
      tree_refused picture facts others (Line number) n lines (moved_to h.0 n) h.0 fault (moves picture (walk_of facts others no_lemmas [] Free) (Line number) (place i) n h.0 h.1.0) h.1.1
  tree_same (Line number ∷ lines) (facts ∷ others) n i fault t (inr s) =
      tree_led picture facts others (Line number) n lines s.1.0.0 fault s.1.0.1.0
      (tree_same lines (s.1.0.0 ++ others) (n + 1) (i + 1) fault t.1 (tree_on facts others (s.1.0.0 ++ others) s.0 (i + 1) lines fault s.1.0.1.1 s.1.1))
  tree_same (Split cell ∷ lines) (facts ∷ others) n i fault t (inl h) =
      tree_refused picture facts others (Split cell) n lines (moved_to h.0 n) h.0 fault (moves picture (walk_of facts others no_lemmas [] Free) (Split cell) (place i) n h.0 h.1.0) h.1.1
  tree_same (Split cell ∷ lines) (facts ∷ others) n i fault t (inr s) =
      tree_led picture facts others (Split cell) n lines s.1.0.0 fault s.1.0.1.0
      (tree_same lines (s.1.0.0 ++ others) (n + 1) (i + 1) fault t.1 (tree_on facts others (s.1.0.0 ++ others) s.0 (i + 1) lines fault s.1.0.1.1 s.1.1))
  tree_same (Dead number ∷ lines) (facts ∷ others) n i fault t (inl h) =
      tree_refused picture facts others (Dead number) n lines (moved_to h.0 n) h.0 fault (moves picture (walk_of facts others no_lemmas [] Free) (Dead number) (place i) n h.0 h.1.0) h.1.1
  tree_same (Dead number ∷ lines) (facts ∷ others) n i fault t (inr s) =
      tree_led picture facts others (Dead number) n lines s.1.0.0 fault s.1.0.1.0
      (tree_same lines (s.1.0.0 ++ others) (n + 1) (i + 1) fault t.1 (tree_on facts others (s.1.0.0 ++ others) s.0 (i + 1) lines fault s.1.0.1.1 s.1.1))
  tree_same (Done ∷ lines) (facts ∷ others) n i fault t (inl h) =
      tree_refused picture facts others Done n lines (moved_to h.0 n) h.0 fault (moves picture (walk_of facts others no_lemmas [] Free) Done (place i) n h.0 h.1.0) h.1.1
  tree_same (Done ∷ lines) (facts ∷ others) n i fault t (inr s) =
      tree_led picture facts others Done n lines s.1.0.0 fault s.1.0.1.0
      (tree_same lines (s.1.0.0 ++ others) (n + 1) (i + 1) fault t.1 (tree_on facts others (s.1.0.0 ++ others) s.0 (i + 1) lines fault s.1.0.1.1 s.1.1))
  tree_same (Use lemma ∷ lines) (facts ∷ others) n i fault t f = absurd t.0
  tree_same (Broken lemma ∷ lines) (facts ∷ others) n i fault t f = absurd t.0
  tree_same (Part literal ∷ lines) (facts ∷ others) n i fault t f = absurd t.0
  tree_same (Lemma ∷ lines) (facts ∷ others) n i fault t f = absurd t.0
  tree_same (Deny literal ∷ lines) (facts ∷ others) n i fault t f = absurd t.0
  tree_same (Forget lemma ∷ lines) (facts ∷ others) n i fault t f = absurd t.0

-- ---- the lines of a tree

mutual
  written_lines : (tree : Tree) (rest : List CertLine) → AllByRecursion IsTreeLine rest → AllByRecursion IsTreeLine (written tree ++ rest)
  written_lines done rest all = (tt, all)
  written_lines (dead number) rest all = (tt, all)
  written_lines (forced number tree) rest all = (tt, written_lines tree rest all)
  written_lines (split cell trees) rest all = (tt, each_lines trees rest all)

  each_lines : (trees : Trees) (rest : List CertLine) → AllByRecursion IsTreeLine rest → AllByRecursion IsTreeLine (each_written trees ++ rest)
  each_lines none rest all = all
  each_lines (more tree trees) rest all =
      subst (λ (ls : List CertLine). AllByRecursion IsTreeLine ls) (sym (append_assoc (written tree) (each_written trees) rest)) (written_lines tree (each_written trees ++ rest)
      (each_lines trees rest all))

tree_lines : (lines : List CertLine) → AllByRecursion IsOfTree lines → AllByRecursion IsTreeLine lines
tree_lines [] all = tt
tree_lines (Line number ∷ lines) all = (tt, tree_lines lines all.1)
tree_lines (Split cell ∷ lines) all = (tt, tree_lines lines all.1)
tree_lines (Dead number ∷ lines) all = (tt, tree_lines lines all.1)
tree_lines (Done ∷ lines) all = (tt, tree_lines lines all.1)
tree_lines (Use lemma ∷ lines) all = absurd all.0
tree_lines (Broken lemma ∷ lines) all = absurd all.0
tree_lines (Part literal ∷ lines) all = absurd all.0
tree_lines (Lemma ∷ lines) all = absurd all.0
tree_lines (Deny literal ∷ lines) all = absurd all.0
tree_lines (Forget lemma ∷ lines) all = absurd all.0

-- ---- certificates of trees

-- what no error shows, and that there is none
pub none_is_tree : (picture : Rows) (cert : Certificate) → AllByRecursion IsOfTree cert.lines → CertFirstFault picture cert None → IsProof picture cert
none_is_tree picture cert all (inl h) = let e = h.1.1 in cc
none_is_tree picture cert all (inr p) =
    let base = base_of picture cert.givens in
    let same = tree_same picture (place_of cert.runs (2 + length cert.givens)) cert.lines (base ∷ []) 0 0 None (tree_lines cert.lines all) p.1 in
    let g = no_fault_trees picture cert.lines (base ∷ []) 0 (subst (TreeFault picture (base ∷ []) 0 cert.lines) (same.none_there refl) same.first) in
    let t = one_tree picture base cert.lines g.trees g.written_is g.proves in
    record { inside = p.0; tree = t.0; lines = t.1; proves = t.2 }

pub tree_is_none : (picture : Rows) (cert : Certificate) → IsProof picture cert → (fault : Option CertFault) → CertFirstFault picture cert fault → fault ≡ None
tree_is_none picture cert p fault (inl h) = absurd (inside_no_fault picture cert.givens 2 h.0 p.inside h.1.0)
tree_is_none picture cert p fault (inr f) =
    let base = base_of picture cert.givens in
    let lines = subst (λ (ls : List CertLine). AllByRecursion IsTreeLine ls) (append-nil (written p.tree) ∙ sym p.lines) (written_lines p.tree [] tt) in
    let same = tree_same picture (place_of cert.runs (2 + length cert.givens)) cert.lines (base ∷ []) 0 0 fault lines f.1 in
    same.none_here (trees_no_fault picture cert.lines (base ∷ []) (more p.tree none) (p.lines ∙ sym (append-nil (written p.tree))) (p.proves, tt) 0 same.other same.first)
