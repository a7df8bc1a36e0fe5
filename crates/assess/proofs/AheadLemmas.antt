-- What is ahead of a walk through a tree: the trees of the branches that are still to come.
use Rattle.std.proofs.Common.{◌≡◌, ℕ, ◌+◌, ◌-◌, ◌^◌, ◌<◌, ◌≤◌, List, [], ◌∷◌, ◌++◌, append_assoc, get_or, length, drop, drop-cons, add-one, refl}
use Rattle.std.proofs.Common.{sym, ap, subst, ◌∙◌, arith, max, min, replicate, length-append}
use Rattle.std.proofs.lemmas.List.{append-nil}
use native.Mathlib.Nat.{sub-add-eq-max, min-eq_left}
use Rattle.line_facts.specs.Masks.{Masks}
use Rattle.picture.specs.Rows.{Rows}
use Rattle.trail.specs.Trail.{Trailed, trail_of}
use Rattle.cert_text.specs.declared.cert_line.CertLine.{CertLine}
use Rattle.cert_check.specs.Puzzle.{IsForced, line_id, split_at}
use Rattle.cert_check.specs.Tree.{Tree, Trees, done, dead, forced, split, none, more, written, each_written, Proves, EachProves}
use Rattle.cert_check.proofs.TreeExactness.{same_gains}
use Rattle.assess.specs.Guessing.{depth_in, depth_of}
use Rattle.assess.specs.Nesting.{Follows, IsAt, nest_after}

max_assoc : (a b c : ℕ) → max a (max b c) ≡ max (max a b) c
max_assoc a b c = omega (arith, sub-add-eq-max a (max b c), sub-add-eq-max b c, sub-add-eq-max a b, sub-add-eq-max (max a b) c)

-- the next of some lines, and those after it
next_line : (lines : List CertLine) (d : CertLine) (i : ℕ) → i < length lines → drop i lines ≡ get_or lines i d ∷ drop (i + 1) lines
next_line lines d i l = rw add-one (drop-cons lines i d l)

-- how many splits of some trees stand in each other, where each tree stands in so many
abbrev pub deepest : List ℕ → Trees → ℕ
deepest nests none = 0
deepest nests (more tree trees) = max (get_or nests 0 0 + depth_of tree) (deepest (drop 1 nests) trees)

-- The lines are trees that prove the picture from the facts at hand and from those that wait. They stand in so many
-- splits, and with them the depth is this in all.
pub record IsAhead (picture : Rows) (trail : Trailed) (nests : List ℕ) (lines : List CertLine) (depth total : ℕ) : Type 0 where
  pub trees : Trees
  pub waits : List Masks
  pub is_at : IsAt trail waits
  pub written_is : lines ≡ each_written trees
  pub proves : EachProves picture waits trees
  pub depth_is : total ≡ max depth (deepest nests trees)

-- ---- trees one after the other

join : Trees → Trees → Trees
join none back = back
join (more tree trees) back = more tree (join trees back)

joined_written : (front back : Trees) → each_written front ++ each_written back ≡ each_written (join front back)
unfolding join
joined_written none back = refl
joined_written (more tree trees) back =
    append_assoc (written tree) (each_written trees) (each_written back) ∙ ap (λ (ls : List CertLine). written tree ++ ls) (joined_written trees back)

joined_proves : (picture : Rows) (waits others : List Masks) (front back : Trees) → EachProves picture waits front → EachProves picture others back
    → EachProves picture (waits ++ others) (join front back)
unfolding join
joined_proves picture [] others none back p q = q
joined_proves picture [] others (more tree trees) back p q = absurd p
joined_proves picture (facts ∷ waits) others none back p q = absurd p
joined_proves picture (facts ∷ waits) others (more tree trees) back p q = (p.0, joined_proves picture waits others trees back p.1 q)

-- a maximum of three
put_in : (m a rest : ℕ) → max m (max (m + a) rest) ≡ max (m + a) (max m rest)
put_in m a rest = omega (arith, sub-add-eq-max m (max (m + a) rest), sub-add-eq-max (m + a) rest, sub-add-eq-max (m + a) (max m rest), sub-add-eq-max m rest)

both : (m a b rest : ℕ) → max (m + a) (max (m + b) rest) ≡ max (m + max a b) rest
both m a b rest = omega (arith, sub-add-eq-max (m + a) (max (m + b) rest), sub-add-eq-max (m + b) rest, sub-add-eq-max (m + max a b) rest, sub-add-eq-max a b)

joined_depth : (picture : Rows) (waits : List Masks) (m : ℕ) (nests : List ℕ) (front back : Trees) → EachProves picture waits front
    → max m (deepest (replicate (length waits) m ++ nests) (join front back)) ≡ max (m + depth_in front) (deepest nests back)
unfolding join
joined_depth picture [] m nests none back p = ap (λ (n : ℕ). max n (deepest nests back)) (omega arith)
joined_depth picture [] m nests (more tree trees) back p = absurd p
joined_depth picture (facts ∷ waits) m nests none back p = absurd p
joined_depth picture (facts ∷ waits) m nests (more tree trees) back p =
    put_in m (depth_of tree) (deepest (replicate (length waits) m ++ nests) (join trees back))
    ∙ ap (λ (n : ℕ). max (m + depth_of tree) n) (joined_depth picture waits m nests trees back p.1)
    ∙ both m (depth_of tree) (depth_in trees) (deepest nests back)

-- ---- one line

parts : {x y : CertLine} {xs ys : List CertLine} → x ∷ xs ≡ y ∷ ys → (x ≡ y) × (xs ≡ ys)
parts e = (cc, cc)

module _ (picture : Rows) (old new : Trailed) (line : CertLine) (begun : ℕ) (nests : List ℕ) (rest : List CertLine) (depth total : ℕ) (small : total < 2 ^ 64)
    (follows : Follows picture old line begun new) where
  abbrev n : ℕ
  n = get_or nests 0 0

  abbrev m : ℕ
  m = nest_after line n

  abbrev After : Type 0
  After = IsAhead picture new (replicate begun m ++ drop 1 nests) rest (max depth m) total

  -- from the branches that the line leads to, which have so many splits in each other as its tree has
  on : (next others : List Masks) (front back : Trees) (k : ℕ) → begun ≡ length next → IsAt new (next ++ old.behind) → old.behind ≡ others
      → rest ≡ each_written front ++ each_written back → EachProves picture next front → EachProves picture others back → n + k ≡ m + depth_in front
      → total ≡ max depth (max (n + k) (deepest (drop 1 nests) back)) → After
  on next others front back k b at behind w p q e d =
      let after = deepest (replicate (length next) m ++ drop 1 nests) (join front back) in
      record {
        trees = join front back;
        waits = next ++ others;
        is_at = subst (λ (waits : List Masks). IsAt new (next ++ waits)) behind at;
        written_is = w ∙ joined_written front back;
        proves = joined_proves picture next others front back p q;
        depth_is = d ∙ ap (λ (x : ℕ). max depth (max x (deepest (drop 1 nests) back))) e ∙ ap (max depth) (sym (joined_depth picture next m (drop 1 nests) front back p)) ∙ max_assoc depth m after
            ∙ ap (λ (k : ℕ). max (max depth m) (deepest (replicate k m ++ drop 1 nests) (join front back))) (sym b);
      }

  -- a split has room for one more
  room : (k y : ℕ) → total ≡ max depth (max (n + (k + 1)) y) → min (n + 1) (2 ^ 64 - 1) ≡ n + 1
  room k y d = min-eq_left (omega (arith, small, d, sub-add-eq-max depth (max (n + (k + 1)) y), sub-add-eq-max (n + (k + 1)) y))

  by_trees : (trees : Trees) (waits : List Masks) → IsAt old waits → line ∷ rest ≡ each_written trees → EachProves picture waits trees → total ≡ max depth (deepest nests trees) → After
  by_trees none waits at w p d = cc
  by_trees (more tree trees) [] at w p d = absurd p
  by_trees (more done trees) (facts ∷ others) at w p d =
      let f = subst (λ (l : CertLine). Follows picture old l begun new) (parts w).0 follows in
      on [] others none trees 0 f.0 f.1 at.1 (parts w).1 tt p.1 (omega (arith, ap (λ (l : CertLine). nest_after l n) (parts w).0)) d
  by_trees (more (dead number) trees) (facts ∷ others) at w p d =
      let f = subst (λ (l : CertLine). Follows picture old l begun new) (parts w).0 follows in
      on [] others none trees 0 f.0 f.1 at.1 (parts w).1 tt p.1 (omega (arith, ap (λ (l : CertLine). nest_after l n) (parts w).0)) d
  by_trees (more (forced number tree) trees) (facts ∷ others) at w p d =
      let f = subst (λ (l : CertLine). Follows picture old l begun new) (parts w).0 follows p.0.0 in
      let same : p.0.1.0 ≡ new.at_hand = same_gains picture facts p.0.1.0 new.at_hand (line_id number) p.0.1.1.0 (subst (λ (fs : Masks). IsForced picture fs (line_id number) new.at_hand) at.0 f.1) in
      on (new.at_hand ∷ []) others (more tree none) trees (depth_of tree) f.0 (refl, f.2) at.1 ((parts w).1 ∙ ap (λ (ls : List CertLine). ls ++ each_written trees) (sym (append-nil (written tree))))
      (subst (λ (fs : Masks). Proves picture fs tree) same p.0.1.1.1, tt) p.1 (omega (arith, ap (λ (l : CertLine). nest_after l n) (parts w).0, sub-add-eq-max (depth_of tree) 0)) d
  by_trees (more (split cell front) trees) (facts ∷ others) at w p d =
      let f = subst (λ (l : CertLine). Follows picture old l begun new) (parts w).0 follows p.0.0 in
      on (split_at old.at_hand cell) others front trees (depth_in front + 1) f.0 f.1 at.1 (parts w).1 (subst (λ (fs : Masks). EachProves picture (split_at fs cell) front) (sym at.0) p.0.1) p.1
      (omega (arith, ap (λ (l : CertLine). nest_after l n) (parts w).0, room (depth_in front) (deepest (drop 1 nests) trees) d)) d

-- what is ahead after the next line
pub next_ahead : (picture : Rows) (old new : Trailed) (lines : List CertLine) (i begun depth nest most total : ℕ) (d : CertLine) (before after : List ℕ) → i < length lines → total < 2 ^ 64
    → Follows picture old (get_or lines i d) begun new → nest ≡ nest_after (get_or lines i d) (get_or before 0 0) → after ≡ replicate begun nest ++ drop 1 before → most ≡ max depth nest
    → IsAhead picture old before (drop i lines) depth total → IsAhead picture new after (drop (i + 1) lines) most total
next_ahead picture old new lines i begun depth nest most total d before after l small f nest_is after_is most_is a =
    let line = get_or lines i d in
    let ahead = by_trees picture old new line begun before (drop (i + 1) lines) depth total small f a.trees a.waits a.is_at (sym (next_line lines d i l) ∙ a.written_is) a.proves a.depth_is in
    rw (after_is, most_is, nest_is) ahead

-- ---- a whole tree

pub at_start : (picture : Rows) (facts : Masks) (trail : Trailed) (tree : Tree) (lines : List CertLine) → trail ≡ trail_of facts [] [] → lines ≡ written tree → Proves picture facts tree
    → IsAhead picture trail [] lines 0 (depth_of tree)
at_start picture facts trail tree lines is w p = record {
  trees = more tree none;
  waits = facts ∷ [];
  is_at = (ap (λ (t : Trailed). t.at_hand) is, ap (λ (t : Trailed). t.behind) is);
  written_is = w ∙ sym (append-nil (written tree));
  proves = (p, tt);
  depth_is = omega (arith, sub-add-eq-max 0 (max (0 + depth_of tree) 0), sub-add-eq-max (0 + depth_of tree) 0);
}

some_lines : (tree : Tree) (lines : List CertLine) → [] ≡ written tree ++ lines → ⊥
some_lines done lines e = cc
some_lines (dead number) lines e = cc
some_lines (forced number tree) lines e = cc
some_lines (split cell trees) lines e = cc

pub at_end : (picture : Rows) (trail : Trailed) (nests : List ℕ) (depth total : ℕ) → IsAhead picture trail nests [] depth total → depth ≡ total
at_end picture trail nests depth total a = by a.trees a.written_is a.depth_is
  where
    by : (trees : Trees) → [] ≡ each_written trees → total ≡ max depth (deepest nests trees) → depth ≡ total
    by none w d = omega (arith, d, sub-add-eq-max depth 0)
    by (more tree trees) w d = absurd (some_lines tree (each_written trees) w)

-- a tree is no deeper than it has lines
mutual
  not_deep : (tree : Tree) → depth_of tree ≤ length (written tree)
  not_deep done = omega arith
  not_deep (dead number) = omega arith
  not_deep (forced number tree) = let e = not_deep tree in omega (arith, e)
  not_deep (split cell trees) = let e = not_deep_in trees in omega (arith, e)

  not_deep_in : (trees : Trees) → depth_in trees ≤ length (each_written trees)
  not_deep_in none = omega arith
  not_deep_in (more tree trees) =
      let e = not_deep tree in
      let f = not_deep_in trees in
      omega (arith, e, f, sub-add-eq-max (depth_of tree) (depth_in trees), length-append (written tree) (each_written trees))

pub small_depth : (tree : Tree) (lines : List CertLine) → lines ≡ written tree → length lines < 2 ^ 64 → depth_of tree < 2 ^ 64
small_depth tree lines w l = let e = not_deep tree in omega (arith, e, ap length w)
