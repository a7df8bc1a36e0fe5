-- Certificates without an error are exactly the proofs with lemmas.
use Rattle.std.proofs.Common.{◌≡◌, ◌⊎◌, ℕ, ◌+◌, ◌<◌, ◌≤◌, List, [], ◌∷◌, ◌++◌, length, map, set, Option, None, Some, append_assoc, refl, sym, ap, subst, ◌∙◌, arith, inl, inr}
use Rattle.std.specs.List.{AllByRecursion}
use Rattle.std.proofs.lemmas.List.{append-nil, length-append, set_past}
use Rattle.std.proofs.lemmas.Bool.{cases_lt}
use Rattle.std.proofs.lemmas.List.Sums.{sum_by-set, sum_by_push}
use Rattle.line_facts.specs.Masks.{Masks}
use Rattle.picture.specs.Rows.{Rows}
use Rattle.cert_text.specs.declared.cert_line.Literal.{Literal}
use Rattle.cert_text.specs.declared.cert_line.CertLine.{CertLine}
use Rattle.cert_text.specs.declared.cert_line.CertLine.TheVariants.{Line, Use, Split, Dead, Broken, Done, Part, Lemma, Deny, Forget}
use Rattle.cert_check.specs.declared.stage.Stage.{Stage}
use Rattle.cert_check.specs.declared.stage.Stage.TheVariants.{Free, Denying, Refuting}
use Rattle.cert_text.specs.Cert.{Certificate, place_of}
use Rattle.cert_check.specs.Puzzle.{base_of}
use Rattle.cert_check.specs.Lemmas.{Fits, HasLiteral, IsKept, Lemmas, denied_all, held_off, literals_in, total}
use Rattle.cert_check.specs.Steps.{Leads}
use Rattle.cert_check.specs.LemmaProof.{Branch, Branches, Trunk, leads, none, more, ends, goes, proved, dropped, branch_lines, branches_lines, trunk_lines, BranchProves, EachBranchProves}
use Rattle.cert_check.specs.LemmaProof.{IsLemmaProof, TrunkProves}
use Rattle.cert_check.specs.FirstFault.{CertFirstFault, FirstFault, Moves, found_by}
use Rattle.cert_check.specs.Walk.{Walk, begun, denied, last_at, lasting, next_at, root, settled, taken, walk_of, without}

-- ---- the rest of a proof: a branch for all that waits but the last, and the trunk for that

-- lines that prove branches with these facts: the last is a trunk, on which other lemmas are kept
abbrev pub AreRest : Rows → Lemmas → Lemmas → List (List (List ℕ)) → List CertLine → Type 0
AreRest picture lemmas last [] lines = lines ≡ []
AreRest picture lemmas last (facts ∷ []) lines = (trunk : Trunk) × ((lines ≡ trunk_lines trunk) × TrunkProves picture last facts trunk)
AreRest picture lemmas last (facts ∷ next ∷ others) lines =
    (branch : Branch) × ((rest : List CertLine) × ((lines ≡ branch_lines branch ++ rest) × BranchProves picture lemmas facts branch × AreRest picture lemmas last (next ∷ others) rest))

-- branches one after the other, and the lines after them
record Fore (picture : Rows) (lemmas : Lemmas) (front : List (List (List ℕ))) (lines rest : List CertLine) : Type 0 where
  branches : Branches
  written_is : lines ≡ branches_lines branches ++ rest
  proves : EachBranchProves picture lemmas front branches

-- cut before facts that wait
cut : (picture : Rows) (lemmas last : Lemmas) (front : List Masks) (facts : Masks) (others : List Masks) (lines : List CertLine) → AreRest picture lemmas last (front ++ facts ∷ others) lines
    → (rest : List CertLine) × (Fore picture lemmas front lines rest × AreRest picture lemmas last (facts ∷ others) rest)
cut picture lemmas last [] facts others lines r = (lines, (record { branches = none; written_is = refl; proves = tt }, r))
cut picture lemmas last (one ∷ []) facts others lines r =
    (r.1.0, (record { branches = more r.0 none; written_is = r.1.1.0 ∙ ap (λ (ls : List CertLine). ls ++ r.1.0) (sym (append-nil (branch_lines r.0))); proves = (r.1.1.1, tt) }, r.1.1.2))
cut picture lemmas last (one ∷ next ∷ front) facts others lines r =
    let c = cut picture lemmas last (next ∷ front) facts others r.1.0 r.1.1.2 in (
      c.0,
      (
        record {
          branches = more r.0 c.1.0.branches;
          written_is = r.1.1.0 ∙ (ap (λ (ls : List CertLine). branch_lines r.0 ++ ls) c.1.0.written_is ∙ sym (append_assoc (branch_lines r.0) (branches_lines c.1.0.branches) c.0));
          proves = (r.1.1.1, c.1.0.proves);
        },
        c.1.1,
      ),
    )

-- the last of some facts
abbrev Ends : List Masks → Type 0
Ends facts = (front : List Masks) × ((last : Masks) × (facts ≡ front ++ last ∷ []))

last_of : (facts : Masks) (others : List Masks) → Ends (facts ∷ others)
last_of facts [] = ([], (facts, refl))
last_of facts (next ∷ others) =
    let l = last_of next others in
    (facts ∷ l.0, (l.1.0, ap (λ (fs : List Masks). facts ∷ fs) l.1.1))

-- a line of the branch at hand, where others wait
led_branch : (picture : Rows) (lemmas last : Lemmas) (facts : Masks) (line : CertLine) (next : List Masks) (other : Masks) (others : List Masks) (lines : List CertLine)
    → Leads picture lemmas facts line next → AreRest picture lemmas last (next ++ other ∷ others) lines → AreRest picture lemmas last (facts ∷ other ∷ others) (line ∷ lines)
led_branch picture lemmas last facts line next other others lines l r =
    let c = cut picture lemmas last next other others lines r in
    (leads line c.1.0.branches, (c.0, (ap (λ (ls : List CertLine). line ∷ ls) c.1.0.written_is, (next, (l, c.1.0.proves)), c.1.1)))

-- a line of the trunk
led_trunk : (picture : Rows) (lemmas : Lemmas) (facts : Masks) (line : CertLine) (next : List Masks) (lines : List CertLine) → Leads picture lemmas facts line next
    → AreRest picture lemmas lemmas next lines → AreRest picture lemmas lemmas (facts ∷ []) (line ∷ lines)
led_trunk picture lemmas facts line [] lines l r = (ends line, (ap (λ (ls : List CertLine). line ∷ ls) r, l))
led_trunk picture lemmas facts line (first ∷ others) lines l r =
    let e = last_of first others in
    let c = cut picture lemmas lemmas e.0 e.1.0 [] lines (subst (λ (waits : List Masks). AreRest picture lemmas lemmas waits lines) e.1.1 r) in
    let t = c.1.1 in (
      goes line c.1.0.branches t.0,
      (
        ap (λ (ls : List CertLine). line ∷ ls) (c.1.0.written_is ∙ ap (λ (ls : List CertLine). branches_lines c.1.0.branches ++ ls) t.1.0),
        (e.0, (e.1.0, (subst (Leads picture lemmas facts line) e.1.1 l, c.1.0.proves, t.1.1))),
      ),
    )

-- ---- walks whose rest is proved

-- the lines after a walk prove what is at hand and waits, once some more literals are denied
pub record AreLeft (picture : Rows) (walk : Walk) (lines : List CertLine) : Type 0 where
  pub literals : List Literal
  pub rest : List CertLine
  pub lines_are : lines ≡ map Deny literals ++ rest
  pub only_denying : (literals ≡ []) ⊎ (walk.stage ≡ Denying)
  pub inside : AllByRecursion (HasLiteral picture) literals
  pub fits : Fits walk.lemmas (walk.denied ++ literals)
  pub proves : AreRest picture walk.lemmas (lasting walk.stage walk.lemmas (walk.denied ++ literals)) (denied_all walk.at_hand literals ∷ walk.behind) rest

abbrev pub Left : Rows → Option Walk → List CertLine → Type 0
Left picture None lines = lines ≡ []
Left picture (Some walk) lines = AreLeft picture walk lines

-- what every walk is that a proof comes to
pub record IsWalk (walk : Walk) : Type 0 where
  pub free : walk.behind ≡ [] → walk.stage ≡ Free
  pub none_denied : walk.stage ≡ Free → walk.denied ≡ []
  pub alone : walk.stage ≡ Denying → (first : List (List ℕ)) × (walk.behind ≡ first ∷ [])
  pub fits : Fits walk.lemmas walk.denied

-- ---- from the lines to the proof

pub untaken : (stage : Stage) (lemmas : Lemmas) (denied : List Literal) → lasting (taken stage) lemmas denied ≡ lasting stage lemmas denied
untaken Free lemmas denied = refl
untaken Denying lemmas denied = refl
untaken Refuting lemmas denied = refl

not_denying : (stage : Stage) → taken stage ≡ Denying → ⊥
not_denying Free e = cc
not_denying Denying e = cc
not_denying Refuting e = cc

still_free : (stage : Stage) → taken stage ≡ Free → stage ≡ Free
still_free Free e = refl
still_free Denying e = cc
still_free Refuting e = cc

module _ (picture : Rows) where
  -- where no literal is denied any more
  none_left : (walk : Walk) (lines : List CertLine) → AreLeft picture walk lines → (walk.stage ≡ Denying → ⊥)
      → AreRest picture walk.lemmas (lasting walk.stage walk.lemmas walk.denied) (walk.at_hand ∷ walk.behind) lines
  none_left walk lines left not = go left.literals left.rest left.lines_are left.only_denying left.proves
    where
      go : (literals : List Literal) (rest : List CertLine) → lines ≡ map Deny literals ++ rest → (literals ≡ []) ⊎ (walk.stage ≡ Denying)
          → AreRest picture walk.lemmas (lasting walk.stage walk.lemmas (walk.denied ++ literals)) (denied_all walk.at_hand literals ∷ walk.behind) rest
          → AreRest picture walk.lemmas (lasting walk.stage walk.lemmas walk.denied) (walk.at_hand ∷ walk.behind) lines
      go [] rest e d p =
          subst (λ (ls : List CertLine). AreRest picture walk.lemmas (lasting walk.stage walk.lemmas walk.denied) (walk.at_hand ∷ walk.behind) ls) (sym e)
          (subst (λ (ds : List Literal). AreRest picture walk.lemmas (lasting walk.stage walk.lemmas ds) (walk.at_hand ∷ walk.behind) rest) (append-nil walk.denied) p)
      go (literal ∷ literals) rest e (inl d) p = cc
      go (literal ∷ literals) rest e (inr d) p = absurd (not d)

  -- and the other way
  pub with_none : (walk : Walk) (lines : List CertLine) → Fits walk.lemmas walk.denied → AreRest picture walk.lemmas (lasting walk.stage walk.lemmas walk.denied) (walk.at_hand ∷ walk.behind) lines
      → AreLeft picture walk lines
  with_none walk lines fits p = record {
    literals = [];
    rest = lines;
    lines_are = refl;
    only_denying = inl refl;
    inside = tt;
    fits = subst (Fits walk.lemmas) (sym (append-nil walk.denied)) fits;
    proves = subst (λ (ds : List Literal). AreRest picture walk.lemmas (lasting walk.stage walk.lemmas ds) (walk.at_hand ∷ walk.behind) lines) (sym (append-nil walk.denied)) p;
  }

  left_rest : (walk : Walk) (waits : List Masks) (lines : List CertLine) → Left picture (next_at (settled walk) waits) lines
      → AreRest picture walk.lemmas (lasting walk.stage walk.lemmas walk.denied) waits lines
  left_rest walk [] lines left = left
  left_rest walk (facts ∷ []) lines left =
      let rest = none_left (last_at (settled walk) facts) lines left (λ e. cc) in
      subst (λ (last : Lemmas). AreRest picture walk.lemmas last (facts ∷ []) lines) (untaken walk.stage walk.lemmas walk.denied) rest
  left_rest walk (facts ∷ other ∷ others) lines left =
      let rest = none_left (walk_of facts (other ∷ others) walk.lemmas walk.denied (taken walk.stage)) lines left (not_denying walk.stage) in
      subst (λ (last : Lemmas). AreRest picture walk.lemmas last (facts ∷ other ∷ others) lines) (untaken walk.stage walk.lemmas walk.denied) rest

  led_rest : (lemmas last : Lemmas) (facts : Masks) (line : CertLine) (next behind : List Masks) (lines : List CertLine) → (behind ≡ [] → last ≡ lemmas) → Leads picture lemmas facts line next
      → AreRest picture lemmas last (next ++ behind) lines → AreRest picture lemmas last (facts ∷ behind) (line ∷ lines)
  led_rest lemmas last facts line next [] lines same l r =
      let e = same refl in
      let here = subst (λ (waits : List Masks). AreRest picture lemmas last waits lines) (append-nil next) r in
      subst (λ (kept : Lemmas). AreRest picture lemmas kept (facts ∷ []) (line ∷ lines)) (sym e)
      (led_trunk picture lemmas facts line next lines l (subst (λ (kept : Lemmas). AreRest picture lemmas kept next lines) e here))
  led_rest lemmas last facts line next (other ∷ others) lines same l r = led_branch picture lemmas last facts line next other others lines l r

  pub last_free : (walk : Walk) → IsWalk walk → walk.behind ≡ [] → lasting walk.stage walk.lemmas walk.denied ≡ walk.lemmas
  last_free walk is e = ap (λ (stage : Stage). lasting stage walk.lemmas walk.denied) (is.free e)

  plain : (walk : Walk) (line : CertLine) (facts : List Masks) (next : Option Walk) (lines : List CertLine) → IsWalk walk → Leads picture walk.lemmas walk.at_hand line facts
      → next ≡ next_at (settled walk) (facts ++ walk.behind) → Left picture next lines → AreLeft picture walk (line ∷ lines)
  plain walk line facts next lines is l e left =
      with_none walk (line ∷ lines) is.fits
      (led_rest walk.lemmas (lasting walk.stage walk.lemmas walk.denied) walk.at_hand line facts walk.behind lines (last_free walk is) l
      (left_rest walk (facts ++ walk.behind) lines (subst (λ (at : Option Walk). Left picture at lines) e left)))

  -- a trunk where nothing waits
  pub trunk_left : (walk : Walk) (lines : List CertLine) (trunk : Trunk) → IsWalk walk → walk.behind ≡ [] → lines ≡ trunk_lines trunk → TrunkProves picture walk.lemmas walk.at_hand trunk
      → AreLeft picture walk lines
  trunk_left walk lines trunk is b e p =
      with_none walk lines is.fits
      (subst (λ (behind : List (List (List ℕ))). AreRest picture walk.lemmas (lasting walk.stage walk.lemmas walk.denied) (walk.at_hand ∷ behind) lines) (sym b)
      (trunk, (e, subst (λ (kept : Lemmas). TrunkProves picture kept walk.at_hand trunk) (sym (last_free walk is b)) p)))

  begun_led : (walk : Walk) (lines : List CertLine) → IsWalk walk → walk.behind ≡ [] → AreLeft picture (begun (settled walk)) lines → AreLeft picture walk (Lemma ∷ lines)
  begun_led walk lines is b left =
      let branch = left.proves.0 in
      let rest = left.proves.1.0 in
      let trunk = left.proves.1.1.2.0 in
      let t = left.proves.1.1.2.1 in
      trunk_left walk (Lemma ∷ lines) (proved left.literals branch trunk) is b
      (ap (λ (ls : List CertLine). Lemma ∷ ls) (left.lines_are
      ∙ ap (λ (ls : List CertLine). map Deny left.literals ++ ls) (left.proves.1.1.0 ∙ ap (λ (ls : List CertLine). branch_lines branch ++ ls) t.0)))
      (left.inside, left.fits, left.proves.1.1.1, t.1)

  denied_led : (walk : Walk) (literal : Literal) (lines : List CertLine) → walk.stage ≡ Denying → HasLiteral picture literal → AreLeft picture (denied walk literal) lines
      → AreLeft picture walk (Deny literal ∷ lines)
  denied_led walk literal lines s has left =
      let same : (walk.denied ++ literal ∷ []) ++ left.literals ≡ walk.denied ++ literal ∷ left.literals = append_assoc walk.denied (literal ∷ []) left.literals in
      record {
        literals = literal ∷ left.literals;
        rest = left.rest;
        lines_are = ap (λ (ls : List CertLine). Deny literal ∷ ls) left.lines_are;
        only_denying = inr s;
        inside = (has, left.inside);
        fits = subst (Fits walk.lemmas) same left.fits;
        proves = subst (λ (stage : Stage). AreRest picture walk.lemmas (lasting stage walk.lemmas (walk.denied ++ literal ∷ left.literals)) (denied_all walk.at_hand
            (literal ∷ left.literals) ∷ walk.behind) left.rest) (sym s)
            (subst (λ (ds : List Literal). AreRest picture walk.lemmas (walk.lemmas ++ Some ds ∷ []) (denied_all
            (held_off walk.at_hand literal) left.literals ∷ walk.behind) left.rest) same left.proves);
      }

  without_led : (walk : Walk) (n : ℕ) (lines : List CertLine) → IsWalk walk → walk.behind ≡ [] → IsKept walk.lemmas n → AreLeft picture (without (settled walk) n) lines
      → AreLeft picture walk (Forget n ∷ lines)
  without_led walk n lines is b kept left =
      let t = none_left (without (settled walk) n) lines left (λ e. cc) in
      trunk_left walk (Forget n ∷ lines) (dropped n t.0) is b (ap (λ (ls : List CertLine). Forget n ∷ ls) t.1.0) (kept, t.1.1)

  led : (walk : Walk) (line : CertLine) (next : Option Walk) (lines : List CertLine) → IsWalk walk → Moves picture (found_by walk line) line next → Left picture next lines
      → AreLeft picture walk (line ∷ lines)
  led walk (Line number) next lines is m left = plain walk (Line number) m.0 next lines is m.1.0 m.1.1 left
  led walk (Use n) next lines is m left = plain walk (Use n) m.0 next lines is m.1.0 m.1.1 left
  led walk (Split cell) next lines is m left = plain walk (Split cell) m.0 next lines is m.1.0 m.1.1 left
  led walk (Dead number) next lines is m left = plain walk (Dead number) m.0 next lines is m.1.0 m.1.1 left
  led walk (Broken n) next lines is m left = plain walk (Broken n) m.0 next lines is m.1.0 m.1.1 left
  led walk Done next lines is m left = plain walk Done m.0 next lines is m.1.0 m.1.1 left
  led walk (Part literal) next lines is m left = plain walk (Part literal) m.0 next lines is m.1.0 m.1.1 left
  led walk Lemma next lines is m left = begun_led walk lines is m.0 (subst (λ (at : Option Walk). Left picture at lines) m.1 left)
  led walk (Deny literal) next lines is m left = denied_led walk literal lines m.0 m.1 (subst (λ (at : Option Walk). Left picture at lines) m.3 left)
  led walk (Forget n) next lines is m left = without_led walk n lines is m.0 m.1 (subst (λ (at : Option Walk). Left picture at lines) m.2 left)

-- ---- what every walk is

abbrev pub AreWalks : Option Walk → Type 0
AreWalks None = Unit {0}
AreWalks (Some walk) = IsWalk walk

kept_fits : (stage : Stage) (lemmas : Lemmas) (denied : List Literal) → Fits lemmas denied → Fits (lasting stage lemmas denied) []
kept_fits Free lemmas denied f = (omega arith, (let l = f.1 in omega arith))
kept_fits Denying lemmas denied f = (
  omega arith,
  (let l = f.1 in let s : total (lemmas ++ Some denied ∷ []) ≡ total lemmas + length denied = sum_by_push literals_in lemmas
      (Some denied) in omega arith),
)
kept_fits Refuting lemmas denied f = (
  omega arith,
  (let l = f.1 in let s : total (lemmas ++ Some denied ∷ []) ≡ total lemmas + length denied = sum_by_push literals_in lemmas
      (Some denied) in omega arith),
)

pub next_walk : (walk : Walk) (waits : List Masks) → IsWalk walk → AreWalks (next_at (settled walk) waits)
next_walk walk [] is = tt
next_walk walk (facts ∷ []) is = record {
  free = λ e. refl;
  none_denied = λ e. refl;
  alone = λ e. cc;
  fits = subst (λ (kept : Lemmas). Fits kept []) (sym (untaken walk.stage walk.lemmas walk.denied)) (kept_fits walk.stage walk.lemmas walk.denied is.fits);
}
next_walk walk (facts ∷ other ∷ others) is = record {
  free = λ e. cc;
  none_denied = λ e. is.none_denied (still_free walk.stage e);
  alone = λ e. absurd (not_denying walk.stage e);
  fits = is.fits;
}

less_total : (lemmas : Lemmas) (n : ℕ) → total (set lemmas n None) ≤ total lemmas
less_total lemmas n = elim (cases_lt n (length lemmas)) [
  | inl l ↦ let s = sum_by-set literals_in lemmas n None None l in omega arith
  | inr p ↦ let s : total (set lemmas n None) ≡ total lemmas = ap total (set_past lemmas n None p) in omega arith
]

fewer : (lemmas : Lemmas) (denied : List Literal) → Fits lemmas denied → Fits lemmas []
fewer lemmas denied f = (omega arith, (let l = f.1 in omega arith))

one_more : (lemmas : Lemmas) (denied : List Literal) (literal : Literal) → (length denied < 1024) × (total lemmas + length denied < 65536) → Fits lemmas (denied ++ literal ∷ [])
one_more lemmas denied literal room =
    let n = length-append denied (literal ∷ []) in
    ((let a = room.0 in omega arith), (let b = room.1 in omega arith))

pub walks : (picture : Rows) (walk : Walk) (line : CertLine) (next : Option Walk) → IsWalk walk → Moves picture (found_by walk line) line next → AreWalks next
walks picture walk (Line number) next is m = subst AreWalks (sym m.1.1) (next_walk walk (m.0 ++ walk.behind) is)
walks picture walk (Use n) next is m = subst AreWalks (sym m.1.1) (next_walk walk (m.0 ++ walk.behind) is)
walks picture walk (Split cell) next is m = subst AreWalks (sym m.1.1) (next_walk walk (m.0 ++ walk.behind) is)
walks picture walk (Dead number) next is m = subst AreWalks (sym m.1.1) (next_walk walk (m.0 ++ walk.behind) is)
walks picture walk (Broken n) next is m = subst AreWalks (sym m.1.1) (next_walk walk (m.0 ++ walk.behind) is)
walks picture walk Done next is m = subst AreWalks (sym m.1.1) (next_walk walk (m.0 ++ walk.behind) is)
walks picture walk (Part literal) next is m = subst AreWalks (sym m.1.1) (next_walk walk (m.0 ++ walk.behind) is)
walks picture walk Lemma next is m = subst AreWalks (sym m.1) (record { free = λ e. cc; none_denied = λ e. cc; alone = λ e. (walk.at_hand, refl); fits = fewer walk.lemmas walk.denied is.fits })
walks picture walk (Deny literal) next is m = subst AreWalks (sym m.3) (record {
  free = λ e. absurd (let a = is.alone m.0 in let z = sym e ∙ a.1 in cc);
  none_denied = λ e. cc;
  alone = λ e. is.alone m.0;
  fits = one_more walk.lemmas walk.denied literal m.2;
})
walks picture walk (Forget n) next is m = subst AreWalks (sym m.2) (record {
  free = λ e. refl;
  none_denied = λ e. refl;
  alone = λ e. cc;
  fits = (omega arith, (let l = is.fits.1 in let s = less_total walk.lemmas n in omega arith));
})

-- no error: the lines prove what is at hand and waits
pub none_left_of : (picture : Rows) (place : ℕ → ℕ) (lines : List CertLine) (at : Option Walk) (i : ℕ) → AreWalks at → FirstFault picture at place i lines None → Left picture at lines
none_left_of picture place [] None i is f = refl
none_left_of picture place [] (Some walk) i is f = cc
none_left_of picture place (line ∷ lines) None i is f = cc
none_left_of picture place (line ∷ lines) (Some walk) i is (inl h) = let e = h.1.1 in cc
none_left_of picture place (line ∷ lines) (Some walk) i is (inr s) =
    led picture walk line s.0 lines is s.1.0 (none_left_of picture place lines s.0 (i + 1) (walks picture walk line s.0 is s.1.0) s.1.1)

-- where a certificate begins
pub root_walk : (facts : Masks) → IsWalk (root facts)
root_walk facts = record { free = λ e. refl; none_denied = λ e. refl; alone = λ e. cc; fits = (omega arith, omega arith) }

pub none_is_proof : (picture : Rows) (cert : Certificate) → CertFirstFault picture cert None → IsLemmaProof picture cert
none_is_proof picture cert (inl h) = let e = h.1.1 in cc
none_is_proof picture cert (inr p) =
    let facts = base_of picture cert.givens in
    let left = none_left_of picture (place_of cert.runs (2 + length cert.givens)) cert.lines (Some (root facts)) 0 (root_walk facts) p.1 in
    let t = none_left picture (root facts) cert.lines left (λ e. cc) in
    record { inside = p.0; trunk = t.0; lines = t.1.0; proves = t.1.1 }
