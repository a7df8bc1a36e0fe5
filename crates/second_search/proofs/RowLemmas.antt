-- Parts found row by row.
use Rattle.std.proofs.Common.{◌≡◌, ℕ, ◌+◌, ◌<◌, ◌≤◌, ◌⊎◌, ◌↔◌, List, [], ◌∷◌, ◌++◌, length, refl, sym, ap, subst, ◌∙◌, arith, inl, inr, zero, suc}
use Rattle.std.proofs.lemmas.Bool.{cases_eq, cases_lt}
use Rattle.std.proofs.lemmas.List.{get_or_append_left, length-append, ext_get_or}
use Rattle.std.proofs.Math.Seq.{get_or-append_seam}
use Rattle.line_facts.specs.Masks.{Masks}
use Rattle.picture.specs.CellSet.{IsCellSet, HasCell}
use Rattle.line_facts.specs.FactSets.{IsFacts}
use Rattle.second_search.specs.GrownParts.{ArePartsAbove, HasNoOpenCell, HoldsCell, IsFirstOpen}
use Rattle.second_search.specs.Parts.{AreParts, IsBefore, IsChained, IsOpenCell, IsPart, IsPartFrom, begins, part_at}
use Rattle.second_search.proofs.ChainLemmas.{chain_back, chain_end, chain_in_row, chain_on, open_inside}
use Rattle.picture.specs.Laws.{SameCellsAreEqual}
use Rattle.second_search.specs.Laws.{PartsAreOneList}
use Rattle.second_search.proofs.KnownLaws.{same_cells_are_equal}
use Rattle.second_search.proofs.PartLemmas.{one_part_each}

pub none_above : (facts : Masks) → ArePartsAbove facts [] 0
none_above facts = record {
  each = λ i l. absurd (omega arith);
  ordered = λ i j row col r c l m. absurd (omega arith);
  above = λ i row col l. absurd (omega arith);
  all = λ row col l. absurd (omega arith);
}

-- rows that add no cell
grown_rows : (facts : Masks) (parts : List (List ℕ)) (row : ℕ) → ArePartsAbove facts parts row → ((col : ℕ) → IsOpenCell facts row col → HoldsCell parts row col) → ArePartsAbove facts parts (row + 1)
grown_rows facts parts row a here = record {
  each = a.each;
  ordered = a.ordered;
  above = λ i r c l p. let b = a.above i r c l p in omega arith;
  all = λ r c l o. elim (cases_eq r row) [
    | inl e ↦ rw e (here c (subst (λ (x : ℕ). IsOpenCell facts x c) e o))
    | inr d ↦ a.all r c (omega arith) o
  ];
}

pub no_more : (facts : Masks) (parts : List (List ℕ)) (row : ℕ) → HasNoOpenCell facts row → ArePartsAbove facts parts row → ArePartsAbove facts parts (row + 1)
no_more facts parts row none a = grown_rows facts parts row a (λ col o. absurd (none col o))

-- a part has all cells that are chained to one of its cells
pub part_has : (facts : Masks) (cells : List ℕ) (row col r c : ℕ) → IsPart facts cells → HasCell cells row col → IsChained facts row col r c → HasCell cells r c
part_has facts cells row col r c p h chain = (p.from.members r c).1 (chain_on facts p.row p.col row col r c ((p.from.members row col).0 h) chain)

pub held_already : (facts : Masks) (parts : List (List ℕ)) (row col : ℕ) → IsFirstOpen facts row col → HoldsCell parts row col → ArePartsAbove facts parts row → ArePartsAbove facts parts (row + 1)
held_already facts parts row col first holds a = grown_rows facts parts row a (λ c o.
    (holds.0, (holds.1.0, part_has facts (part_at parts holds.0) row col row c (a.each holds.0 holds.1.0) holds.1.1 (chain_in_row facts row col c first.is_open o))))

-- ---- one more part

new_part : (facts : Masks) (parts : List (List ℕ)) (cells : List ℕ) (row col : ℕ) → IsFirstOpen facts row col → (HoldsCell parts row col → ⊥) → ArePartsAbove facts parts row → IsCellSet cells
    → ((r c : ℕ) → HasCell cells r c ↔ IsChained facts row col r c) → IsPartFrom facts cells row col
new_part facts parts cells row col first new a set members = record {
  set = set;
  is_open = first.is_open;
  members = members;
  first = λ r c h before.
      let chain = (members r c).0 h in
      elim before [
        | inl l ↦
            let held = a.all r c l (chain_end facts row col r c chain) in
            new (held.0, (held.1.0, part_has facts (part_at parts held.0) r c row col (a.each held.0 held.1.0) held.1.1 (chain_back facts row col r c chain)))
        | inr e ↦ first.first c e.1 (let P : ℕ → Type 0 = λ x. IsOpenCell facts x c in subst P e.0 (chain_end facts row col r c chain))
      ];
}

at_old : (parts : List (List ℕ)) (cells : List ℕ) (i : ℕ) → i < length parts → part_at (parts ++ cells ∷ []) i ≡ part_at parts i
at_old parts cells i l = get_or_append_left parts (cells ∷ []) [] i l

at_new : (parts : List (List ℕ)) (cells : List ℕ) (i : ℕ) → i ≡ length parts → part_at (parts ++ cells ∷ []) i ≡ cells
at_new parts cells i e = ap (part_at (parts ++ cells ∷ [])) e ∙ get_or-append_seam parts cells [] []

one_longer : (parts : List (List ℕ)) (cells : List ℕ) → length (parts ++ cells ∷ []) ≡ length parts + 1
one_longer parts cells = length-append parts (cells ∷ [])

-- an index after one part was added: it is an old one, or the new one
old_or_new : (parts : List (List ℕ)) (cells : List ℕ) (i : ℕ) → i < length (parts ++ cells ∷ []) → (i < length parts) ⊎ (i ≡ length parts)
old_or_new parts cells i l = elim (cases_lt i (length parts)) [
  | inl m ↦ inl m
  | inr p ↦ inr (let n = one_longer parts cells in omega arith)
]

-- no cell of the new part lies above its first row
not_above : (facts : Masks) (cells : List ℕ) (row col r c : ℕ) → IsPartFrom facts cells row col → IsPartFrom facts cells r c → row ≤ r
not_above facts cells row col r c p q = elim (cases_lt r row) [
  | inl l ↦ absurd (p.first r c ((q.members r c).1 (begins q.is_open)) (inl l))
  | inr n ↦ n
]

ordered_more : (facts : Masks) (parts : List (List ℕ)) (cells : List ℕ) (row col : ℕ) → ArePartsAbove facts parts row → IsPartFrom facts cells row col → (i j a b r c : ℕ) → i < j
    → j < length (parts ++ cells ∷ []) → IsPartFrom facts (part_at (parts ++ cells ∷ []) i) a b → IsPartFrom facts (part_at (parts ++ cells ∷ []) j) r c → IsBefore a b r c
ordered_more facts parts cells row col a p i j u v r c l m pi pj =
    let F : ℕ → ℕ → List ℕ → Type 0 = λ x y part. IsPartFrom facts part x y in
    elim (old_or_new parts cells j m) [
      | inl old ↦ a.ordered i j u v r c l old (subst (F u v) (at_old parts cells i (omega arith)) pi) (subst (F r c) (at_old parts cells j old) pj)
      | inr e ↦
          let low = a.above i u v (omega arith) (subst (F u v) (at_old parts cells i (omega arith)) pi) in
          let high = not_above facts cells row col r c p (subst (F r c) (at_new parts cells j e) pj) in
          inl (omega arith)
    ]

held_more : (parts : List (List ℕ)) (cells : List ℕ) (row col : ℕ) → HoldsCell parts row col → HoldsCell (parts ++ cells ∷ []) row col
held_more parts cells row col h =
    let n = one_longer parts cells in
    (h.0, ((let l = h.1.0 in omega arith), subst (λ (part : List ℕ). HasCell part row col) (sym (at_old parts cells h.0 h.1.0)) h.1.1))

held_by_new : (parts : List (List ℕ)) (cells : List ℕ) (row col : ℕ) → HasCell cells row col → HoldsCell (parts ++ cells ∷ []) row col
held_by_new parts cells row col h =
    let n = one_longer parts cells in
    (length parts, (omega arith, subst (λ (part : List ℕ). HasCell part row col) (sym (at_new parts cells (length parts) refl)) h))

one_more_part : (facts : Masks) (parts : List (List ℕ)) (cells : List ℕ) (row col : ℕ) → ArePartsAbove facts parts row → IsPartFrom facts cells row col
    → ArePartsAbove facts (parts ++ cells ∷ []) (row + 1)
one_more_part facts parts cells row col a p =
    let F : ℕ → ℕ → List ℕ → Type 0 = λ x y part. IsPartFrom facts part x y in
    record {
      each = λ i l. elim (old_or_new parts cells i l) [
        | inl old ↦ subst (IsPart facts) (sym (at_old parts cells i old)) (a.each i old)
        | inr e ↦ subst (IsPart facts) (sym (at_new parts cells i e)) (record { row = row; col = col; from = p })
      ];
      ordered = ordered_more facts parts cells row col a p;
      above = λ i r c l q. elim (old_or_new parts cells i l) [
        | inl old ↦ (let b = a.above i r c old (subst (F r c) (at_old parts cells i old) q) in omega arith)
        | inr e ↦ (let b = not_above facts cells r c row col (subst (F r c) (at_new parts cells i e) q) p in omega arith)
      ];
      all = λ r c l o. elim (cases_eq r row) [
        | inl e ↦
            held_by_new parts cells r c
            ((p.members r c).1 (subst (λ (x : ℕ). IsChained facts row col x c) (sym e) (chain_in_row facts row col c p.is_open (subst (λ (x : ℕ). IsOpenCell facts x c) e o))))
        | inr d ↦ held_more parts cells r c (a.all r c (omega arith) o)
      ];
    }

pub one_more : (facts : Masks) (parts more : List (List ℕ)) (cells : List ℕ) (row col : ℕ) → more ≡ parts ++ cells ∷ [] → IsFirstOpen facts row col → (HoldsCell parts row col → ⊥) → IsCellSet cells
    → ((r c : ℕ) → HasCell cells r c ↔ IsChained facts row col r c) → ArePartsAbove facts parts row → ArePartsAbove facts more (row + 1)
one_more facts parts more cells row col e first new set members a =
    subst (λ (x : List (List ℕ)). ArePartsAbove facts x (row + 1)) (sym e) (one_more_part facts parts cells row col a (new_part facts parts cells row col first new a set members))

-- the parts of all rows
pub all_rows : (facts : Masks) (parts : List (List ℕ)) (rows : ℕ) → IsFacts facts → rows ≡ length facts → ArePartsAbove facts parts rows → AreParts facts parts
all_rows facts parts rows is e a = record {
  each = a.each;
  ordered = a.ordered;
  all = λ row col o. a.all row col (let i = open_inside facts row col is o in omega (arith, i.0)) o;
}

-- ---- all parts of facts, in the order of their first cells, are one list

not_both_ways : (row col r c : ℕ) → IsBefore row col r c → IsBefore r c row col → ⊥
not_both_ways row col r c (inl l) (inl m) = absurd (omega arith)
not_both_ways row col r c (inl l) (inr e) = absurd (let f = e.0 in omega arith)
not_both_ways row col r c (inr e) (inl m) = absurd (let f = e.0 in omega arith)
not_both_ways row col r c (inr e) (inr f) = absurd (let x = e.1 in let y = f.1 in omega arith)

pub has_first : (facts : Masks) (cells : List ℕ) (p : IsPart facts cells) → HasCell cells p.row p.col
has_first facts cells p = (p.from.members p.row p.col).1 (begins p.from.is_open)

within_part : (facts : Masks) (one other : List ℕ) (row col r c : ℕ) → IsPart facts one → IsPart facts other → HasCell one row col → HasCell other row col → HasCell one r c → HasCell other r c
within_part facts one other row col r c p q h k x =
    part_has facts other row col r c q k (chain_on facts row col p.row p.col r c (chain_back facts p.row p.col row col ((p.from.members row col).0 h)) ((p.from.members r c).0 x))

-- parts that share a cell are equal
pub same_part : SameCellsAreEqual → (facts : Masks) (one other : List ℕ) (row col : ℕ) → IsPart facts one → IsPart facts other → HasCell one row col → HasCell other row col → one ≡ other
same_part same facts one other row col p q h k =
    same one other p.from.set q.from.set (λ r c l m. (within_part facts one other row col r c p q h k, within_part facts other one row col r c q p k h))

-- the place of a part in another list
record Match (a b : List (List ℕ)) (i : ℕ) : Type 0 where
  place : ℕ
  within : place < length b
  same : part_at a i ≡ part_at b place

module _ (same : SameCellsAreEqual) (facts : Masks) where
  match_of : (a b : List (List ℕ)) → AreParts facts a → AreParts facts b → (i : ℕ) → i < length a → Match a b i
  match_of a b p q i l =
      let part = p.each i l in
      let held = q.all part.row part.col part.from.is_open in
      record {
        place = held.0;
        within = held.1.0;
        same = same_part same facts (part_at a i) (part_at b held.0) part.row part.col part (q.each held.0 held.1.0) (has_first facts (part_at a i) part) held.1.1;
      }

  -- equal parts of one list have one place
  one_place : (a : List (List ℕ)) → AreParts facts a → (i j : ℕ) → i < length a → j < length a → part_at a i ≡ part_at a j → i ≡ j
  one_place a p i j l m e =
      let part = p.each i l in
      let h = has_first facts (part_at a i) part in
      one_part_each facts a p i j part.row part.col l m h (subst (λ (cells : List ℕ). HasCell cells part.row part.col) e h)

  in_order : (a b : List (List ℕ)) → AreParts facts a → AreParts facts b → (i j : ℕ) → i < j → j < length a → (m : Match a b i) → (n : Match a b j) → m.place < n.place
  in_order a b p q i j l k m n = elim (cases_lt m.place n.place) [
    | inl less ↦ less
    | inr no_less ↦ elim (cases_lt n.place m.place) [
      | inl more ↦ absurd (
          let one = p.each i (omega arith) in
          let two = p.each j k in
          let P : ℕ → ℕ → List ℕ → Type 0 = λ row col cells. IsPartFrom facts cells row col in
          not_both_ways one.row one.col two.row two.col
          (p.ordered i j one.row one.col two.row two.col l k one.from two.from)
          (q.ordered n.place m.place two.row two.col one.row one.col more m.within (subst (P two.row two.col) n.same two.from) (subst (P one.row one.col) m.same one.from)))
      | inr no_more ↦ absurd (
          let there : m.place ≡ n.place = omega arith in
          let e = one_place a p i j (omega arith) k (m.same ∙ (ap (part_at b) there ∙ sym n.same)) in
          omega arith)
    ]
  ]

  at_least : (a b : List (List ℕ)) → AreParts facts a → AreParts facts b → (i : ℕ) → i < length a → (m : Match a b i) → i ≤ m.place
  at_least a b p q zero l m = omega arith
  at_least a b p q (suc i) l m =
      let before = match_of a b p q i (omega arith) in
      let low = at_least a b p q i (omega arith) before in
      let more = in_order a b p q i (suc i) (omega arith) l before m in
      omega arith

  at_same : (a b : List (List ℕ)) → AreParts facts a → AreParts facts b → (i : ℕ) → i < length a → (m : Match a b i) → m.place ≡ i
  at_same a b p q i l m =
      let back = match_of b a q p m.place m.within in
      let e = one_place a p i back.place l back.within (m.same ∙ back.same) in
      let low = at_least a b p q i l m in
      let high = at_least b a q p m.place m.within back in
      omega arith

  no_longer : (a b : List (List ℕ)) → AreParts facts a → AreParts facts b → length b ≤ length a
  no_longer a b p q = elim (cases_lt (length a) (length b)) [
    | inl l ↦ absurd (
        let m = match_of b a q p (length a) l in
        let low = at_least b a q p (length a) l m in
        omega arith)
    | inr n ↦ n
  ]

  one_list : (a b : List (List ℕ)) → AreParts facts a → AreParts facts b → a ≡ b
  one_list a b p q =
      let x = no_longer a b p q in
      let y = no_longer b a q p in
      ext_get_or [] a b (omega arith) (λ i l. let m = match_of a b p q i l in m.same ∙ ap (part_at b) (at_same a b p q i l m))

pub all_one_list : PartsAreOneList
all_one_list facts parts others p q = one_list same_cells_are_equal facts parts others p q
