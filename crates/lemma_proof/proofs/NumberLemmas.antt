-- Givens by their numbers, in the order of rows.
use Rattle.std.proofs.Common.{◌≡◌, ◌⊎◌, ℕ, ◌+◌, ◌-◌, ◌*◌, ◌<◌, ◌≤◌, List, [], ◌∷◌, ◌++◌, append_assoc, length, refl, sym, ap, subst, ◌∙◌, arith, inl, inr}
use Rattle.std.proofs.lemmas.Bool.{cases_lt}
use Rattle.std.proofs.lemmas.List.{append-nil}
use Rattle.std.proofs.lemmas.List.Elements.{Contains-append_left, Contains-push, Contains-push_cases}
use Rattle.std.specs.List.{AllByRecursion, Contains}
use Rattle.picture.specs.CellSet.{HasCell}
use Rattle.picture.specs.Document.{AreInside}
use Rattle.picture.specs.Rows.{width_of, Rows}
use Rattle.cert_text.specs.declared.cert_line.CellNumber.{CellNumber}
use Rattle.cert_text.specs.Cert.{AreOrdered, rank}
use Rattle.lemma_proof.specs.Naming.{NamesGivens, NamesUpTo}
use Rattle.cert_check.proofs.AmongLemmas.{among_first, among_rest}
use Rattle.cert_check.specs.Puzzle.{HasCellNumber, numbered}

less_ordered : (a b : ℕ) (cells : List CellNumber) → a ≤ b → AreOrdered b cells → AreOrdered a cells
less_ordered a b [] l o = tt
less_ordered a b (cell ∷ cells) l o = (o.0, o.1, (let q = o.2 in let p : a < rank cell + 1 = omega arith in p), o.3)

among_parts : (x y : CellNumber) (xs : List CellNumber) → Contains (xs ++ (y ∷ [])) x → Contains xs x ⊎ (x ≡ y)
among_parts x y xs m = elim (Contains-push_cases xs y x m) [ inl h ↦ inl h | inr e ↦ inr (sym e) ]

none_among : (x : CellNumber) → Contains [] x → ⊥
none_among x m = let l = m.1 in absurd (omega arith)

same_place : (r c row col : ℕ) → numbered r c ≡ numbered row col → (r ≡ row) × (c ≡ col)
same_place r c row col e =
    let f : r + 1 ≡ row + 1 = ap (λ (cell : CellNumber). cell.row) e in
    let g : c + 1 ≡ col + 1 = ap (λ (cell : CellNumber). cell.col) e in
    ((let h : r ≡ row = omega arith in h), (let h : c ≡ col = omega arith in h))

-- a cell's number has these parts
pub same_number : (cell : CellNumber) (row col : ℕ) → cell.row ≡ row + 1 → cell.col ≡ col + 1 → cell ≡ numbered row col
same_number cell row col e f =
    ap (λ (x : ℕ). let it : CellNumber = record { row = x; col = cell.col } in it) e ∙ ap (λ (y : ℕ). let it : CellNumber = record { row = row + 1; col = y } in it) f

pub none_named : (givens : List ℕ) → NamesUpTo givens 0 0 []
none_named givens = record {
  ordered = λ more o. less_ordered 0 1001 more (omega arith) o;
  named = λ r c. ((λ h. absurd (none_among (numbered r c) h)), (λ h. elim h.1 [ inl l ↦ absurd (omega arith) | inr p ↦ let l = p.1 in absurd (omega arith) ]));
  real = λ cell h. absurd (none_among cell h);
}

-- one given more
pub more_named : (givens : List ℕ) (row col : ℕ) (cells new : List CellNumber) → row < 120 → col < 120 → HasCell givens row col → new ≡ cells ++ (numbered row col ∷ [])
    → NamesUpTo givens row col cells → NamesUpTo givens row (col + 1) new
more_named givens row col cells new h w has e n =
    let P : List CellNumber → Type 0 = NamesUpTo givens row (col + 1) in
    let cell = numbered row col in
    subst P (sym e) (record {
      ordered = λ more o.
          let Q : List CellNumber → Type 0 = AreOrdered 0 in
          let R : ℕ → Type 0 = λ least. AreOrdered least more in
          let short_row : row + 1 < 1000 = omega arith in
          let short_col : col + 1 < 1000 = omega arith in
          let behind : (row + 1) * 1000 + (col + 1) < (row + 1) * 1000 + (col + 1) + 1 = omega arith in
          subst Q (sym (append_assoc cells (cell ∷ []) more))
          (n.ordered (cell ∷ more) (short_row, short_col, behind, subst R (let q : (row + 1) * 1000 + (col + 1 + 1) ≡ (row + 1) * 1000 + (col + 1) + 1 = omega arith in q) o));
      named = λ r c. (
        (λ h. elim (among_parts (numbered r c) cell cells h) [
          | inl m ↦ let k = (n.named r c).0 m in (k.0, elim k.1 [ inl l ↦ inl l | inr p ↦ inr (p.0, (let l = p.1 in let q : c < col + 1 = omega arith in q)) ])
          | inr f ↦
              let s = same_place r c row col f in
              (rw (s.0, s.1) has, inr (s.0, (let t = s.1 in let q : c < col + 1 = omega arith in q)))
        ]),
        (λ h. by_place r c h.0 h.1),
      );
      real = λ x h. elim (among_parts x cell cells h) [ inl m ↦ n.real x m | inr f ↦ (row, (col, f)) ];
    })
  where
    by_place : (r c : ℕ) → HasCell givens r c → (r < row) ⊎ ((r ≡ row) × (c < col + 1)) → Contains (cells ++ (numbered row col ∷ [])) (numbered r c)
    by_place r c g (inl l) = Contains-append_left cells (numbered row col ∷ []) (numbered r c) ((n.named r c).1 (g, inl l))
    by_place r c g (inr p) = elim (cases_lt c col) [
      | inl l ↦ Contains-append_left cells (numbered row col ∷ []) (numbered r c) ((n.named r c).1 (g, inr (p.0, l)))
      | inr k ↦
          let f : c ≡ col = (let l = p.1 in omega arith) in
          rw (p.0, f) (Contains-push cells (numbered row col))
    ]

-- a cell that is not given
pub same_named : (givens : List ℕ) (row col : ℕ) (cells : List CellNumber) → (HasCell givens row col → ⊥) → NamesUpTo givens row col cells → NamesUpTo givens row (col + 1) cells
same_named givens row col cells none n = record {
  ordered = λ more o. n.ordered more (less_ordered ((row + 1) * 1000 + (col + 1)) ((row + 1) * 1000 + (col + 1 + 1)) more (omega arith) o);
  named = λ r c. (
    (λ h. let k = (n.named r c).0 h in (k.0, elim k.1 [ inl l ↦ inl l | inr p ↦ inr (p.0, (let l = p.1 in let q : c < col + 1 = omega arith in q)) ])),
    (λ h. (n.named r c).1 (
      h.0,
      elim h.1 [
        | inl l ↦ inl l
        | inr p ↦ inr (
          p.0,
          elim (cases_lt c col) [
            | inl l ↦ l
            | inr k ↦
                let f : c ≡ col = (let l = p.1 in omega arith) in
                absurd (none (rw (p.0, f) at h.0))
          ],
        )
      ],
    )),
  );
  real = n.real;
}

-- one row more
pub row_named : (picture : Rows) (givens : List ℕ) (row width : ℕ) (cells : List CellNumber) → AreInside givens picture → width ≡ width_of picture → width ≤ 120 → NamesUpTo givens row width cells
    → NamesUpTo givens (row + 1) 0 cells
row_named picture givens row width cells inside wide few n = record {
  ordered = λ more o. n.ordered more (less_ordered ((row + 1) * 1000 + (width + 1)) ((row + 1 + 1) * 1000 + (0 + 1)) more (omega arith) o);
  named = λ r c. (
    (λ h. let k = (n.named r c).0 h in (k.0, elim k.1 [ inl l ↦ inl (let q : r < row + 1 = omega arith in q) | inr p ↦ inl (let e = p.0 in let q : r < row + 1 = omega arith in q) ])),
    (λ h. (n.named r c).1 (
      h.0,
      elim h.1 [
        | inl l ↦ elim (cases_lt r row) [
          | inl k ↦ inl k
          | inr k ↦ let i = inside r c h.0 in inr ((let q : r ≡ row = omega arith in q), (let w = i.1 in let q : c < width = omega arith in q))
        ]
        | inr p ↦ let l = p.1 in absurd (omega arith)
      ],
    )),
  );
  real = n.real;
}

each_inside : (picture : Rows) (cells : List CellNumber) → ((cell : CellNumber) → Contains cells cell → HasCellNumber picture cell) → AllByRecursion (HasCellNumber picture) cells
each_inside picture [] h = tt
each_inside picture (cell ∷ cells) h = (h cell (among_first cell cell cells refl), each_inside picture cells (λ c m. h c (among_rest c cell cells m)))

pub all_named : (picture : Rows) (givens : List ℕ) (height : ℕ) (cells : List CellNumber) → AreInside givens picture → height ≡ length picture → NamesUpTo givens height 0 cells
    → NamesGivens picture givens cells
all_named picture givens height cells inside tall n = record {
  ordered = subst (AreOrdered 0) (append-nil cells) (n.ordered [] tt);
  inside = each_inside picture cells (λ cell m.
      let p = n.real cell m in
      let k = (n.named p.0 p.1.0).0 (rw p.1.1 at m) in
      let i = inside p.0 p.1.0 k.0 in
      let r = i.0 in
      let c = i.1 in
      rw p.1.1 (
        (let q : 0 < p.0 + 1 = omega arith in q),
        (let q : p.0 + 1 ≤ length picture = omega arith in q),
        (let q : 0 < p.1.0 + 1 = omega arith in q),
        (let q : p.1.0 + 1 ≤ width_of picture = omega arith in q),
      ));
  named = λ r c. (
    (λ h. (n.named r c).1 (h, inl (let i = (inside r c h).0 in let q : r < height = omega arith in q))),
    (λ m. ((n.named r c).0 m).0),
  );
}

-- where no cell is given, no number is named
pub none_given : (picture : Rows) (givens : List ℕ) (cells : List CellNumber) → NamesGivens picture givens cells → ((row col : ℕ) → HasCell givens row col → ⊥) → cells ≡ []
none_given picture givens [] names none = refl
none_given picture givens (cell ∷ cells) names none =
    let inside = names.inside.0 in
    let above : 0 < cell.row = inside.0 in
    let left : 0 < cell.col = inside.2 in
    let row : cell.row ≡ cell.row - 1 + 1 = omega arith in
    let col : cell.col ≡ cell.col - 1 + 1 = omega arith in
    absurd (none (cell.row - 1) (cell.col - 1) ((names.named (cell.row - 1) (cell.col - 1)).1
    (among_first (numbered (cell.row - 1) (cell.col - 1)) cell cells (sym (same_number cell (cell.row - 1) (cell.col - 1) row col)))))

pub ruleset naming = (none_named, more_named, same_named, row_named, all_named)
