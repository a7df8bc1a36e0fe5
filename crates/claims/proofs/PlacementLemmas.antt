-- Blocks that are placed on a line are its maximal runs.
use Rattle.std.proofs.Common.{◌≡◌, ◌≢◌, ◌⊎◌, ℕ, zero, suc, ◌+◌, ◌-◌, ◌<◌, ◌≤◌, List, [], ◌∷◌, ◌++◌, map, length, get_or, drop, replicate, refl, inl, inr, sym, ap, subst, ◌∙◌, arith}
use Rattle.std.specs.List.{All, AllPairs, Any}
use Rattle.std.proofs.lemmas.Bool.{cases_eq, cases_lt}
use Rattle.std.proofs.lemmas.List.{drop-drop, ext_get_or, get_or-drop, get_or-replicate, get_or_past, length-drop, length-replicate}
use Rattle.std.proofs.lemmas.List.Elements.{All-cons, All-head, All-nil, All-tail}
use Rattle.std.proofs.lemmas.List.Kept.{AllPairs-cons}
use Rattle.clues.specs.declared.block.Block.{Block}
use Rattle.clues.specs.Clue.{clue_of}
use Rattle.claims.specs.Placement.{AreApart, CanBePlaced, CluesCanBePlaced, Covers, Placed, StandsOn, end_of}
use Rattle.claims.specs.MaximalRuns.{AreRuns, HasEnded, IsFirstRun}
use Rattle.claims.proofs.MaximalRunLemmas.{maximal_runs}

-- ---- cells of a line

read_at : (line : List ℕ) (n c : ℕ) → n ≤ c → get_or line c 0 ≡ get_or (drop n line) (c - n) 0
read_at line n c le = let e : n + (c - n) ≡ c = omega arith in sym (get_or-drop n line (c - n) 0 ∙ ap (λ (i : ℕ). get_or line i 0) e)

segment : (cells : List ℕ) (n x : ℕ) → ((i : ℕ) → i < n → get_or cells i 0 ≡ x) → n ≤ length cells → cells ≡ replicate n x ++ drop n cells
segment cells zero x same within = refl
segment [] (suc n) x same within = absurd (omega (arith, within))
segment (c ∷ cells) (suc n) x same within =
    ap (λ (a : ℕ). a ∷ cells) (same 0 (omega arith))
    ∙ ap (λ (cs : List ℕ). x ∷ cs) (segment cells n x (λ i h. same (suc i) (omega (arith, h))) (omega (arith, within)))

in_replicate : (n x : ℕ) (rest : List ℕ) (i : ℕ) → i < n → get_or (replicate n x ++ rest) i 0 ≡ x
in_replicate zero x rest i lt = absurd (omega (arith, lt))
in_replicate (suc n) x rest zero lt = refl
in_replicate (suc n) x rest (suc i) lt = in_replicate n x rest i (omega (arith, lt))

drop_replicate : (n x : ℕ) (rest : List ℕ) → drop n (replicate n x ++ rest) ≡ rest
drop_replicate zero x rest = refl
drop_replicate (suc n) x rest = drop_replicate n x rest

-- ---- blocks that are placed from a place on

pub record StandFrom (line : List ℕ) (from : ℕ) (blocks : List Placed) : Type 0 where
  pub starts : All (λ (p : Placed). from ≤ p.start) blocks
  pub stand : All (StandsOn line) blocks
  pub apart : AllPairs AreApart blocks
  pub covered : (cell : ℕ) → from ≤ cell → get_or line cell 0 ≢ 0 → Any (Covers cell) blocks

covers_none : (cell : ℕ) → Any (Covers cell) [] → ⊥
covers_none cell (k, x, within, is, covers) = absurd (omega (arith, within))

covers_first : (cell : ℕ) (p : Placed) (ps : List Placed) → Any (Covers cell) (p ∷ ps) → Covers cell p ⊎ Any (Covers cell) ps
covers_first cell p ps (zero, x, within, is, covers) = inl (subst (λ (q : Placed). Covers cell q) (sym is) covers)
covers_first cell p ps (suc k, x, within, is, covers) = inr (k, x, (let w = within in omega arith), is, covers)

apart_first : (p : Placed) (ps : List Placed) → AllPairs AreApart (p ∷ ps) → All (AreApart p) ps
apart_first p ps apart k d within = apart 0 (suc k) d (omega arith) (omega (arith, within))

apart_rest : (p : Placed) (ps : List Placed) → AllPairs AreApart (p ∷ ps) → AllPairs AreApart ps
apart_rest p ps apart i j d lt within = apart (suc i) (suc j) d (omega (arith, lt)) (omega (arith, within))

rest_from : (line : List ℕ) (from : ℕ) (p : Placed) (ps : List Placed) → StandFrom line from (p ∷ ps) → StandFrom line (end_of p) ps
rest_from line from p ps s = record {
  starts = λ k d within. (apart_first p ps s.apart k d within).in_order;
  stand = All-tail (StandsOn line) p ps s.stand;
  apart = apart_rest p ps s.apart;
  covered = λ cell past coloured.
      let first : from ≤ p.start = All-head (λ (p : Placed). from ≤ p.start) p ps s.starts in
      elim (covers_first cell p ps (s.covered cell (omega arith) coloured)) [
        | inl c ↦ absurd (let b = c.below in omega arith)
        | inr rest ↦ rest
      ];
}

-- ---- placed blocks are runs

has_ended : (colour : ℕ) (cells : List ℕ) → get_or cells 0 0 ≢ colour → HasEnded colour cells
has_ended colour [] differs = tt
has_ended colour (next ∷ cells) differs = differs

within_line : (line : List ℕ) (p : Placed) → StandsOn line p → end_of p ≤ length line
within_line line p stands =
    elim (cases_lt (length line) (end_of p)) [
      | inr le ↦ omega (arith, le)
      | inl lt ↦
          let last = p.start + (p.block.len - 1) in
          let some = stands.has_cells in
          absurd (stands.has_colour (sym (stands.cells last (record { from = omega arith; below = omega arith })) ∙ get_or_past line last 0 (omega arith)))
    ]

ends_there : (line : List ℕ) (from : ℕ) (p : Placed) (ps : List Placed) → StandFrom line from (p ∷ ps) → get_or line (end_of p) 0 ≢ p.block.colour
ends_there line from p ps s e =
    let here = All-head (StandsOn line) p ps s.stand in
    let rest = rest_from line from p ps s in
    next (rest.covered (end_of p) (omega arith) (λ z. here.has_colour (sym e ∙ z))) where
      next : Any (Covers (end_of p)) ps → ⊥
      next (k, x, within, is, covers) =
          let apart : AreApart p x = subst (λ (q : Placed). AreApart p q) is (apart_first p ps s.apart k x within) in
          let stands : StandsOn line x = subst (λ (q : Placed). StandsOn line q) is (All-tail (StandsOn line) p ps s.stand k x within) in
          let gap = apart.has_gap (sym e ∙ stands.cells (end_of p) covers) in
          let from = covers.from in
          absurd (omega arith)

all_background : (line : List ℕ) (from : ℕ) → StandFrom line from [] → drop from line ≡ replicate (length (drop from line)) 0
all_background line from s =
    let n = length (drop from line) in
    ext_get_or 0 (drop from line) (replicate n 0) (sym (length-replicate n 0)) (λ i h. get_or-drop from line i 0 ∙ (none i ∙ sym (get_or-replicate n i 0 0 h))) where
      none : (i : ℕ) → get_or line (from + i) 0 ≡ 0
      none i = elim (cases_eq (get_or line (from + i) 0) 0) [
        | inl e ↦ e
        | inr d ↦ absurd (covers_none (from + i) (s.covered (from + i) (omega arith) d))
      ]

before_first : (line : List ℕ) (from : ℕ) (p : Placed) (ps : List Placed) → StandFrom line from (p ∷ ps) → (cell : ℕ) → from ≤ cell → cell < p.start → get_or line cell 0 ≡ 0
before_first line from p ps s cell past before = elim (cases_eq (get_or line cell 0) 0) [
  | inl e ↦ e
  | inr d ↦ elim (covers_first cell p ps (s.covered cell past d)) [
    | inl c ↦ absurd (let a = c.from in omega arith)
    | inr rest ↦ absurd (later rest)
  ]
] where
  later : Any (Covers cell) ps → ⊥
  later (k, x, within, is, covers) =
      let apart : AreApart p x = subst (λ (q : Placed). AreApart p q) is (apart_first p ps s.apart k x within) in
      let a = apart.in_order in
      let c = covers.from in
      absurd (omega arith)

first_run : (line : List ℕ) (from : ℕ) (p : Placed) (ps : List Placed) → StandFrom line from (p ∷ ps) → IsFirstRun (drop from line) p.block (drop (end_of p) line)
first_run line from p ps s =
    let here = All-head (StandsOn line) p ps s.stand in
    let first : from ≤ p.start = All-head (λ (p : Placed). from ≤ p.start) p ps s.starts in
    let within = within_line line p here in
    let gap = p.start - from in
    let len = p.block.len in
    let there : from + gap ≡ p.start = omega arith in
    let background = segment (drop from line) gap 0
    (λ i h. get_or-drop from line i 0 ∙ before_first line from p ps s (from + i) (omega arith) (omega (arith, h)))
    (omega (arith, length-drop from line)) in
    let coloured = segment (drop p.start line) len p.block.colour
    (λ i h. get_or-drop p.start line i 0 ∙ here.cells (p.start + i) (record { from = omega arith; below = omega (arith, h) }))
    (omega (arith, length-drop p.start line)) in
    record {
      gap = gap;
      cells =
          background
          ∙ ap (λ (cells : List ℕ). replicate gap 0 ++ cells)
          (drop-drop gap from line ∙ (ap (λ (n : ℕ). drop n line) there ∙ (coloured ∙ ap (λ (cells : List ℕ). replicate len p.block.colour ++ cells) (drop-drop len p.start line))));
      has_cells = here.has_cells;
      has_colour = here.has_colour;
      has_ended = has_ended p.block.colour (drop (end_of p) line) (λ e. ends_there line from p ps s
          (read_at line (end_of p) (end_of p) (omega arith) ∙ (ap (λ (i : ℕ). get_or (drop (end_of p) line) i 0) (let z : end_of p - end_of p ≡ 0 = omega arith in z) ∙ e)));
    }

are_runs : (line : List ℕ) (from : ℕ) (ps : List Placed) → StandFrom line from ps → AreRuns (drop from line) (map (λ p. p.block) ps)
are_runs line from [] s = all_background line from s
are_runs line from (p ∷ ps) s = (drop (end_of p) line, first_run line from p ps s, are_runs line (end_of p) ps (rest_from line from p ps s))

-- ---- runs can be placed

record PlacedFrom (line : List ℕ) (from : ℕ) (blocks : List Block) : Type 0 where
  placed : List Placed
  stand : StandFrom line from placed
  are : map (λ p. p.block) placed ≡ blocks

-- cells of a line whose rest is known
read_past : (line : List ℕ) (n i : ℕ) (cells : List ℕ) → drop n line ≡ cells → n ≤ i → get_or line i 0 ≡ get_or cells (i - n) 0
read_past line n i cells e le = read_at line n i le ∙ ap (λ (cs : List ℕ). get_or cs (i - n) 0) e

not_first : (colour : ℕ) (cells : List ℕ) → colour ≢ 0 → HasEnded colour cells → get_or cells 0 0 ≢ colour
not_first colour [] coloured ended e = coloured (sym e)
not_first colour (next ∷ cells) coloured ended e = ended e

in_background : (n i : ℕ) → get_or {A = ℕ} (replicate n 0) i 0 ≡ 0
in_background zero i = refl
in_background (suc n) zero = refl
in_background (suc n) (suc i) = in_background n i

no_blocks : (line : List ℕ) (from : ℕ) → drop from line ≡ replicate (length (drop from line)) 0 → PlacedFrom line from []
no_blocks line from all = record {
  placed = [];
  stand = record {
    starts = All-nil (λ (p : Placed). from ≤ p.start);
    stand = All-nil (StandsOn line);
    apart = λ i j d lt within. absurd (omega (arith, within));
    covered = λ cell past coloured. absurd (coloured (read_past line from cell (replicate (length (drop from line)) 0) all past ∙ in_background (length (drop from line)) (cell - from)));
  };
  are = refl;
}

-- the first run, and those after it
first_placed : (line : List ℕ) (from : ℕ) (run : Block) (runs : List Block) (rest : List ℕ) → (first : IsFirstRun (drop from line) run rest) → drop (from + first.gap + run.len) line ≡ rest
    → drop (from + first.gap) line ≡ replicate run.len run.colour ++ rest → PlacedFrom line (from + first.gap + run.len) runs → PlacedFrom line from (run ∷ runs)
first_placed line from run runs rest first at_end at_start others =
    let p : Placed = record { start = from + first.gap; block = run } in
    let ps = others.placed in
    record {
      placed = p ∷ ps;
      stand = record {
        starts = All-cons (λ (q : Placed). from ≤ q.start) p ps (omega arith) (λ k d within. let le = others.stand.starts k d within in omega arith);
        stand = All-cons (StandsOn line) p ps here others.stand.stand;
        apart = AllPairs-cons AreApart p ps after others.stand.apart;
        covered = covered;
      };
      are = ap (λ (blocks : List Block). run ∷ blocks) others.are;
    } where
      here : StandsOn line (record { start = from + first.gap; block = run })
      here = record {
        has_cells = first.has_cells;
        has_colour = first.has_colour;
        cells = λ cell covers.
            let a = covers.from in
            let b = covers.below in
            read_past line (from + first.gap) cell (replicate run.len run.colour ++ rest) at_start a
            ∙ in_replicate run.len run.colour rest (cell - (from + first.gap)) (omega arith);
      }

      differs : get_or line (from + first.gap + run.len) 0 ≢ run.colour
      differs e =
          let end = from + first.gap + run.len in
          let z : end - end ≡ 0 = omega arith in
          not_first run.colour rest first.has_colour first.has_ended (sym (ap (λ (i : ℕ). get_or rest i 0) z) ∙ (sym (read_past line end end rest at_end (omega arith)) ∙ e))

      apart : (q : Placed) → from + first.gap + run.len ≤ q.start → StandsOn line q → AreApart (record { start = from + first.gap; block = run }) q
      apart q le stands = record {
        in_order = le;
        has_gap = λ e. elim (cases_lt (from + first.gap + run.len) q.start) [
          | inl lt ↦ lt
          | inr ge ↦
              let some = stands.has_cells in
              absurd (differs (stands.cells (from + first.gap + run.len) (record { from = ge; below = omega arith }) ∙ sym e))
        ];
      }

      after : All (AreApart (record { start = from + first.gap; block = run })) others.placed
      after k d within = apart (get_or others.placed k d) (others.stand.starts k d within) (others.stand.stand k d within)

      later : (cell : ℕ) → Any (Covers cell) others.placed → Any (Covers cell) (record { start = from + first.gap; block = run } ∷ others.placed)
      later cell (k, x, within, is, covers) = (suc k, x, omega (arith, within), is, covers)

      covered : (cell : ℕ) → from ≤ cell → get_or line cell 0 ≢ 0 → Any (Covers cell) (record { start = from + first.gap; block = run } ∷ others.placed)
      covered cell past coloured = elim (cases_lt cell (from + first.gap)) [
        | inl lt ↦ absurd (coloured (read_past line from cell (replicate first.gap 0 ++ (replicate run.len run.colour ++ rest)) first.cells past
            ∙ in_replicate first.gap 0 (replicate run.len run.colour ++ rest) (cell - from) (omega (arith, lt))))
        | inr ge ↦ elim (cases_lt cell (from + first.gap + run.len)) [
          | inl below ↦ (0, record { start = from + first.gap; block = run }, omega arith, refl, record { from = ge; below = below })
          | inr beyond ↦ later cell (others.stand.covered cell beyond coloured)
        ]
      ]

can_place : (line : List ℕ) (from : ℕ) (blocks : List Block) → AreRuns (drop from line) blocks → PlacedFrom line from blocks
can_place line from [] all = no_blocks line from all
can_place line from (run ∷ runs) (rest, first, others) =
    let start = from + first.gap in
    let at_start = sym (drop-drop first.gap from line) ∙ (ap (λ (cells : List ℕ). drop first.gap cells) first.cells ∙ drop_replicate first.gap 0 (replicate run.len run.colour ++ rest)) in
    let at_end = sym (drop-drop run.len start line) ∙ (ap (λ (cells : List ℕ). drop run.len cells) at_start ∙ drop_replicate run.len run.colour rest) in
    let others_placed = can_place line (start + run.len) runs (subst (λ (cells : List ℕ). AreRuns cells runs) (sym at_end) others) in
    first_placed line from run runs rest first at_end at_start others_placed

-- ---- the law

placed_are_clue : (line : List ℕ) (blocks : List Block) → CanBePlaced line blocks → blocks ≡ clue_of line
placed_are_clue line blocks (placed, is, are) =
    let runs = are_runs line 0 placed (record { starts = λ k d within. omega arith; stand = is.stand; apart = is.apart; covered = λ cell past coloured. is.covered cell coloured }) in
    sym are ∙ (maximal_runs line (map (λ p. p.block) placed)).0 runs

clue_is_placed : (line : List ℕ) → CanBePlaced line (clue_of line)
clue_is_placed line =
    let from = can_place line 0 (clue_of line) ((maximal_runs line (clue_of line)).1 refl) in
    (from.placed, record { stand = from.stand.stand; apart = from.stand.apart; covered = λ cell coloured. from.stand.covered cell (omega arith) coloured }, from.are)

pub can_be_placed : CluesCanBePlaced
can_be_placed line blocks = (
  placed_are_clue line blocks,
  λ e. subst (λ (bs : List Block). CanBePlaced line bs) (sym e) (clue_is_placed line),
)
