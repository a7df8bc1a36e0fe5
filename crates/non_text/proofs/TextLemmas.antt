-- The text of a picture, part by part.
use Rattle.std.proofs.Common.{◌≡◌, ℕ, ◌+◌, ◌-◌, ◌<◌, ◌≤◌, true, false, List, [], ◌∷◌, ◌++◌, length, get_or, take, drop, map, refl, sym, ap, ◌∙◌, arith, ◌&&◌, decimal, codes, leb}
use Rattle.std.specs.List.{flat_map, list_all}
use Rattle.std.proofs.lemmas.List.{at_drop_more, at_drop_all, append_assoc, append-nil, take_all}
use Rattle.picture.specs.Rows.{row_at, width_of, Rows}
use Rattle.clues.specs.declared.block.Block.{Block}
use Rattle.clues.specs.ClueBook.{clues_of}
use Rattle.non_text.specs.WrittenNon.{is_two_colour}
use Rattle.non_text.specs.Written.{clue_text, goal_text, non_text_of}

-- ---- rows one by one

pub two_colour_more : (rows : Rows) (i : ℕ) → i < length rows → list_all (λ cell. leb cell 1) (row_at rows i) ≡ true → is_two_colour (drop (i + 1) rows) ≡ is_two_colour (drop i rows)
two_colour_more rows i lt e = sym (at_drop_more is_two_colour rows i [] lt ∙ ap (λ t. t && is_two_colour (drop (i + 1) rows)) e)

pub two_colour_not : (rows : Rows) (i : ℕ) → i < length rows → list_all (λ cell. leb cell 1) (row_at rows i) ≡ false → is_two_colour (drop i rows) ≡ false
two_colour_not rows i lt e = at_drop_more is_two_colour rows i [] lt ∙ ap (λ t. t && is_two_colour (drop (i + 1) rows)) e

pub two_colour_all : (rows : Rows) (i : ℕ) → length rows ≤ i → is_two_colour (drop i rows) ≡ true
two_colour_all rows i le = at_drop_all is_two_colour rows i le

pub ruleset rows = (two_colour_more, two_colour_not, two_colour_all, append_assoc)

-- ---- clues

pub join-others : (b : Block) (blocks : List Block) → clue_text (b ∷ blocks) ≡ decimal b.len ++ flat_map (λ (other : Block). 44 ∷ decimal other.len) blocks
join-others b [] = sym (append-nil (decimal b.len))
join-others b (next ∷ blocks) = ap (λ (rest : List ℕ). decimal b.len ++ 44 ∷ rest) (join-others next blocks)

pub clue_text_none : (blocks : List Block) → length blocks ≡ 0 → clue_text blocks ≡ 48 ∷ []
clue_text_none [] e = refl
clue_text_none (b ∷ blocks) e = absurd (omega (arith, e))

pub clue_text_at : (blocks : List Block) (d : Block) → 0 < length blocks
    → clue_text blocks ≡ decimal (get_or blocks 0 d).len ++ flat_map (λ (other : Block). 44 ∷ decimal other.len) (take (length blocks - 1) (drop 1 blocks))
clue_text_at [] d some = absurd (omega (arith, some))
clue_text_at (b ∷ blocks) d some =
    join-others b blocks ∙ ap (λ (others : List Block). decimal b.len ++ flat_map (λ (other : Block). 44 ∷ decimal other.len) others) (sym (take_all (length (b ∷ blocks) - 1) blocks (omega arith)))

pub ruleset clue_texts = (clue_text_none, append_assoc)

-- ---- the whole

-- a line with the line feed that ends it
abbrev pub ended_line : List ℕ → List ℕ
ended_line line = line ++ 10 ∷ []

abbrev pub ended_clue : List Block → List ℕ
ended_clue clue = ended_line (clue_text clue)

clue_lines-append : (clues : List (List Block)) (lines : List (List ℕ)) → flat_map ended_line (map clue_text clues ++ lines) ≡ flat_map ended_clue clues ++ flat_map ended_line lines
clue_lines-append [] lines = refl
clue_lines-append (clue ∷ clues) lines =
    ap (λ (rest : List ℕ). ended_clue clue ++ rest) (clue_lines-append clues lines) ∙ sym (append_assoc (ended_clue clue) (flat_map ended_clue clues) (flat_map ended_line lines))

seven : (a b c d e f g : List ℕ) → a ++ (b ++ (c ++ (d ++ (e ++ (f ++ (g ++ [])))))) ≡ (((((([] ++ a) ++ b) ++ c) ++ d) ++ e) ++ f) ++ g
seven a b c d e f g = simp (append_assoc, append-nil)

-- the parts in the order in which they are put
pub text_is : (rows : Rows) → non_text_of rows
    ≡ (((((([] ++ ((codes "width " ++ decimal (width_of rows)) ++ 10 ∷ [])) ++ ((codes "height " ++ decimal (length rows)) ++ 10 ∷ [])) ++ codes "rows\n")
    ++ flat_map (λ clue. clue_text clue ++ 10 ∷ []) (clues_of rows).rows) ++ codes "columns\n") ++ flat_map (λ clue. clue_text clue ++ 10 ∷ []) (clues_of rows).columns)
    ++ (goal_text rows ++ 10 ∷ [])
unfolding non_text_of
text_is rows =
    let width = ended_line (codes "width " ++ decimal (width_of rows)) in
    let height = ended_line (codes "height " ++ decimal (length rows)) in
    let clues = clues_of rows in
    let goal = ended_line (goal_text rows) in
    let behind : List (List ℕ) = map clue_text clues.columns ++ goal_text rows ∷ [] in
    ap (λ (rest : List ℕ). width ++ (height ++ (codes "rows\n" ++ rest))) (clue_lines-append clues.rows (codes "columns" ∷ behind))
    ∙ ap (λ (rest : List ℕ). width ++ (height ++ (codes "rows\n" ++ (flat_map ended_clue clues.rows ++ (codes "columns\n" ++ rest))))) (clue_lines-append clues.columns (goal_text rows ∷ []))
    ∙ seven width height (codes "rows\n") (flat_map ended_clue clues.rows) (codes "columns\n") (flat_map ended_clue clues.columns) goal

pub ruleset texts = (append_assoc, text_is)
