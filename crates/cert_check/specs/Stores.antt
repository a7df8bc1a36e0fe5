-- A store of lemmas: the literals of all of them in one list, and for each lemma its part of the list.
use Rattle.std.specs.Prelude.{◌≡◌, ℕ, ◌+◌, ◌-◌, ◌*◌, ◌<◌, ◌≤◌, Bool, true, false, List, length, get_or, take, drop, map}
use Rattle.std.specs.Prelude.{Option, None, Some}
use Rattle.cert_text.specs.declared.cert_line.Literal.{Literal}
use Rattle.cert_text.specs.declared.cert_line.TheConstants.{MAX_LEMMA_LITERALS, MAX_LITERALS}
use Rattle.cert_check.specs.declared.span.Span.{Span}
use Rattle.cert_check.specs.Lemmas.{Lemmas, total}

-- the lemmas that are kept, the literals of the one that is being proved, for how many more literals and lemmas there is
-- room, and the size of the picture
pub record Stored : Type 0 where
  pub lemmas : Lemmas
  pub denied : List Literal
  pub literals : ℕ
  pub spare : ℕ
  pub height : ℕ
  pub width : ℕ

abbrev pub stored : Lemmas → List Literal → ℕ → ℕ → ℕ → ℕ → Stored
stored lemmas denied literals spare height width =
    record {
      lemmas = lemmas;
      denied = denied;
      literals = literals;
      spare = spare;
      height = height;
      width = width;
    }

-- the literal's cell lies in a picture of this size, and has this place in the list of all cells, row after row
pub record IsPlace (height width : ℕ) (literal : Literal) (place : ℕ) : Type 0 where
  pub in_rows : literal.cell.row - 1 < height
  pub in_columns : literal.cell.col - 1 < width
  pub at : place ≡ (literal.cell.row - 1) * width + (literal.cell.col - 1)

-- these are the places of these literals
pub record ArePlaces (height width : ℕ) (literals : List Literal) (places : List ℕ) : Type 0 where
  pub count : length places ≡ length literals
  pub each : (i : ℕ) (d : Literal) → i < length literals
      → IsPlace height width (get_or literals i d) (get_or places i 0)

abbrev pub if_kept : Bool → List Literal → Option (List Literal)
if_kept true literals = Some literals
if_kept false literals = None

-- the lemma of a part of the list, if it is kept
abbrev pub lemma_in : List Literal → Span → Option (List Literal)
lemma_in literals span = if_kept span.kept (take span.len (drop span.start literals))

abbrev pub lemmas_in : List Literal → List Span → Lemmas
lemmas_in literals spans = map (lemma_in literals) spans

-- a lemma's part ends before the literals of the lemma that is being proved, and is no longer than a lemma may be
pub record EndsBefore (newest : ℕ) (span : Span) : Type 0 where
  pub inside : span.start + span.len ≤ newest
  pub short : span.len ≤ MAX_LEMMA_LITERALS

-- The parts lie in the list, from `newest` on it has the literals of the lemma that is being proved, and `count` is how
-- many literals the lemmas have with it.
pub record IsStore (literals : List Literal) (spans : List Span) (newest count : ℕ) : Type 0 where
  pub newest_inside : newest ≤ length literals
  pub newest_short : length literals ≤ newest + MAX_LEMMA_LITERALS
  pub each : (i : ℕ) (d : Span) → i < length spans → EndsBefore newest (get_or spans i d)
  pub count_is : count + newest ≡ total (lemmas_in literals spans) + length literals
  pub few : count ≤ MAX_LITERALS
