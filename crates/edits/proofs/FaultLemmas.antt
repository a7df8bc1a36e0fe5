-- What holds of a lawful edit, and when two documents are the same.
use Rattle.std.proofs.Common.{◌≡◌, ◌≢◌, ℕ, Bool, true, false, cond, ◌&&◌, Option, Some, None, option_map, List, [], ◌∷◌, ◌++◌, eqb, refl, sym, ap, ◌∙◌}
use Rattle.std.specs.List.{find}
use Rattle.std.specs.Bool.{Decides}
use Rattle.std.specs.Cmp.Lexicographic.{pointwise}
use Rattle.std.proofs.lemmas.Bool.{false_from_ne_true}
use Rattle.std.proofs.lemmas.Bool.Decides.{Decides-eqb, Decides-and, Decides-like}
use Rattle.std.proofs.lemmas.Slice.Eq.{slice_eq-Decides}
use Rattle.picture.specs.declared.rgb.Rgb.{Rgb}
use Rattle.picture.specs.Palette.{Colours, rgb_eq}
use Rattle.edits.specs.declared.edit.Edit.{Edit}
use Rattle.edits.specs.declared.fault.EditFault.{EditFault}
use Rattle.edits.specs.Design.{Design, IsDesign}
use Rattle.edits.specs.Note.{Note, IsEntry, note_for}
use Rattle.edits.specs.Edit.{edited}
use Rattle.edits.specs.declared.edit.Edit.TheVariants.{Paint, Fill, Recolour, InsertLine, DeleteLine, SwapLines, AddColour, SetColour, Pin, Unpin}
use Rattle.edits.specs.declared.fault.EditFault.TheVariants.{Place, Colour, TooLarge, LastLine, SampleOver, PaletteFull, DuplicateColour, Background, NoChange}
use Rattle.edits.specs.Conditions.{is_outside, lacks_colour, has_no_room, deletes_last, is_over, is_full, is_there, sets_background}
use Rattle.edits.specs.Fault.{edit_fault, faults_of, same_design}

-- ---- the conditions, one after another

abbrev Asked : Type 0
Asked = Bool × EditFault

-- the first error whose condition holds
abbrev first_fault : List Asked → Option EditFault
first_fault [] = None
first_fault (f ∷ faults) = cond f.0 (Some f.1) (first_fault faults)

first_found : (faults : List Asked) → option_map (λ (f : Asked). f.1) (find (λ (f : Asked). f.0) faults) ≡ first_fault faults
first_found [] = refl
first_found (f ∷ faults) = by_test f.0 (first_found faults)
  where
    by_test : (b : Bool) → option_map (λ (g : Asked). g.1) (find (λ (g : Asked). g.0) faults) ≡ first_fault faults
        → option_map (λ (g : Asked). g.1) (cond b (Some f) (find (λ (g : Asked). g.0) faults)) ≡ cond b (Some f.1) (first_fault faults)
    by_test true e = refl
    by_test false e = e

-- the conditions asked in turn, each over all edits
abbrev pub in_turn : Design → Edit → Option EditFault
in_turn d e =
    cond (is_outside d.rows e) (Some Place)
    (cond (lacks_colour d.colours e) (Some Colour)
    (cond (has_no_room d.rows e) (Some TooLarge)
    (cond (deletes_last d.rows e) (Some LastLine)
    (cond (is_over d.colours e) (Some SampleOver)
    (cond (is_full d.colours e) (Some PaletteFull)
    (cond (is_there d.colours e) (Some DuplicateColour)
    (cond (sets_background e) (Some Background)
    (cond (same_design (edited d e) d) (Some NoChange) None))))))))

abbrev all_faults : Design → Edit → List Asked
all_faults d e = faults_of d e ++ (same_design (edited d e) d, NoChange) ∷ []

pub asked_in_turn : (d : Design) (e : Edit) → edit_fault d e ≡ in_turn d e
asked_in_turn d (Paint row col colour) = first_found (all_faults d (Paint row col colour))
asked_in_turn d (Fill top left bottom right colour) = first_found (all_faults d (Fill top left bottom right colour))
asked_in_turn d (Recolour source target) = first_found (all_faults d (Recolour source target))
asked_in_turn d (InsertLine line) = first_found (all_faults d (InsertLine line))
asked_in_turn d (DeleteLine line) = first_found (all_faults d (DeleteLine line))
asked_in_turn d (SwapLines axis first second) = first_found (all_faults d (SwapLines axis first second))
asked_in_turn d (AddColour rgb) = first_found (all_faults d (AddColour rgb))
asked_in_turn d (SetColour colour rgb) = first_found (all_faults d (SetColour colour rgb))
asked_in_turn d (Pin row col) = first_found (all_faults d (Pin row col))
asked_in_turn d (Unpin row col) = first_found (all_faults d (Unpin row col))

-- the conditions of errors, of which none holds
pub record IsLawful (d : Design) (e : Edit) : Type 0 where
  pub inside : is_outside d.rows e ≡ false
  pub coloured : lacks_colour d.colours e ≡ false
  pub room : has_no_room d.rows e ≡ false
  pub others : deletes_last d.rows e ≡ false
  pub in_range : is_over d.colours e ≡ false
  pub not_full : is_full d.colours e ≡ false
  pub not_there : is_there d.colours e ≡ false
  pub no_background : sets_background e ≡ false
  pub changes : same_design (edited d e) d ≡ false

passes : (b : Bool) (f : EditFault) (rest : Option EditFault) → cond b (Some f) rest ≡ None → (b ≡ false) × (rest ≡ None)
passes true f rest e = absurd (cc e)
passes false f rest e = (refl, e)

pub lawful : (d : Design) (e : Edit) → edit_fault d e ≡ None → IsLawful d e
lawful d e none =
    let a = passes _ _ _ (sym (asked_in_turn d e) ∙ none) in
    let b = passes _ _ _ a.1 in
    let c = passes _ _ _ b.1 in
    let g = passes _ _ _ c.1 in
    let h = passes _ _ _ g.1 in
    let i = passes _ _ _ h.1 in
    let j = passes _ _ _ i.1 in
    let k = passes _ _ _ j.1 in
    let l = passes _ _ _ k.1 in
    record { inside = a.0; coloured = b.0; room = c.0; others = g.0; in_range = h.0; not_full = i.0; not_there = j.0; no_background = k.0; changes = l.0 }

-- tests of sameness
same_rgb : (a b : Rgb) → a.r ≡ b.r → a.g ≡ b.g → a.b ≡ b.b → a ≡ b
same_rgb a b r g bl = λ i. record { r = r i; g = g i; b = bl i }

pub rgb_decides : (a b : Rgb) → Decides (rgb_eq a b) (a ≡ b)
rgb_decides a b =
    Decides-like (rgb_eq a b) (λ same. same_rgb a b same.0 same.1.0 same.1.1) (λ e. (ap (λ (c : Rgb). c.r) e, (ap (λ (c : Rgb). c.g) e, ap (λ (c : Rgb). c.b) e)))
    (Decides-and (eqb a.r b.r) (eqb a.g b.g && eqb a.b b.b) (Decides-eqb a.r b.r) (Decides-and (eqb a.g b.g) (eqb a.b b.b) (Decides-eqb a.g b.g) (Decides-eqb a.b b.b)))

rows_decide : (a b : List (List ℕ)) → Decides (pointwise (pointwise eqb) a b) (a ≡ b)
rows_decide a b = slice_eq-Decides (λ x y. slice_eq-Decides Decides-eqb x y (pointwise eqb x y) refl) a b (pointwise (pointwise eqb) a b) refl

same_colours : (a b : Colours) → a.maxval ≡ b.maxval → a.triples ≡ b.triples → a ≡ b
same_colours a b maxval triples = λ i. record { maxval = maxval i; triples = triples i }

pub same_parts : (a b : Design) → a.colours ≡ b.colours → a.rows ≡ b.rows → a.marks ≡ b.marks → a ≡ b
same_parts a b colours rows marks = λ i. record { colours = colours i; rows = rows i; marks = marks i }

pub same_design_decides : (a b : Design) → Decides (same_design a b) (a ≡ b)
same_design_decides a b =
    let triples = slice_eq-Decides rgb_decides a.colours.triples b.colours.triples (pointwise rgb_eq a.colours.triples b.colours.triples) refl in
    Decides-like (same_design a b)
    (λ same. same_parts a b (same_colours a.colours b.colours same.0.0 same.0.1) same.1.0 same.1.1)
    (λ e. ((ap (λ (d : Design). d.colours.maxval) e, ap (λ (d : Design). d.colours.triples) e), (ap (λ (d : Design). d.rows) e, ap (λ (d : Design). d.marks) e)))
    (Decides-and _ _ (Decides-and _ _ (Decides-eqb a.colours.maxval b.colours.maxval) triples) (Decides-and _ _ (rows_decide a.rows b.rows) (rows_decide a.marks b.marks)))

pub same_when : (a b : Design) → a ≡ b → same_design a b ≡ true
same_when a b e = (same_design_decides a b).1 e

pub other_when : (a b : Design) → a ≢ b → same_design a b ≡ false
other_when a b other = false_from_ne_true (same_design a b) (λ same. other ((same_design_decides a b).0 same))

pub differs : (a b : Design) → same_design a b ≡ false → a ≢ b
differs a b e same = absurd (cc (e, same_when a b same))

pub entry_of : (d : Design) (e : Edit) (n : Note) → IsDesign d → edit_fault d e ≡ None → n ≡ note_for d e → IsEntry d n
entry_of d e n is none kept =
    let same : n.edit ≡ e = ap (λ (m : Note). m.edit) kept in
    record { is_design = is; lawful = ap (edit_fault d) same ∙ none; kept = kept ∙ ap (note_for d) (sym same) }
