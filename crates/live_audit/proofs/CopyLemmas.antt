-- What is known of the parts, carried to the same scene, stays the same.
use Rattle.std.proofs.Common.{◌≡◌, ℕ, ◌<◌, List, [], length, Result, Ok, Err, IfOk, refl, sym, ap, subst, ◌∙◌, arith}
use Rattle.std.proofs.lemmas.List.{ext_get_or, length-map}
use Rattle.line_facts.specs.Masks.{Masks}
use Rattle.picture.specs.Rows.{Rows}
use Rattle.picture.specs.CellSet.{HasCell}
use Rattle.clues.specs.ClueBook.{Clues}
use Rattle.second_search.specs.declared.keeper.Answer.{Answer}
use Rattle.second_search.specs.declared.keeper.Answer.TheVariants.{Filling, Nothing, Unknown}
use Rattle.second_search.specs.declared.keeper.KeptPart.{KeptPart}
use Rattle.second_search.specs.CarriedParts.{Carries, carried}
use Rattle.second_search.specs.JudgedParts.{HasNoFilling, IsFilling, answer_at, cells_at, kept_at, parts_of}
use Rattle.second_search.specs.Parts.{AreParts, IsPart, IsScene, KeepsLines, part_at, board}
use Rattle.second_search.proofs.GrowLemmas.{line_inside}
use Rattle.second_search.proofs.PartLemmas.{one_part_each, open_in_picture, part_open}
use Rattle.second_search.proofs.RowLemmas.{all_one_list, has_first}
use Rattle.second_search.proofs.VerdictLemmas.{each_is_part, part_of_kept}

-- each line through a part is the same in a scene and in itself
same_lines : (clues : Clues) (givens : List ℕ) (facts : Masks) (picture : Rows) (cells : List ℕ) → IsScene clues givens facts picture → IsPart facts cells
    → KeepsLines (board clues facts picture) (board clues facts picture) cells
same_lines clues givens facts picture cells scene part line through =
    let shown = part_open facts cells through.row through.col part through.has in
    let inside = open_in_picture clues givens facts picture through.row through.col scene shown in
    let has = line_inside picture through.row through.col inside.0 inside.1 line.axis line.at through.on_line in
    record { before = has; after = has; clue = refl; left = refl; shown = refl }

-- an answer without a filling is carried as it is
carried_so : (cells : List ℕ) (picture : Rows) (known : Answer) → (IsFilling known → ⊥) → carried cells picture known ≡ known
carried_so cells picture Unknown none = refl
carried_so cells picture Nothing none = refl
carried_so cells picture (Filling other) none = absurd (none tt)

record IsCopied (clues : Clues) (givens : List ℕ) (facts : Masks) (picture : Rows) (old new : List KeptPart) : Type 0 where
  scene : IsScene clues givens facts picture
  parts : AreParts facts (parts_of old)
  copied : AreParts facts (parts_of new)
  none : HasNoFilling old (length old)
  carries : Carries (board clues facts picture) (board clues facts picture) old new

same_list : (clues : Clues) (givens : List ℕ) (facts : Masks) (picture : Rows) (old new : List KeptPart) → IsCopied clues givens facts picture old new → parts_of new ≡ parts_of old
same_list clues givens facts picture old new c = all_one_list facts (parts_of new) (parts_of old) c.copied c.parts

same_length : (old new : List KeptPart) → parts_of new ≡ parts_of old → length new ≡ length old
same_length old new e =
    let before = length-map old (λ (part : KeptPart). part.cells) in
    let after = length-map new (λ (part : KeptPart). part.cells) in
    let both = ap length e in
    omega arith

same_cells : (old new : List KeptPart) → parts_of new ≡ parts_of old → (i : ℕ) → cells_at new i ≡ cells_at old i
same_cells old new e i = sym (part_of_kept new i) ∙ (ap (λ (parts : List (List ℕ)). part_at parts i) e ∙ part_of_kept old i)

same_answer : (clues : Clues) (givens : List ℕ) (facts : Masks) (picture : Rows) (old new : List KeptPart) → IsCopied clues givens facts picture old new → parts_of new ≡ parts_of old → (i : ℕ)
    → i < length new → answer_at new i ≡ answer_at old i
same_answer clues givens facts picture old new c e i l =
    let cells = cells_at new i in
    let count = same_length old new e in
    let part = each_is_part facts new c.copied i l in
    let known = (c.carries i l).keeps (same_lines clues givens facts picture cells c.scene part) in
    let kept = known.1.0 in
    let first = has_first facts cells part in
    let P : List ℕ → Type 0 = λ x. HasCell x part.row part.col in
    let there : P (part_at (parts_of old) kept.at) = subst P (sym (part_of_kept old kept.at ∙ kept.cells_are)) first in
    let here : P (part_at (parts_of old) i) = subst P (sym (part_of_kept old i ∙ sym (same_cells old new e i))) first in
    let all = length-map old (λ (part : KeptPart). part.cells) in
    let place = kept.place in
    let same : kept.at ≡ i = one_part_each facts (parts_of old) c.parts kept.at i part.row part.col (omega arith) (omega arith) there here in
    let none : IsFilling known.0 → ⊥ = λ f. c.none kept.at kept.place (subst IsFilling (sym kept.answer_is) f) in
    known.1.1 ∙ (carried_so cells picture known.0 none ∙ (sym kept.answer_is ∙ ap (answer_at old) same))

same_part : (old new : List KeptPart) (i : ℕ) → cells_at new i ≡ cells_at old i → answer_at new i ≡ answer_at old i → kept_at new i ≡ kept_at old i
same_part old new i c a =
    let first : kept_at new i ≡ record { cells = cells_at old i; answer = answer_at new i } = ap (λ (x : List ℕ). record { cells = x; answer = answer_at new i }) c in
    let next : record { cells = cells_at old i; answer = answer_at new i } ≡ kept_at old i = ap (λ (x : Answer). record { cells = cells_at old i; answer = x }) a in
    first ∙ next

-- where no filling is kept, what is carried to the same scene is the same
pub copied : (clues : Clues) (givens : List ℕ) (facts : Masks) (picture : Rows) (old new : List KeptPart) → IsScene clues givens facts picture → AreParts facts (parts_of old)
    → AreParts facts (parts_of new) → HasNoFilling old (length old) → Carries (board clues facts picture) (board clues facts picture) old new → new ≡ old
copied clues givens facts picture old new scene parts again none carries =
    let c : IsCopied clues givens facts picture old new = record { scene = scene; parts = parts; copied = again; none = none; carries = carries } in
    let e = same_list clues givens facts picture old new c in
    ext_get_or (record { cells = []; answer = Unknown }) new old (same_length old new e) (λ i l. same_part old new i (same_cells old new e i) (same_answer clues givens facts picture old new c e i l))

-- the same for what a call answers
pub copied_by : {X : Type 0} (clues : Clues) (givens : List ℕ) (facts : Masks) (picture : Rows) (seen : List (List ℕ)) (old : List KeptPart) (r : Result (List KeptPart) X) → seen ≡ facts
    → IsScene clues givens seen picture → AreParts facts (parts_of old) → HasNoFilling old (length old)
    → IfOk r (λ new. AreParts seen (parts_of new)) → IfOk r (Carries (board clues seen picture) (board clues seen picture) old) → IfOk r (λ new. new ≡ old)
copied_by clues givens facts picture seen old (Ok new) e scene parts none again carries =
    copied clues givens seen picture old new scene (subst (λ (x : List (List ℕ)). AreParts x (parts_of old)) (sym e) parts) again none carries
copied_by clues givens facts picture seen old (Err x) e scene parts none again carries = tt
