use Rattle.std.proofs.Common.{◌≡◌, List, ℕ, None, min, sym, ◌∙◌, ap, inr, option_map}
use Rattle.std.specs.Option.{ok_or}
use Rattle.std.proofs.lemmas.Result.{err_from_is_err_and}
use Rattle.picture.specs.Numbers.{number_spelled}
use Rattle.non_text.specs.declared.fault.NonFault.TheVariants.{BadClue}
use Rattle.non_text.proofs.ClueLineLemmas.{left_to_read, left_bad}
use Rattle.non_text.proofs.clue_line.numbers.Goals as goal

pub returns-in_err-number : goal.returns-in_err-number
returns-in_err-number c =
    let p = err_from_is_err_and c.from_residual.result c.from_residual.ensures.1 in
    let none : c.number.result ≡ None = c.in_err-number.ensures.ok_part in
    let is : c.in_err-number.field-0.0 ≡ BadClue = cc (c.in_err-number.ensures.value ∙ ap (λ o. ok_or o BadClue) none) in
    rw (p.1, p.2, is)
    (inr (sym c.loop-rest.invariant ∙ ap (left_to_read c.loop-rest.numbers.items) c.in-Some.is
    ∙ left_bad _ c.in-Some.places _ c.split_first.result.1 c.split_first.ensures.pieces
    (ap (λ (bytes : List ℕ). option_map (min 255) (number_spelled bytes)) (sym c.trim.ensures) ∙ sym c.number.ensures ∙ none)))
