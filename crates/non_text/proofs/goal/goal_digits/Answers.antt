use Rattle.std.proofs.Common.{◌≡◌, ◌∷◌, ◌-◌, Bool, true, false, cond, length, take, drop, Option, Some, None, List, ℕ, refl, sym, ◌∙◌, ap, rules}
use Rattle.std.specs.Bool.{then_some}
use Rattle.std.specs.Borrow.{Bor}
use Rattle.std.specs.Option.{option_copied}
use Rattle.picture.specs.Readers.{pieces_behind}
use Rattle.non_text.specs.Lines.{is_blank_line}
use Rattle.non_text.proofs.GoalLemmas.{digits_quoted, quoted_is}
use Rattle.non_text.proofs.goal.goal_digits.Goals as goal

copied : (t : Bool) (digits : Bor (List ℕ)) → option_copied (then_some t digits) ≡ cond t (Some digits.now) None
copied true digits = refl
copied false digits = refl

pub returns : goal.returns
returns c =
    let value = c.args.value.now in
    let digits = c.split_first.result.0 in
    let behind = c.in_ok-behind.field-0.now in
    let rest = take (length value - 1) (drop 1 value) in
    ap option_copied (c.then_some.ensures ∙ ap (λ t. then_some t digits) c.is_blank_line.ensures) ∙ copied (is_blank_line behind) digits
    ∙ sym (digits_quoted value (search rules) (search rules)
    ∙ quoted_is rest digits.now behind (c.split_first.ensures.pieces ∙ ap (λ (rest : Option (Bor (List ℕ))). digits.now ∷ pieces_behind 34 rest) c.in_ok-behind.was))
