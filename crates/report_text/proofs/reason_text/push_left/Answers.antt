use Rattle.std.proofs.Common.{[], ◌∷◌, ◌+◌, ◌++◌, ◌∙◌, List, Vec, Global, ap, sym, ℕ}
use Rattle.std.specs.List.{range_with_len}
use Rattle.report_text.specs.Shown.{letter}
use Rattle.report_text.proofs.ShownLemmas.{letters_among, letters_none, letters_passed, letters_taken, none_pushed, pushed}
use Rattle.report_text.proofs.reason_text.push_left.Goals as goal
use Rattle.report_text.proofs.reason_text.push_left.Goals.{then-not-has_colour+in_ok-push, else-not-has_colour}

pub loop-colour-init : goal.loop-colour-init
loop-colour-init c = none_pushed c.args.text.now.items (letters_among c.args.excluded (range_with_len 0 0)) (letters_none c.args.excluded)

pub loop-colour-preserved : goal.loop-colour-preserved
loop-colour-preserved c =
    let excluded = c.args.excluded in
    let k = c.loop-colour.colour in
    let among = λ (n : ℕ). letters_among excluded (range_with_len 0 n) in
    let old = c.args.text.now.items in
    let now = c.loop-colour.text.items in
    let items = λ (v : Vec ℕ Global). v.items in
    elim c.if-not-has_colour.branch [
      | then-not-has_colour+in_ok-push w ↦
          ap items w.text-is
          ∙ pushed old now w.push.new.self.items (among k) (letter k ∷ []) (among (k + 1)) c.loop-colour.invariant
          (w.in_ok-push.ensures.items ∙ ap (λ (x : ℕ). now ++ x ∷ []) w.letter_of.ensures) (letters_taken excluded k (sym c.has_colour.ensures ∙ w.if-not-has_colour.true))
      | else-not-has_colour w ↦
          ap items w.text-is ∙ c.loop-colour.invariant ∙ ap (λ (text : List ℕ). old ++ text) (sym (letters_passed excluded k (sym c.has_colour.ensures ∙ w.if-not-has_colour.false)))
    ]
