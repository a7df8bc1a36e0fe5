-- How many lines a verdict evaluates at most, written out.
use Rattle.std.proofs.Common.{◌≡◌, ◌≤◌, ◌+◌, ◌*◌, ℕ, Option, Some, Result, Ok, MatchResult, length, subst}
use Rattle.line_facts.specs.Masks.{Masks}
use Rattle.second_search.specs.Evaluations.{AreFew, most_to_close, most_to_search}
use Rattle.live_audit.specs.declared.verdict.Verdict.{Verdict}
use Rattle.live_audit.specs.Bench.{Seen}
use Rattle.live_audit.specs.Calls.{IsAsBefore}
use Rattle.live_audit.specs.Verdict.{Tells}
use Rattle.claims.specs.Work.{cells_in, lines_in, most_evaluations}

few_written : (allowance : Option ℕ) (facts : Masks) (parts evaluations splits : ℕ) → AreFew allowance facts parts evaluations → allowance ≡ Some splits
    → evaluations ≤ parts * ((1 + 16 * splits) * (lines_in facts + 16 * cells_in facts))
unfolding most_to_search most_to_close
few_written allowance facts parts evaluations splits few is = subst (λ (a : Option ℕ). AreFew a facts parts evaluations) is few

few_of : (old last : Seen) (verdict : Verdict) → Tells old last verdict → AreFew old.allowance old.book.facts (length old.kept) last.work.search.evaluations
few_of old last verdict (j, (answers, decides)) = decides.few

-- what is known of a verdict's call, where it is not refused
pub few_told : {E : Type 0} (old last : Seen) (r : Result Verdict E) (verdict : Verdict) (splits : ℕ) → r ≡ Ok verdict → MatchResult r (Tells old last) (λ (e : E). IsAsBefore old last)
    → old.allowance ≡ Some splits → last.work.search.evaluations ≤ most_evaluations old splits
few_told {E} old last r verdict splits is told allows =
    let here : Tells old last verdict = subst (λ (x : Result Verdict E). MatchResult x (Tells old last) (λ (e : E). IsAsBefore old last)) is told in
    few_written old.allowance old.book.facts (length old.kept) last.work.search.evaluations splits (few_of old last verdict here) allows
