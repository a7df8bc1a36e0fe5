use Rattle.std.proofs.Common.{ℕ, arith, sym, subst, inl, inr}
use Rattle.picture.specs.Rows.{cell_at}
use Rattle.line_facts.specs.Masks.{IsOnly}
use Rattle.second_search.proofs.LookLemmas.{below_next}
use Rattle.second_search.proofs.looking.first_unsettled.Goals as goal

pub loop-row-preserved : goal.loop-row-preserved
loop-row-preserved c = λ r col l w.
    below_next (λ i. (k : ℕ) × IsOnly (cell_at c.args.facts.now i col) k) c.loop-row.row (λ i m. c.loop-row.invariant i col m w) (c.in-None.ensures col w) r l

pub returns-in-Some : goal.returns-in-Some
returns-in-Some c =
    let e = c.in-Some.ensures in
    let facts = c.args.facts.now in
    record {
      is = record { in_rows = omega arith; in_columns = e.0; unsettled = e.1 };
      before = λ r col l b. elim b [
        | inl m ↦ c.loop-row.invariant r col m l
        | inr p ↦ let P : ℕ → Type 0 = λ x. (k : ℕ) × IsOnly (cell_at facts x col) k in subst P (sym p.0) (e.2 col p.1)
      ];
    }
