-- The root of a certificate, and the base of its givens.
use Rattle.std.proofs.Common.{◌≡◌, ℕ, ◌<◌, List, [], length, replicate, get_or, ap, ◌∙◌, arith, inl, inr}
use Rattle.std.proofs.lemmas.List.{get_or-replicate}
use Rattle.picture.specs.Rows.{width_of, row_at, cell_at, Rows}
use Rattle.line_facts.specs.FactSets.{Leaves, nothing_excluded}
use Rattle.line_facts.proofs.GridLaws.{all_left, full_shape}
use Rattle.picture.proofs.BitLaws.{bit_below}
use Rattle.cert_check.proofs.BaseLemmas.{given_left, givens_shape, left_or_given, open_stays}
use Rattle.certificate.specs.MadeCert.{BasesAreOne}

blank_row : (picture : Rows) (row : ℕ) → row < length picture → row_at (nothing_excluded (length picture) (width_of picture)) row ≡ replicate (width_of picture) 65535
blank_row picture row l = get_or-replicate (length picture) row (replicate (width_of picture) 65535) [] l

blank_left : (picture : Rows) (row col k : ℕ) → row < length picture → col < width_of picture → Leaves (nothing_excluded (length picture) (width_of picture)) row col k → k < 16
blank_left picture row col k h w l =
    let e : cell_at (nothing_excluded (length picture) (width_of picture)) row col ≡ 65535 =
    ap (λ (r : List ℕ). get_or r col 0) (blank_row picture row h) ∙ get_or-replicate (width_of picture) col 65535 0 w in
    bit_below 65535 16 k (omega arith) (rw e at l)

-- the root of a certificate whose givens are exactly a set's is the base of the set
pub bases_are_one : BasesAreOne
bases_are_one picture givens cells is names = record {
  same_shape = givens_shape picture (nothing_excluded (length picture) (width_of picture)) cells (full_shape picture is);
  left = λ row col k h w. (
    (λ l. (
      elim (left_or_given picture (nothing_excluded (length picture) (width_of picture)) cells row col k l) [
        | inl b ↦ blank_left picture row col k h w b
        | inr e ↦ let c = is.colours row col in let q : k < 16 = omega arith in q
      ],
      (λ has. given_left picture (nothing_excluded (length picture) (width_of picture)) cells row col k ((names.named row col).0 has) l),
    )),
    (λ o. open_stays picture (nothing_excluded (length picture) (width_of picture)) cells names.inside row col k (λ m. o.1 ((names.named row col).1 m))
        (all_left (length picture) (width_of picture) row col k h w o.0)),
  );
}
