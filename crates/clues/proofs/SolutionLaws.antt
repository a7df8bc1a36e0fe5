-- What solves a puzzle solves one with fewer givens.
use Rattle.std.specs.Prelude.{ℕ}
use Rattle.picture.specs.Rows.{Rows}
use Rattle.clues.specs.ClueBook.{Clues}
use Rattle.clues.specs.Solution.{IsOther, Solves}

pub solves_fewer : (clues : Clues) (More Fewer : ℕ → ℕ → Type 0) (picture other : Rows) → ((row col : ℕ) → Fewer row col → More row col) → Solves clues More picture other
    → Solves clues Fewer picture other
solves_fewer clues More Fewer picture other fewer s = record {
  is_picture = s.is_picture;
  rows = s.rows;
  columns = s.columns;
  has_clues = s.has_clues;
  keeps_givens = λ row col given. s.keeps_givens row col (fewer row col given);
}

pub other_fewer : (clues : Clues) (More Fewer : ℕ → ℕ → Type 0) (picture other : Rows) → ((row col : ℕ) → Fewer row col → More row col) → IsOther clues More picture other
    → IsOther clues Fewer picture other
other_fewer clues More Fewer picture other fewer o = record { solves = solves_fewer clues More Fewer picture other fewer o.solves; differs = o.differs }
