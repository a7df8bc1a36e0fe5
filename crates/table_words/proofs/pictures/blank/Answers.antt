-- A blank picture has the background alone, and there is no given.
use Rattle.std.proofs.Common.{◌≡◌, ℕ, zero, suc, get_or, replicate, refl}
use Rattle.picture.specs.Rows.{cell_at}
use Rattle.table_words.proofs.pictures.blank.Goals as goal

zeros : (n k : ℕ) → get_or {A = ℕ} (replicate n 0) k 0 ≡ 0
zeros zero k = refl
zeros (suc n) zero = refl
zeros (suc n) (suc k) = zeros n k

blank_cell : (h w i j : ℕ) → cell_at (replicate h (replicate w 0)) i j ≡ 0
blank_cell zero w i j = refl
blank_cell (suc h) w zero j = zeros w j
blank_cell (suc h) w (suc i) j = blank_cell h w i j

pub invariant_of-result : goal.invariant_of-result
invariant_of-result c = record {
  coloured = rw c.in_ok-picture.ensures (λ i j. rw (blank_cell c.args.height c.args.width i j) c.len.ensures.palette.has_background);
  inside = λ i j has. absurd (c.empty.ensures.none i j has);
}
