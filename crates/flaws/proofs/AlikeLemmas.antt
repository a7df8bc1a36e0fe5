-- The pairs that look alike, one after the other.
use Rattle.std.proofs.Common.{◌≡◌, ℕ, ◌+◌, [], ◌∷◌, ◌++◌, refl, sym, ap, subst, ◌∙◌, arith, append-nil}
use Rattle.std.specs.Prelude.{true, false, Bool, cond}
use Rattle.picture.specs.Palette.{Colours}
use Rattle.picture.specs.Rows.{Rows}
use Rattle.flaws.specs.declared.alike.Alike.{Alike}
use Rattle.flaws.specs.Alike.{alike_below, is_flaw, pair_at}
use Rattle.std.proofs.lemmas.List.FromFn.{filter_of_map_range_with_len_more}

pub no_pairs : (colours : Colours) (rows : Rows) → alike_below 0 colours rows ≡ []
unfolding alike_below
no_pairs colours rows = refl

module _ (colours : Colours) (rows : Rows) (n : ℕ) (pair : Alike) (is : pair ≡ pair_at n) where
  more : (b : Bool) → is_flaw colours rows (pair_at n) ≡ b → alike_below (n + 1) colours rows ≡ alike_below n colours rows ++ cond b (pair_at n ∷ []) []
  unfolding alike_below
  more b e = filter_of_map_range_with_len_more (is_flaw colours rows) pair_at 0 n n (omega arith) ∙ ap (λ (c : Bool). alike_below n colours rows ++ cond c (pair_at n ∷ []) []) e

  pub one_more : is_flaw colours rows pair ≡ true → alike_below (n + 1) colours rows ≡ alike_below n colours rows ++ pair ∷ []
  one_more e = let P : Alike → Type 0 = λ p. is_flaw colours rows p ≡ true in more true (subst P is e) ∙ ap (λ (p : Alike). alike_below n colours rows ++ p ∷ []) (sym is)

  pub no_more : is_flaw colours rows pair ≡ false → alike_below (n + 1) colours rows ≡ alike_below n colours rows
  no_more e = let P : Alike → Type 0 = λ p. is_flaw colours rows p ≡ false in more false (subst P is e) ∙ append-nil (alike_below n colours rows)

pub ruleset pairs = (no_pairs, one_more, no_more)
