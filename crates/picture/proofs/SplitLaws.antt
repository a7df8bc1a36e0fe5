-- Laws of the pieces of a text, cut at the bytes that pass a test.
use Rattle.std.proofs.Common.{◌≡◌, ℕ, ◌+◌, ◌-◌, ◌<◌, Bool, true, false, cond, not, eqb, List, [], ◌∷◌, ◌++◌, length, get_or, take, drop, Some, None, refl, sym, ap, ◌∙◌, arith}
use Rattle.std.specs.List.{slice_split, position, All, list_all}
use Rattle.std.proofs.lemmas.Bool.{eq-eqb, ltb-true, ltb-false, not-true}
use Rattle.std.proofs.lemmas.Option.{cond_some}
use Rattle.std.proofs.lemmas.List.{drop_more, get_or-take, length-take-le, take-append-drop, take_rest}
use Rattle.std.proofs.lemmas.List.Elements.{All-from_get_or, All-weaker}
use Rattle.std.proofs.lemmas.List.Quantifiers.{position-Some}
use Rattle.std.proofs.lemmas.List.Splits.{slice_split_at, slice_split_first, slice_split_none}
use Rattle.std.proofs.lemmas.List.Sums.{AllPass-from_list_all, fails_before_first}

module _ (p : ℕ → Bool) (bytes : List ℕ) where
  -- no byte passes
  pub none_passes : position p bytes ≡ None → All (λ b. p b ≡ false) bytes
  none_passes e = All-from_get_or (λ b. p b ≡ false) bytes 0 (λ k lt. fails_before_first p bytes k 0 (omega (arith, lt, ltb-false _ _ (no_place _ _ e))))
    where
      no_place : (t : Bool) (n : ℕ) → cond t (Some n) None ≡ None → t ≡ false
      no_place true n e = cc
      no_place false n e = refl

  pub split_none : position p bytes ≡ None → slice_split p bytes ≡ bytes ∷ []
  split_none e = slice_split_none p bytes (none_passes e)

  module _ (end : ℕ) (e : position p bytes ≡ Some end) where
    -- the bytes up to the first one that passes
    pub split_found : slice_split p bytes ≡ take end bytes ∷ slice_split p (take (length bytes - (end + 1)) (drop (end + 1) bytes))
    split_found =
        let at = cond_some _ _ _ e in
        slice_split_first p bytes 0 (ltb-true _ _ at.0)
        ∙ ap (λ n. take n bytes ∷ slice_split p (drop (n + 1) bytes)) at.1
        ∙ ap (λ (rest : List ℕ). take end bytes ∷ slice_split p rest) (sym (take_rest bytes (end + 1)))

    pub none_before : All (λ b. p b ≡ false) (take end bytes)
    none_before =
        let at = position-Some p bytes end 0 e in
        All-from_get_or (λ b. p b ≡ false) (take end bytes) 0
        (λ k lt. let front : k < end = omega (arith, lt, length-take-le end bytes (omega (arith, at.0))) in rw (get_or-take end bytes k 0 front) (at.2 k front))

    pub whole_found : bytes ≡ take end bytes ++ get_or bytes end 0 ∷ drop (end + 1) bytes
    whole_found = sym (take-append-drop end bytes) ∙ ap (λ (rest : List ℕ). take end bytes ++ rest) (drop_more bytes end 0 (position-Some p bytes end 0 e).0)

-- the bytes have no separator
abbrev pub lacks : ℕ → List ℕ → Bool
lacks separator bytes = list_all (λ b. not (eqb b separator)) bytes

pub none_there : (separator : ℕ) (bytes : List ℕ) → lacks separator bytes ≡ true → All (λ b. eqb b separator ≡ false) bytes
none_there separator bytes h = All-weaker (λ b. not (eqb b separator) ≡ true) (λ b. eqb b separator ≡ false) (λ b e. not-true _ e) bytes (AllPass-from_list_all (λ b. not (eqb b separator)) bytes h)

pub one_piece : (separator : ℕ) (bytes : List ℕ) → lacks separator bytes ≡ true → slice_split (λ b. eqb b separator) bytes ≡ bytes ∷ []
one_piece separator bytes h = slice_split_none (λ b. eqb b separator) bytes (none_there separator bytes h)

pub split_at : (separator : ℕ) (front rest : List ℕ) → lacks separator front ≡ true → slice_split (λ b. eqb b separator) (front ++ separator ∷ rest) ≡ front ∷ slice_split (λ b. eqb b separator) rest
split_at separator front rest h = slice_split_at (λ b. eqb b separator) front separator rest (none_there separator front h) (eq-eqb separator separator refl)
