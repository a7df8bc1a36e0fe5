-- Laws of what one write after another has appended.
use Rattle.std.proofs.Common.{◌≡◌, ℕ, ◌+◌, ◌<◌, ◌≤◌, List, [], ◌∷◌, ◌++◌, take, drop, get_or, length, Option, sym, ap, ◌∙◌, subst, arith, inl, inr, Result, OnErr}
use Rattle.std.proofs.lemmas.Bool.{cases_lt}
use Rattle.std.proofs.lemmas.List.{take-append-le, take_all, take_more, take-append-drop, append-nil}
use Rattle.std.proofs.lemmas.Result.{on_err_weaker}
use Rattle.std.proofs.Math.Seq.{take-append_seam, take-append-add}
use Rattle.std.specs.List.{flat_map}
use Rattle.std.proofs.lemmas.List.Concat.{flat_map-append}
use Rattle.std.proofs.KnownBytes.{Appends-nil, Appends-trans}
use Rattle.std.specs.Io.KnownBytes.{Appends}
use Rattle.picture.specs.Writers.{AppendsFront}

pub both_sent : (a b c : Option (List ℕ)) (x y : List ℕ) → Appends a b x → Appends b c y → Appends a c (x ++ y)
both_sent a b c x y first second = Appends-trans a b c x y first second

pub first_front : (a b : Option (List ℕ)) (x y : List ℕ) → AppendsFront a b x → AppendsFront a b (x ++ y)
first_front a b x y h =
    elim (cases_lt (length x) h.0) [
      | inl lt ↦ (length x, subst (λ (z : List ℕ). Appends a b z) (take_all h.0 x (omega arith) ∙ sym (take-append_seam x y)) h.1)
      | inr le ↦ (h.0, subst (λ (z : List ℕ). Appends a b z) (sym (take-append-le h.0 x y le)) h.1)
    ]

pub second_front : (a b c : Option (List ℕ)) (x y : List ℕ) → Appends a b x → AppendsFront b c y → AppendsFront a c (x ++ y)
second_front a b c x y first h = (length x + h.0, subst (λ (z : List ℕ). Appends a c z) (sym (take-append-add x y h.0)) (Appends-trans a b c x (take h.0 y) first h.1))

pub middle_front : (a b c : Option (List ℕ)) (x y z : List ℕ) → Appends a b x → AppendsFront b c y → AppendsFront a c (x ++ (y ++ z))
middle_front a b c x y z first h = second_front a b c x (y ++ z) first (first_front b c y z h)

pub last_front : {T E : Type 0} (r : Result T E) (a b c : Option (List ℕ)) (x y : List ℕ) → Appends a b x → OnErr r (AppendsFront b c y) → OnErr r (AppendsFront a c (x ++ y))
last_front r a b c x y first h = on_err_weaker r (second_front a b c x y first) h

pub ruleset sending = (both_sent, first_front, second_front, middle_front, last_front)

-- one piece more of a text in pieces
pub pieces_more : {X : Type 0} (piece : X → List ℕ) (xs : List X) (i : ℕ) (d : X) → i < length xs → flat_map piece (take (i + 1) xs) ≡ flat_map piece (take i xs) ++ piece (get_or xs i d)
pieces_more piece xs i d lt =
    ap (flat_map piece) (take_more xs i d lt) ∙ flat_map-append piece (take i xs) (get_or xs i d ∷ []) ∙ ap (λ (x : List ℕ). flat_map piece (take i xs) ++ x) (append-nil (piece (get_or xs i d)))

-- the pieces after the first ones
pub pieces_parts : {X : Type 0} (piece : X → List ℕ) (xs : List X) (i : ℕ) → flat_map piece xs ≡ flat_map piece (take i xs) ++ flat_map piece (drop i xs)
pieces_parts piece xs i = ap (flat_map piece) (sym (take-append-drop i xs)) ∙ flat_map-append piece (take i xs) (drop i xs)

module _ (a b c : Option (List ℕ)) where
  pub piece_sent : {X : Type 0} (piece : X → List ℕ) (xs : List X) (i : ℕ) (d : X) → i < length xs
      → Appends a b (flat_map piece (take i xs)) → Appends b c (piece (get_or xs i d)) → Appends a c (flat_map piece (take (i + 1) xs))
  piece_sent piece xs i d lt before now = rw (pieces_more piece xs i d lt) (both_sent a b c (flat_map piece (take i xs)) (piece (get_or xs i d)) before now)

  pub piece_cut : {X : Type 0} (piece : X → List ℕ) (xs : List X) (i : ℕ) (d : X) → i < length xs
      → Appends a b (flat_map piece (take i xs)) → AppendsFront b c (piece (get_or xs i d)) → AppendsFront a c (flat_map piece xs)
  piece_cut piece xs i d lt before now =
      let front : AppendsFront a c (flat_map piece (take (i + 1) xs)) = rw (pieces_more piece xs i d lt) (second_front a b c (flat_map piece (take i xs)) (piece (get_or xs i d)) before now) in
      rw (pieces_parts piece xs (i + 1)) (first_front a c (flat_map piece (take (i + 1) xs)) (flat_map piece (drop (i + 1) xs)) front)

-- once all pieces are sent, the whole text is
pub pieces_sent : {X : Type 0} (a b : Option (List ℕ)) (piece : X → List ℕ) (xs : List X) (i : ℕ) → length xs ≤ i → Appends a b (flat_map piece (take i xs)) → Appends a b (flat_map piece xs)
pieces_sent a b piece xs i le h = subst (λ ys. Appends a b (flat_map piece ys)) (take_all i xs le) h

pub no_piece_sent : {X : Type 0} (a : Option (List ℕ)) (piece : X → List ℕ) (xs : List X) → Appends a a (flat_map piece (take 0 xs))
no_piece_sent a piece xs = Appends-nil a

pub ruleset pieces = (piece_sent, pieces_sent, no_piece_sent)
