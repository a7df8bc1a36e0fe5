-- A store of lemmas when a literal is denied, a lemma is kept, or a lemma is dropped.
use Rattle.std.proofs.Common.{◌≡◌, ℕ, zero, suc, ◌+◌, ◌-◌, ◌*◌, ◌<◌, ◌≤◌, Bool, true, false, List, [], ◌∷◌, ◌++◌, length, get_or, set, take, drop, Option, None, Some, refl, sym, ap, subst, ◌∙◌, arith, inl}
use Rattle.std.proofs.Common.{inr}
use Rattle.std.proofs.Common.{length-append, length-drop}
use Rattle.std.proofs.lemmas.Bool.{cases_eq, cases_lt}
use Rattle.std.proofs.lemmas.List.{drop-append-le, take-append-le, take_all, length-take-le, get_or-set_same, get_or-set_other, map-append, map-set, length-set, get_or-map, get_or_past}
use Rattle.std.proofs.lemmas.List.Sums.{sum_by-set, sum_by_push}
use Rattle.cert_text.specs.declared.cert_line.Literal.{Literal}
use Rattle.cert_text.specs.declared.cert_line.TheConstants.{MAX_LEMMA_LITERALS, MAX_LITERALS}
use Rattle.cert_check.specs.declared.span.Span.{Span}
use Rattle.cert_check.specs.Lemmas.{IsKept, Lemmas, lemma_at, literals_in, total}
use Rattle.cert_check.specs.Stores.{ArePlaces, EndsBefore, IsPlace, IsStore, if_kept, lemma_in, lemmas_in, stored}

abbrev span_of : ℕ → ℕ → Bool → Span
span_of start len kept = record { start = start; len = len; kept = kept }

-- ---- literals are added at the end

part_same : (literals more : List Literal) (start len : ℕ) → start + len ≤ length literals → take len (drop start (literals ++ more)) ≡ take len (drop start literals)
part_same literals more start len l =
    ap (take len) (drop-append-le start literals more (omega arith)) ∙ take-append-le len (drop start literals) more (let d = length-drop start literals in omega arith)

pub same_lemmas : (literals more : List Literal) (newest : ℕ) (spans : List Span) → newest ≤ length literals → ((i : ℕ) (d : Span) → i < length spans → EndsBefore newest (get_or spans i d))
    → lemmas_in (literals ++ more) spans ≡ lemmas_in literals spans
same_lemmas literals more newest [] n each = refl
same_lemmas literals more newest (span ∷ spans) n each =
    let rest = same_lemmas literals more newest spans n (λ i d l. each (suc i) d (omega arith)) in
    let inside = (each 0 span (omega arith)).inside in
    let one = ap (if_kept span.kept) (part_same literals more span.start span.len (omega arith)) in
    ap (λ (lemma : Option (List Literal)). lemma ∷ lemmas_in (literals ++ more) spans) one ∙ ap (λ (lemmas : Lemmas). lemma_in literals span ∷ lemmas) rest

pub denied_store : (literals : List Literal) (literal : Literal) (spans : List Span) (newest count : ℕ) → IsStore literals spans newest count → length (drop newest literals) < MAX_LEMMA_LITERALS
    → total (lemmas_in literals spans) + length (drop newest literals) < MAX_LITERALS → IsStore (literals ++ literal ∷ []) spans newest (count + 1)
denied_store literals literal spans newest count is short few =
    let longer = length-append literals (literal ∷ []) in
    let part = length-drop newest literals in
    let same = ap total (same_lemmas literals (literal ∷ []) newest spans is.newest_inside is.each) in
    let before = is.count_is in
    let inside = is.newest_inside in
    record {
      newest_inside = omega arith;
      newest_short = omega arith;
      each = is.each;
      count_is = omega arith;
      few = omega arith;
    }

pub denied_view : (literals : List Literal) (literal : Literal) (spans : List Span) (newest count : ℕ) → IsStore literals spans newest count
    → (lemmas_in (literals ++ literal ∷ []) spans ≡ lemmas_in literals spans) × (drop newest (literals ++ literal ∷ []) ≡ drop newest literals ++ literal ∷ [])
denied_view literals literal spans newest count is = (
  same_lemmas literals (literal ∷ []) newest spans is.newest_inside is.each,
  drop-append-le newest literals (literal ∷ []) is.newest_inside,
)

pub same_store : (lemmas more : Lemmas) (denied other : List Literal) (literals left spare free height tall width wide : ℕ) → lemmas ≡ more → denied ≡ other → literals ≡ left → spare ≡ free
    → height ≡ tall → width ≡ wide → stored lemmas denied literals spare height width ≡ stored more other left free tall wide
same_store lemmas more denied other literals left spare free height tall width wide a b c d e f = rw (a, b, c, d, e, f) refl

-- ---- a lemma is kept

last_in : (literals : List Literal) (newest : ℕ) → newest ≤ length literals → lemma_in literals (span_of newest (length literals - newest) true) ≡ Some (drop newest literals)
last_in literals newest l = ap Some (take_all (length literals - newest) (drop newest literals) (let d = length-drop newest literals in omega arith))

pub kept_lemmas : (literals : List Literal) (newest : ℕ) (spans : List Span) → newest ≤ length literals
    → lemmas_in literals (spans ++ span_of newest (length literals - newest) true ∷ []) ≡ lemmas_in literals spans ++ Some (drop newest literals) ∷ []
kept_lemmas literals newest spans l =
    map-append (lemma_in literals) spans (span_of newest (length literals - newest) true ∷ [])
    ∙ ap (λ (lemma : Option (List Literal)). lemmas_in literals spans ++ lemma ∷ []) (last_in literals newest l)

each_kept : (newest end : ℕ) (spans : List Span) (span : Span) → newest ≤ end → ((i : ℕ) (d : Span) → i < length spans → EndsBefore newest (get_or spans i d)) → EndsBefore end span
    → (i : ℕ) (d : Span) → i < length (spans ++ span ∷ []) → EndsBefore end (get_or (spans ++ span ∷ []) i d)
each_kept newest end [] span n each last zero d l = last
each_kept newest end [] span n each last (suc i) d l = absurd (omega arith)
each_kept newest end (first ∷ spans) span n each last zero d l =
    let e = each 0 d (omega arith) in
    record { inside = (let i = e.inside in omega arith); short = e.short }
each_kept newest end (first ∷ spans) span n each last (suc i) d l = each_kept newest end spans span n (λ j x m. each (suc j) x (omega arith)) last i d (omega arith)

pub kept_store : (literals : List Literal) (spans : List Span) (newest count : ℕ) → IsStore literals spans newest count
    → IsStore literals (spans ++ span_of newest (length literals - newest) true ∷ []) (length literals) count
kept_store literals spans newest count is =
    let inside = is.newest_inside in
    let short = is.newest_short in
    let before = is.count_is in
    let whole = ap total (kept_lemmas literals newest spans inside) in
    let more : total (lemmas_in literals spans ++ Some (drop newest literals) ∷ []) ≡ total (lemmas_in literals spans) + length (drop newest literals) = sum_by_push literals_in
    (lemmas_in literals spans) (Some (drop newest literals)) in
    let part = length-drop newest literals in
    record {
      newest_inside = omega arith;
      newest_short = omega arith;
      each = each_kept newest (length literals) spans (span_of newest (length literals - newest) true) inside is.each (record { inside = omega arith; short = omega arith });
      count_is = omega arith;
      few = is.few;
    }

-- ---- a lemma is dropped

kept_length : (kept : Bool) (part : List Literal) → (literals : List Literal) → if_kept kept part ≡ Some literals → length literals ≡ length part
kept_length true part literals e = let same : part ≡ literals = cc in ap length (sym same)
kept_length false part literals e = cc

pub dropped_store : (literals : List Literal) (spans : List Span) (newest count n start len : ℕ) (d : Span) → IsStore literals spans newest count → IsKept (lemmas_in literals spans) n
    → n < length spans
    → len ≡ (get_or spans n d).len → start ≡ (get_or spans n d).start → IsStore literals (set spans n (span_of start len false)) newest (count - len)
dropped_store literals spans newest count n start len d is kept l e s =
    let span = get_or spans n d in
    let inside = (is.each n d l).inside in
    let end = is.newest_inside in
    let at : lemma_at (lemmas_in literals spans) n ≡ lemma_in literals span = get_or-map (lemma_in literals) spans n d None l in
    let size = kept_length span.kept (take span.len (drop span.start literals)) kept.0 (sym at ∙ kept.1) in
    let part = length-drop span.start literals in
    let taken = length_part (drop span.start literals) span.len (omega arith) in
    let now = ap total (map-set (lemma_in literals) spans n (span_of start len false)) in
    let less = sum_by-set literals_in (lemmas_in literals spans) n None None (omega (arith, l, length_lemmas spans)) in
    let was : literals_in (lemma_at (lemmas_in literals spans) n) ≡ length kept.0 = ap literals_in kept.1 in
    let before = is.count_is in
    let few = is.few in
    record {
      newest_inside = is.newest_inside;
      newest_short = is.newest_short;
      each = each_dropped;
      count_is = omega arith;
      few = omega arith;
    }
  where
    length_part : (xs : List Literal) (k : ℕ) → k ≤ length xs → length (take k xs) ≡ k
    length_part xs k m = length-take-le k xs m

    length_lemmas : (xs : List Span) → length (lemmas_in literals xs) ≡ length xs
    length_lemmas [] = refl
    length_lemmas (x ∷ xs) = let r = length_lemmas xs in omega arith

    each_dropped : (i : ℕ) (x : Span) → i < length (set spans n (span_of start len false)) → EndsBefore newest (get_or (set spans n (span_of start len false)) i x)
    each_dropped i x m = elim (cases_eq i n) [
      | inl same ↦ let it = is.each n d l in subst (EndsBefore newest) (sym (ap (λ (j : ℕ). get_or (set spans n (span_of start len false)) j x) same ∙ get_or-set_same spans n
          (span_of start len false) x l)) (record {
            inside = (let a = it.inside in omega arith);
            short = (let a = it.short in omega arith);
          })
      | inr other ↦ subst (EndsBefore newest) (sym (get_or-set_other spans n i (span_of start len false) x other)) (is.each i x (omega (arith, m, length-set spans n (span_of start len false))))
    ]

-- a lemma that is kept is there
pub kept_there : (literals : List Literal) (spans : List Span) (n : ℕ) → IsKept (lemmas_in literals spans) n → n < length spans
kept_there literals spans n kept = elim (cases_lt n (length spans)) [
  | inl l ↦ l
  | inr p ↦ absurd (let e = sym kept.1 ∙ get_or_past (lemmas_in literals spans) n None (omega (arith, p, length_map spans)) in cc)
]
  where
    length_map : (xs : List Span) → length (lemmas_in literals xs) ≡ length xs
    length_map [] = refl
    length_map (x ∷ xs) = let r = length_map xs in omega arith

-- ---- places

pub is_place : (height width row col : ℕ) (literal : Literal) → row ≡ literal.cell.row - 1 → col ≡ literal.cell.col - 1 → row < height → col < width → IsPlace height width literal (row * width + col)
is_place height width row col literal r c in_rows in_columns = record {
  in_rows = omega (arith, r);
  in_columns = omega (arith, c);
  at = rw (← r, ← c) refl;
}

-- a literal more, with its place
pub more_places : (height width : ℕ) (literals : List Literal) (places : List ℕ) (literal : Literal) (place : ℕ) → ArePlaces height width literals places → IsPlace height width literal place
    → ArePlaces height width (literals ++ literal ∷ []) (places ++ place ∷ [])
more_places height width literals places literal place are is = record {
  count = (let one = length-append literals (literal ∷ []) in let other = length-append places (place ∷ []) in let same = are.count in omega arith);
  each = λ i d l. each_more literals places are.count are.each i d l;
}
  where
    each_more : (ls : List Literal) (ps : List ℕ) → length ps ≡ length ls → ((i : ℕ) (d : Literal) → i < length ls → IsPlace height width (get_or ls i d) (get_or ps i 0))
        → (i : ℕ) (d : Literal) → i < length (ls ++ literal ∷ []) → IsPlace height width (get_or (ls ++ literal ∷ []) i d) (get_or (ps ++ place ∷ []) i 0)
    each_more [] [] e each zero d l = is
    each_more [] [] e each (suc i) d l = absurd (omega arith)
    each_more [] (p ∷ ps) e each i d l = cc
    each_more (x ∷ ls) [] e each i d l = cc
    each_more (x ∷ ls) (p ∷ ps) e each zero d l = each 0 d (omega arith)
    each_more (x ∷ ls) (p ∷ ps) e each (suc i) d l = each_more ls ps (omega arith) (λ j f m. each (suc j) f (omega arith)) i d (omega arith)
