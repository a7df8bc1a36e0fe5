-- Colours that are numbered as they are read are numbered by first appearance.
use Rattle.std.proofs.Common.{◌≡◌, ℕ, suc, ◌+◌, ◌<◌, ◌≤◌, true, cond, ltb, List, [], ◌∷◌, ◌++◌, length, map, Option, Some, None, Ok, Err, refl, sym, ap, ◌∙◌, append_assoc, length-append, arith}
use Rattle.std.proofs.Common.{unwrap_or}
use Rattle.std.specs.List.{flat_map, AllByRecursion}
use Rattle.std.proofs.lemmas.Bool.Decides.{nat_tests}
use Rattle.picture.proofs.ColourLaws.{absent, any_last, place-front, place-last, placed, seen-front}
use Rattle.picture.specs.Readers.{◌>>=◌}
use Rattle.picture.specs.declared.rgb.Rgb.{Rgb}
use Rattle.picture.specs.declared.picture.TheConstants.{MAX_COLOURS}
use Rattle.picture.specs.Palette.{Colours, fits, place_of}
use Rattle.picture.specs.Document.{seen_after, number_among}
use Rattle.ppm_text.specs.declared.fault.PpmFault.TheVariants.{TooManyColours}
use Rattle.ppm_text.specs.declared.fields.Triple.{Triple}
use Rattle.ppm_text.specs.Samples.{samples_at}
use Rattle.ppm_text.specs.Ppm.{number_with, numbered_by, number_at, numbers_at}
use Rattle.ppm_text.specs.Text.{triple_text}
use Rattle.ppm_text.proofs.Binds.{bind_is}
use Rattle.ppm_text.proofs.Spelled.{text_tokens, behind_triple, triple_again}

-- ---- a colour's place stays where colours are added at the end

pub place_stays : (t : Rgb) (known more : List Rgb) (k : ℕ) → place_of t known ≡ Some k → place_of t (known ++ more) ≡ Some k
place_stays t known more k e = place-front t known more (placed t known k (sym e)) ∙ e

pub place_new : (t : Rgb) (known more : List Rgb) → place_of t known ≡ None → place_of t (known ++ t ∷ more) ≡ Some (length known)
place_new t known more e =
    ap (place_of t) (sym (append_assoc known (t ∷ []) more)) ∙ place-front t (known ++ t ∷ []) more (any_last t known) ∙ place-last t known (absent t known (sym e))

-- ---- one triple and then all of them

abbrev palette_of : ℕ → List Rgb → Colours
palette_of maxval known = record { maxval = maxval; triples = known }

-- the next triple gets its number among all the colours, and the others are read with the palette after it
abbrev IsNumbered : ℕ → ℕ → List Rgb → Rgb → List Rgb → List Rgb → Type 0
IsNumbered maxval place known t ts final =
    (now : List Rgb) × (number_with (palette_of maxval known) (record { place = place; colour = t }) ≡ Ok (number_among final t, palette_of maxval now)) × (seen_after now ts ≡ final)

by_place : (maxval place : ℕ) (known : List Rgb) (t : Rgb) (ts final : List Rgb) (o : Option ℕ) → place_of t known ≡ o → seen_after known (t ∷ ts) ≡ final → length final ≤ MAX_COLOURS
    → IsNumbered maxval place known t ts final
by_place maxval place known t ts final (Some k) e seen room =
    let stays : seen_after known ts ≡ final = ap (λ b. cond b (seen_after known ts) (seen_after (known ++ t ∷ []) ts)) (sym (placed t known k (sym e))) ∙ seen in
    let ext = seen-front known ts in
    let number : number_among final t ≡ k = ap (λ (xs : List Rgb). number_among xs t) (sym stays ∙ ext.1) ∙ ap (λ (p : Option ℕ). unwrap_or p 0) (place_stays t known ext.0 k e) in
    (known, ap (λ (p : Option ℕ). numbered_by p (palette_of maxval known) (record { place = place; colour = t })) e ∙ ap (λ (n : ℕ). Ok (n, palette_of maxval known)) (sym number), stays)
by_place maxval place known t ts final None e seen room =
    let now = known ++ t ∷ [] in
    let grows : seen_after now ts ≡ final = ap (λ b. cond b (seen_after known ts) (seen_after now ts)) (sym (absent t known (sym e))) ∙ seen in
    let ext = seen-front now ts in
    let all : final ≡ known ++ t ∷ ext.0 = sym grows ∙ ext.1 ∙ append_assoc known (t ∷ []) ext.0 in
    let number : number_among final t ≡ length known = ap (λ (xs : List Rgb). number_among xs t) all ∙ ap (λ (p : Option ℕ). unwrap_or p 0) (place_new t known ext.0 e) in
    let count : length final ≡ length known + suc (length ext.0) = ap length all ∙ length-append known (t ∷ ext.0) in
    let below : length known < MAX_COLOURS = omega arith in
    let fit : ltb (length known) MAX_COLOURS ≡ true = grind (arith, nat_tests) in (
      now,
      ap (λ (p : Option ℕ). numbered_by p (palette_of maxval known) (record { place = place; colour = t })) e
          ∙ ap (λ b. cond b (Ok (length known, palette_of maxval now)) (Err (TooManyColours place))) fit
          ∙ ap (λ (n : ℕ). Ok (n, palette_of maxval now)) (sym number),
      grows,
    )

abbrev pub AreLawful : ℕ → List Rgb → Type 0
AreLawful maxval ts = AllByRecursion (λ t. fits maxval t ≡ true) ts

-- cells that are read with these numbers, where the text goes on with the rest
abbrev ReadsCells : ℕ → ℕ → ℕ → List Rgb → List Rgb → List Rgb → List ℕ → Type 0
ReadsCells end place maxval known ts final rest =
    (next : ℕ)
    × (numbers_at end (length ts) (palette_of maxval known) (text_tokens place (flat_map triple_text ts ++ rest)) ≡ Ok (map (number_among final) ts, palette_of maxval final, text_tokens next rest))

pub cells_again : (end maxval : ℕ) (ts : List Rgb) (place : ℕ) (known final : List Rgb) (rest : List ℕ) → maxval ≤ 65535 → AreLawful maxval ts → seen_after known ts ≡ final
    → length final ≤ MAX_COLOURS
    → ReadsCells end place maxval known ts final rest
unfolding numbers_at number_at
cells_again end maxval [] place known final rest most lawful seen room =
    (place, ap (λ (xs : List Rgb). Ok ([], palette_of maxval xs, text_tokens place rest)) seen)
cells_again end maxval (t ∷ ts) place known final rest most lawful seen room =
    let one = by_place maxval place known t ts final (place_of t known) refl seen room in
    let others = cells_again end maxval ts (behind_triple place t) one.0 final rest most lawful.1 one.2 room in
    let tail : List ℕ = flat_map triple_text ts ++ rest in
    let after = text_tokens (behind_triple place t) tail in
    let triple : Triple = record { place = place; colour = t } in
    let regrouped : flat_map triple_text (t ∷ ts) ++ rest ≡ triple_text t ++ tail = append_assoc (triple_text t) (flat_map triple_text ts) rest in
    let colours = palette_of maxval known in
    let now = palette_of maxval one.0 in
    let number = number_among final t in
    let first : number_at end colours (text_tokens place (triple_text t ++ tail)) ≡ Ok (number, now, after) =
    bind_is (samples_at end maxval (text_tokens place (triple_text t ++ tail))) (triple, after) (λ read. number_with colours read.0 >>= λ cell. Ok (cell.0, cell.1, read.1))
    (triple_again end maxval place t tail lawful.0 most)
    ∙ bind_is (number_with colours triple) (number, now) (λ cell. Ok (cell.0, cell.1, after)) one.1 in (
      others.0,
      ap (λ (text : List ℕ). numbers_at end (suc (length ts)) colours (text_tokens place text)) regrouped
          ∙ bind_is (number_at end colours (text_tokens place (triple_text t ++ tail))) (number, now, after)
          (λ f. numbers_at end (length ts) f.1 f.2 >>= λ o. Ok (f.0 ∷ o.0, o.1, o.2)) first
          ∙ bind_is (numbers_at end (length ts) now after) (map (number_among final) ts, palette_of maxval final, text_tokens others.0 rest)
          (λ o. Ok (number ∷ o.0, o.1, o.2)) others.1,
    )
