-- A whole written text is read again.
use Rattle.std.proofs.Common.{◌≡◌, ℕ, suc, ◌*◌, ◌<◌, ◌≤◌, true, cond, eqb, List, [], ◌∷◌, ◌++◌, length, map, take, drop, get_or, Option, Some, Result, Ok, Err, refl, sym, ap, ◌∙◌, append_assoc}
use Rattle.std.proofs.Common.{length-append, arith, codes}
use Rattle.std.specs.List.{flat_map, AllByRecursion}
use Rattle.std.proofs.lemmas.Bool.{or_right}
use Rattle.std.proofs.lemmas.List.{append-nil, map-append, length-map}
use Rattle.std.proofs.lemmas.List.Concat.{flat_map-append}
use Rattle.std.proofs.Math.Seq.{take-append_seam, drop-append_seam}
use Rattle.picture.specs.declared.picture.TheConstants.{MAX_SIDE}
use Rattle.picture.specs.Readers.{◌>>=◌}
use Rattle.picture.specs.CellSet.{no_cells}
use Rattle.picture.specs.Document.{Content, first_of, triples_of, seen_after, number_among, ordered_triples}
use Rattle.picture.specs.Palette.{Colours, fits, only_background, triple_at}
use Rattle.picture.specs.Rows.{rows_of, width_of, Rows}
use Rattle.picture.specs.declared.rgb.Rgb.{Rgb}
use Rattle.ppm_text.specs.declared.fault.PpmFault.{PpmFault}
use Rattle.ppm_text.specs.declared.fault.PpmFault.TheVariants.{NotP3}
use Rattle.ppm_text.specs.Tokens.{Token, Unread, magic_of}
use Rattle.ppm_text.specs.Samples.{side_at}
use Rattle.ppm_text.specs.Ppm.{Header, header_of, palette_at, numbers_at, at_the_end, ppm_of}
use Rattle.picture.specs.Writers.{number_text}
use Rattle.ppm_text.specs.Text.{triple_text, rows_text, ppm_text}
use Rattle.ppm_text.specs.RoundTrip.{IsUngiven, IsReadAgain}
use Rattle.ppm_text.proofs.Binds.{bind_is}
use Rattle.ppm_text.proofs.Spelled.{text_tokens, behind, space_closes, line_end_closes, side_again, palette_again}
use Rattle.ppm_text.proofs.Numbering.{AreLawful, cells_again}
use Rattle.ppm_text.proofs.Seen.{rows_among, all_lawful, first_among}
use Rattle.picture.proofs.ColourLaws.{few_seen, fits_there}

-- ---- the text of the rows is that of their triples

row_is_triples : (triples : List Rgb) (row : List ℕ) → flat_map (λ (cell : ℕ). triple_text (triple_at triples cell)) row ≡ flat_map triple_text (triples_of triples row)
row_is_triples triples [] = refl
row_is_triples triples (k ∷ row) = ap (λ (x : List ℕ). triple_text (triple_at triples k) ++ x) (row_is_triples triples row)

rows_are_triples : (triples : List Rgb) (rows : Rows) → rows_text triples rows ≡ flat_map triple_text (flat_map (triples_of triples) rows)
rows_are_triples triples [] = refl
rows_are_triples triples (row ∷ rows) =
    ap (λ (x : List ℕ). x ++ rows_text triples rows) (row_is_triples triples row)
    ∙ ap (λ (x : List ℕ). flat_map triple_text (triples_of triples row) ++ x) (rows_are_triples triples rows)
    ∙ sym (flat_map-append triple_text (triples_of triples row) (flat_map (triples_of triples) rows))

-- ---- rows of one width

abbrev AreWide : ℕ → Rows → Type 0
AreWide width rows = AllByRecursion (λ row. length row ≡ width) rows

wide_by : (width : ℕ) (rows : Rows) → ((i : ℕ) → i < length rows → length (get_or rows i []) ≡ width) → AreWide width rows
wide_by width [] h = tt
wide_by width (row ∷ rows) h = (h 0 (omega arith), wide_by width rows (λ i lt. h (suc i) (omega arith)))

count_triples : (triples : List Rgb) (width : ℕ) (rows : Rows) → AreWide width rows → length rows * width ≡ length (flat_map (triples_of triples) rows)
count_triples triples width [] wide = omega arith
count_triples triples width (row ∷ rows) wide =
    let one : length (triples_of triples row) ≡ width = length-map row (λ k. get_or triples k (first_of triples)) ∙ wide.0 in
    let all = length-append (triples_of triples row) (flat_map (triples_of triples) rows) in
    omega (arith, one, all, count_triples triples width rows wide.1)

abbrev renumbered : List Rgb → List Rgb → List ℕ → List ℕ
renumbered final triples row = map (number_among final) (triples_of triples row)

rows_again : (final triples : List Rgb) (width : ℕ) (rows : Rows) → AreWide width rows
    → rows_of (length rows) width (map (number_among final) (flat_map (triples_of triples) rows)) ≡ map (renumbered final triples) rows
rows_again final triples width [] wide = refl
rows_again final triples width (row ∷ rows) wide =
    let a = renumbered final triples row in
    let b = map (number_among final) (flat_map (triples_of triples) rows) in
    let len : length a ≡ width = length-map (triples_of triples row) (number_among final) ∙ length-map row (λ k. get_or triples k (first_of triples)) ∙ wide.0 in
    let whole : map (number_among final) (flat_map (triples_of triples) (row ∷ rows)) ≡ a ++ b = map-append (number_among final) (triples_of triples row) (flat_map (triples_of triples) rows) in
    let front : take width (a ++ b) ≡ a = ap (λ (n : ℕ). take n (a ++ b)) (sym len) ∙ take-append_seam a b in
    let back : drop width (a ++ b) ≡ b = ap (λ (n : ℕ). drop n (a ++ b)) (sym len) ∙ drop-append_seam a b in
    ap (rows_of (suc (length rows)) width) whole
    ∙ ap (λ (x : List ℕ). x ∷ rows_of (length rows) width (drop width (a ++ b))) front
    ∙ ap (λ (x : List ℕ). a ∷ rows_of (length rows) width x) back
    ∙ ap (λ (x : List (List ℕ)). a ∷ x) (rows_again final triples width rows wide.1)

-- ---- the whole text

magic_again : (body : List ℕ) → magic_of (codes "P3\n" ++ body) ≡ Ok (record { end = length (codes "P3\n" ++ body); tokens = text_tokens 3 body })
magic_again body = ap (λ b. cond b (Ok (record { end = length (codes "P3\n" ++ body); tokens = text_tokens 3 body })) (Err (NotP3 0))) (or_right (eqb (length (codes "P3\n" ++ body)) 2) true refl)

-- the steps of reading, each with what follows it
abbrev with_cells : Header → List ℕ × Colours × List Token → Result Content PpmFault
with_cells header cells = at_the_end (record { colours = cells.1; rows = rows_of header.height header.width cells.0; givens = no_cells }) cells.2

abbrev with_header : Header → Result Content PpmFault
with_header header = numbers_at header.rest.end (header.height * header.width) header.colours header.rest.tokens >>= with_cells header

abbrev with_palette : ℕ → ℕ → ℕ → Colours × List Token → Result Header PpmFault
with_palette end height width palette = Ok (record { width = width; height = height; colours = palette.0; rest = record { end = end; tokens = palette.1 } })

abbrev with_height : Option Rgb → ℕ → ℕ → ℕ × List Token → Result Header PpmFault
with_height background end width height = palette_at background end height.1 >>= with_palette end height.0 width

abbrev with_width : Option Rgb → ℕ → ℕ × List Token → Result Header PpmFault
with_width background end width = side_at end width.1 >>= with_height background end width.0

abbrev with_start : Option Rgb → Unread → Result Header PpmFault
with_start background start = side_at start.end start.tokens >>= with_width background start.end

header_steps : (text : List ℕ) (background : Option Rgb) → header_of text background ≡ (magic_of text >>= with_start background)
unfolding header_of
header_steps text background = refl

steps : (text : List ℕ) (background : Option Rgb) → ppm_of text background ≡ (header_of text background >>= with_header)
unfolding ppm_of
steps text background = refl

-- reading a text that is spelled number by number
read_steps : (width height maxval : ℕ) (background : Rgb) (ts final : List Rgb) → 0 < width → width ≤ MAX_SIDE → 0 < height → height ≤ MAX_SIDE → 0 < maxval → maxval ≤ 65535
    → fits maxval background ≡ true
    → height * width ≡ length ts → AreLawful maxval ts → seen_after (background ∷ []) ts ≡ final → length final ≤ 16
    → ppm_of (codes "P3\n" ++ (number_text width 32 ++ (number_text height 10 ++ (number_text maxval 10 ++ (flat_map triple_text ts ++ []))))) (Some background)
    ≡ Ok (record { colours = record { maxval = maxval; triples = final }; rows = rows_of height width (map (number_among final) ts); givens = no_cells })
read_steps width height maxval background ts final some_width most_width some_height most_height some_maxval most_maxval lawful count all_lawful seen room =
    let third : List ℕ = number_text maxval 10 ++ (flat_map triple_text ts ++ []) in
    let second : List ℕ = number_text height 10 ++ third in
    let body : List ℕ = number_text width 32 ++ second in
    let end : ℕ = length (codes "P3\n" ++ body) in
    let at1 : ℕ = behind 3 width in
    let at2 : ℕ = behind at1 height in
    let at3 : ℕ = behind at2 maxval in
    let start : Unread = record { end = end; tokens = text_tokens 3 body } in
    let palette : Colours = only_background maxval background in
    let cells = cells_again end maxval ts at3 (background ∷ []) final [] most_maxval all_lawful seen room in
    let read : numbers_at end (height * width) palette (text_tokens at3 (flat_map triple_text ts ++ [])) ≡ Ok (map (number_among final) ts, record { maxval = maxval; triples = final }, []) =
    ap (λ (n : ℕ). numbers_at end n palette (text_tokens at3 (flat_map triple_text ts ++ []))) count ∙ cells.1 in
    let header : Header = record { width = width; height = height; colours = palette; rest = record { end = end; tokens = text_tokens at3 (flat_map triple_text ts ++ []) } } in
    let header_again : header_of (codes "P3\n" ++ body) (Some background) ≡ Ok header =
    header_steps (codes "P3\n" ++ body) (Some background)
    ∙ bind_is (magic_of (codes "P3\n" ++ body)) start (with_start (Some background)) (magic_again body)
    ∙ bind_is (side_at end (text_tokens 3 body)) (width, text_tokens at1 second) (with_width (Some background) end) (side_again end 3 width 32 second some_width most_width space_closes)
    ∙ bind_is (side_at end (text_tokens at1 second)) (height, text_tokens at2 third) (with_height (Some background) end width)
    (side_again end at1 height 10 third some_height most_height line_end_closes)
    ∙ bind_is (palette_at (Some background) end (text_tokens at2 third)) (palette, text_tokens at3 (flat_map triple_text ts ++ [])) (with_palette end height width)
    (palette_again background end at2 maxval (flat_map triple_text ts ++ []) some_maxval most_maxval lawful) in
    steps (codes "P3\n" ++ body) (Some background)
    ∙ bind_is (header_of (codes "P3\n" ++ body) (Some background)) header with_header header_again
    ∙ bind_is (numbers_at end (height * width) palette (text_tokens at3 (flat_map triple_text ts ++ []))) (map (number_among final) ts, record { maxval = maxval; triples = final }, [])
    (with_cells header) read

written_so : (d : Content) → ppm_text d ≡ codes "P3\n"
    ++ (number_text (width_of d.rows) 32 ++ (number_text (length d.rows) 10 ++ (number_text d.colours.maxval 10 ++ (flat_map triple_text (flat_map (triples_of d.colours.triples) d.rows) ++ []))))
written_so d =
    let w : List ℕ = number_text (width_of d.rows) 32 in
    let h : List ℕ = number_text (length d.rows) 10 in
    let m : List ℕ = number_text d.colours.maxval 10 in
    let r : List ℕ = rows_text d.colours.triples d.rows in
    let ts : List ℕ = flat_map triple_text (flat_map (triples_of d.colours.triples) d.rows) in
    let same : (w ++ (h ++ m)) ++ r ≡ w ++ (h ++ (m ++ (ts ++ []))) =
    append_assoc w (h ++ m) r ∙ ap (λ (x : List ℕ). w ++ x) (append_assoc h m r) ∙ ap (λ (x : List ℕ). w ++ (h ++ (m ++ x))) (rows_are_triples d.colours.triples d.rows ∙ sym (append-nil ts)) in
    ap (λ (x : List ℕ). codes "P3\n" ++ x) same

pub is_read_again : (d : Content) → IsUngiven d → IsReadAgain d
is_read_again d u =
    let triples = d.colours.triples in
    let rows = d.rows in
    let ts = flat_map (triples_of triples) rows in
    let final = ordered_triples triples rows in
    let wide = wide_by (width_of rows) rows u.picture.rectangular in
    let among = rows_among triples rows u.palette.has_background in
    let lawful = all_lawful d.colours.maxval triples ts u.palette.samples_fit among in
    let few : length final ≤ 16 = omega (arith, few_seen triples ts (first_of triples) (first_among triples u.palette.has_background) among, u.palette.colours_fit) in
    let first_fits : fits d.colours.maxval (first_of triples) ≡ true = fits_there d.colours.maxval (first_of triples) triples u.palette.samples_fit (first_among triples u.palette.has_background) in
    ap (λ (text : List ℕ). ppm_of text (Some (first_of triples))) (written_so d)
    ∙ read_steps (width_of rows) (length rows) d.colours.maxval
    (first_of triples) ts final u.picture.has_column u.picture.columns_fit u.picture.has_row u.picture.rows_fit u.palette.has_maxval u.palette.maxval_fits first_fits
    (count_triples triples (width_of rows) rows wide) lawful refl few
    ∙ ap (λ (x : List (List ℕ)). Ok (record { colours = record { maxval = d.colours.maxval; triples = final }; rows = x; givens = no_cells })) (rows_again final triples (width_of rows) rows wide)
    ∙ ap (λ (x : List ℕ). Ok (record { colours = record { maxval = d.colours.maxval; triples = final }; rows = map (renumbered final triples) rows; givens = x })) (sym u.givens)
