-- Colours in the cache keep their numbers while the palette grows.
use Rattle.std.proofs.Common.{◌≡◌, ℕ, ◌<◌, ltb, List, [], ◌∷◌, length, set, get_or, replicate, Option, Some, None, Ok, refl, sym, ap, subst, ◌∙◌, slice_get}
use Rattle.std.proofs.lemmas.List.Elements.{All-set, All-get_or, All-replicate, All-weaker}
use Rattle.picture.specs.declared.rgb.Rgb.{Rgb}
use Rattle.picture.specs.declared.picture.TheConstants.{MAX_COLOURS}
use Rattle.picture.specs.Palette.{Colours, place_of, with_colour}
use Rattle.ppm_text.specs.declared.fault.PpmFault.TheVariants.{Memory, TooManyColours}
use Rattle.ppm_text.specs.declared.fields.Triple.{Triple}
use Rattle.ppm_text.specs.declared.known.Known.{Known}
use Rattle.ppm_text.specs.Known.{AreKnown}
use Rattle.ppm_text.specs.Ppm.{number_with, numbered_by}
use Rattle.ppm_text.proofs.Binds.{test_ok, ok_is}
use Rattle.ppm_text.proofs.Numbering.{place_stays, place_new}
use Rattle.picture.proofs.ColourLaws.{same}

abbrev IsKnown : List Rgb → Known → Type 0
IsKnown triples k = place_of k.colour triples ≡ Some k.number

-- a known colour has its number
pub known_number : (colours : Colours) (triple : Triple) (known : List Known) (slot : ℕ) (d : Known) → slot < length known → AreKnown colours.triples known
    → (get_or known slot d).colour ≡ triple.colour
    → number_with colours triple ≡ Ok ((get_or known slot d).number, colours)
known_number colours triple known slot d lt all same =
    let one : place_of (get_or known slot d).colour colours.triples ≡ Some (get_or known slot d).number = All-get_or (IsKnown colours.triples) known slot d lt all.each in
    ap (λ (o : Option ℕ). numbered_by o colours triple) (ap (λ (rgb : Rgb). place_of rgb colours.triples) (sym same) ∙ one)

-- the palette after a triple was numbered: the triple has that number, and the others keep theirs
record IsGrown (t : Rgb) (n : ℕ) (old new : List Rgb) : Type 0 where
  numbered : place_of t new ≡ Some n
  kept : (rgb : Rgb) (k : ℕ) → place_of rgb old ≡ Some k → place_of rgb new ≡ Some k

grown_by : (colours : Colours) (triple : Triple) (o : Option ℕ) (n : ℕ) (after : Colours) → place_of triple.colour colours.triples ≡ o → numbered_by o colours triple ≡ Ok (n, after)
    → IsGrown triple.colour n colours.triples after.triples
grown_by colours triple (Some k) n after place e =
    subst (λ (x : ℕ × Colours). IsGrown triple.colour x.0 colours.triples x.1.triples) {x = (k, colours)} (ok_is Memory (k, colours) (n, after) e) (record { numbered = place; kept = λ rgb j h. h })
grown_by colours triple None n after place e =
    let made : ℕ × Colours = (length colours.triples, with_colour colours triple.colour) in
    let t = test_ok (ltb (length colours.triples) MAX_COLOURS) (TooManyColours triple.place) made (n, after) e in
    subst (λ (x : ℕ × Colours). IsGrown triple.colour x.0 colours.triples x.1.triples) {x = made} t.1 (record {
      numbered = place_new triple.colour colours.triples [] place;
      kept = λ rgb j h. place_stays rgb colours.triples (triple.colour ∷ []) j h;
    })

all_kept : (old new : List Rgb) → ((rgb : Rgb) (k : ℕ) → place_of rgb old ≡ Some k → place_of rgb new ≡ Some k) → (known : List Known) → AreKnown old known → AreKnown new known
all_kept old new kept known all = record { each = All-weaker (IsKnown old) (IsKnown new) (λ k h. kept k.colour k.number h) known all.each }

-- a colour that was numbered may be put among the known ones
pub known_after : (colours : Colours) (triple : Triple) (known : List Known) (slot n : ℕ) (after : Colours) → number_with colours triple ≡ Ok (n, after) → AreKnown colours.triples known
    → AreKnown after.triples (set known slot (record { colour = triple.colour; number = n }))
known_after colours triple known slot n after e all =
    let grown = grown_by colours triple (place_of triple.colour colours.triples) n after refl e in
    let kept = all_kept colours.triples after.triples grown.kept known all in
    record { each = All-set (IsKnown after.triples) known slot (record { colour = triple.colour; number = n }) grown.numbered kept.each }

pub ruleset knowing = (known_number, known_after)

first_place : (triples : List Rgb) (colour : Rgb) → slice_get triples 0 ≡ Some colour → place_of colour triples ≡ Some 0
first_place [] colour e = absurd cc
first_place (t ∷ triples) colour e =
    let is : t ≡ colour = cc in
    subst (λ (c : Rgb). place_of colour (c ∷ triples) ≡ Some 0) {x = colour} (sym is) (rw (same colour) refl)

-- the background is known at each slot
pub background_known : (triples : List Rgb) (colour : Rgb) (slots : ℕ) → slice_get triples 0 ≡ Some colour → AreKnown triples (replicate slots (record { colour = colour; number = 0 }))
background_known triples colour slots e = record { each = All-replicate (IsKnown triples) slots (record { colour = colour; number = 0 }) (first_place triples colour e) }
