-- A palette has room for a colour that it lacks, if another palette has that colour and all of its own.
use Rattle.std.proofs.Common.{◌≡◌, ℕ, ◌<◌, true, false, List, [], ◌∷◌, ◌++◌, length, Option, Some, None, refl, sym, subst, ap, ◌∙◌, inl, inr, arith, ◌⊎◌, slice_get}
use Rattle.std.specs.List.{list_any}
use Rattle.std.proofs.lemmas.Bool.{cases_Bool}
use Rattle.std.proofs.lemmas.List.{length_push}
use Rattle.std.proofs.lemmas.Map.Keys.{IsDistinct-push, any_passes_from_place}
use Rattle.picture.specs.declared.rgb.Rgb.{Rgb}
use Rattle.picture.specs.declared.palette.PaletteFault.{PaletteFault}
use Rattle.picture.specs.declared.palette.PaletteFault.TheVariants.{Memory}
use Rattle.picture.specs.Palette.{Colours, rgb_eq, fits, first_of, triple_at, place_of, add_fault, stands_elsewhere, IsPalette, AreAmong, HasPlaceFor}
use Rattle.picture.specs.Document.{with_seen}
use Rattle.picture.proofs.ColourLaws.{same, absent, every_append, rgb_equiv, Among, few_among, fits_there}
use Rattle.picture.proofs.PaletteLemmas.{not_full, at_no_other}

-- different colours of one palette are at most as many as it has
room : (known : Colours) (rgb : Rgb) → IsPalette known → HasPlaceFor known rgb → list_any (rgb_eq rgb) known.triples ≡ false → length known.triples < 16
room known rgb palette place new =
    let both : Among place.all.triples (known.triples ++ rgb ∷ []) = every_append (λ t. list_any (rgb_eq t) place.all.triples ≡ true) known.triples (rgb ∷ []) place.among.each (place.there, tt) in
    let few = few_among place.all.triples (known.triples ++ rgb ∷ []) (IsDistinct-push rgb_equiv known.triples rgb palette.distinct new) both in
    omega (arith, few, length_push known.triples rgb, place.palette.colours_fit)

pub no_fault : (known : Colours) (rgb : Rgb) → IsPalette known → HasPlaceFor known rgb → None ≡ place_of rgb known.triples → add_fault known rgb ≡ None
no_fault known rgb palette place unplaced =
    let new = absent rgb known.triples unplaced in
    let fit : fits known.maxval rgb ≡ true = subst (λ m. fits m rgb ≡ true) (sym place.among.maxval) (fits_there place.all.maxval rgb place.all.triples place.palette.samples_fit place.there) in
    rw (not_full (length known.triples) (room known rgb palette place new), new, fit) refl

-- a colour that a number has is in the list
pub there : (triples : List Rgb) (k : ℕ) (rgb : Rgb) → slice_get triples k ≡ Some rgb → list_any (rgb_eq rgb) triples ≡ true
there triples k rgb at = any_passes_from_place (rgb_eq rgb) triples k rgb at (same rgb)

-- colours of another palette stay so with one more of them
pub among_more : (now new all : Colours) (rgb : Rgb) → AreAmong now all → list_any (rgb_eq rgb) all.triples ≡ true → new ≡ with_seen now (rgb ∷ []) → AreAmong new all
among_more now new all rgb among is step = grind (arith, every_append, list_any, rgb_eq)

-- ---- the colour at a number

module _ (colours : Colours) (k : ℕ) (rgb : Rgb) (palette : IsPalette colours) (lt : k < length colours.triples) (own : triple_at colours.triples k ≡ rgb) where
  pub own_nowhere : stands_elsewhere colours.triples k rgb ≡ false
  own_nowhere = at_no_other rgb (first_of colours.triples) colours.triples k lt palette.distinct (subst (λ t. rgb_eq t rgb ≡ true) (sym own) (same rgb))

-- if there is no error in adding a colour, the error that is answered is out of memory
pub only_memory : (fault : Option PaletteFault) (e : PaletteFault) → fault ≡ None → (fault ≡ Some e) ⊎ ((fault ≡ None) × (e ≡ Memory)) → e ≡ Memory
only_memory fault e none refused = grind arith
