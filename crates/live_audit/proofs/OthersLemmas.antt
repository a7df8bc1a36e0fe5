-- A document has another picture exactly where its ordered form has one.
use Rattle.std.proofs.Common.{◌≡◌, ℕ, ◌<◌, List, Option, None, Some, Result, Ok, Err, IfOk, refl, sym, ap, subst, ◌∙◌}
use Rattle.std.specs.List.{flat_map}
use Rattle.picture.specs.declared.document.Document.{Document}
use Rattle.picture.specs.declared.rgb.Rgb.{Rgb}
use Rattle.picture.specs.Content.{content_of}
use Rattle.picture.specs.Document.{AreColoured, Content, ordered_of, ordered_triples, rows_shown, triples_of}
use Rattle.picture.specs.Palette.{IsPalette}
use Rattle.picture.specs.Picture.{IsPicture}
use Rattle.picture.specs.Rows.{cell_at, Rows}
use Rattle.clues.specs.Laws.{BooksAreTheirClues, CluesAreOfLines}
use Rattle.cert_text.specs.Cert.{Certificate}
use Rattle.edits.specs.Design.{Design, design_of}
use Rattle.live_audit.specs.Certify.{Certifies, CertifiesOrdered, ordered}
use Rattle.live_audit.specs.Verdict.{IsOtherFor}
use Rattle.live_audit.proofs.OrderLemmas.{background_back, background_there, cells_back, rows_moved, there_of}
use Rattle.live_audit.proofs.RenumberLemmas.{cell_moved, moved, other_moved, restored}

-- where a document has another picture, so has its ordered form, and the other way round
pub record SameOthers (d : Design) : Type 0 where
  pub there : (other : Rows) → IsOtherFor d other → (more : List (List ℕ)) × IsOtherFor (ordered d) more
  pub back : (other : Rows) → IsOtherFor (ordered d) other → (more : List (List ℕ)) × IsOtherFor d more

pub same_others : CluesAreOfLines → BooksAreTheirClues → (d o : Document) → IsPalette d.palette → AreColoured d.picture d.palette → IsPicture d.picture → IsPicture o.picture
    → content_of o ≡ ordered_of (content_of d) → rows_shown o.palette.triples o.picture ≡ rows_shown d.palette.triples d.picture → SameOthers (design_of d)
same_others law books d o palette coloured is ordered_is content shows =
    let triples = d.palette.triples in
    let rows = d.picture in
    let among = ordered_triples triples rows in
    let next = (ordered (design_of d)).rows in
    let cells = flat_map (triples_of triples) rows in
    let t : there_of among triples 0 ≡ 0 = background_there triples cells palette.has_background in
    let b : there_of triples among 0 ≡ 0 = background_back triples cells palette.has_background in
    let pictures : o.picture ≡ next = ap (λ (c : Content). c.rows) content in
    let colours : o.palette.triples ≡ among = ap (λ (c : Content). c.colours.triples) content in
    let Q : List (List ℕ) → Type 0 = λ r. rows_shown among r ≡ rows_shown triples rows in
    let shown : rows_shown among next ≡ rows_shown triples rows = subst Q pictures (subst (λ (ts : List Rgb). rows_shown ts o.picture ≡ rows_shown triples rows) colours shows) in
    let comes = cells_back among triples rows t b palette.distinct coloured shown in
    let are : next ≡ moved (there_of among triples) rows = rows_moved among triples rows in
    let cell : (i j : ℕ) → cell_at next i j ≡ there_of among triples (cell_at rows i j) = λ i j.
    ap (λ (r : List (List ℕ)). cell_at r i j) are ∙ cell_moved (there_of among triples) t rows i j in
    let next_is : IsPicture next = subst (λ (r : List (List ℕ)). IsPicture r) pictures ordered_is in
    let small : (i j : ℕ) → there_of among triples (cell_at rows i j) < 16 = λ i j. subst (λ n. n < 16) (cell i j) (next_is.colours i j) in
    let goes_back : (i j : ℕ) → there_of triples among (cell_at next i j) ≡ cell_at rows i j = λ i j. ap (there_of triples among) (cell i j) ∙ comes i j in
    let comes_back : (i j : ℕ) → there_of among triples (there_of triples among (cell_at next i j)) ≡ cell_at next i j = λ i j. ap (there_of among triples) (goes_back i j) ∙ sym (cell i j) in
    let small_back : (i j : ℕ) → there_of triples among (cell_at next i j) < 16 = λ i j. subst (λ n. n < 16) (sym (goes_back i j)) (is.colours i j) in
    let was : rows ≡ moved (there_of triples among) next = sym (restored (there_of among triples) (there_of triples among) rows comes) ∙ ap (moved (there_of triples among)) (sym are) in
    record {
      there = λ other h.
          (moved (there_of among triples) other, other_moved law books (there_of among triples) (there_of triples among) t b (design_of d) (ordered (design_of d)) are refl comes small other h);
      back = λ other h. (
        moved (there_of triples among) other,
        other_moved law books (there_of triples among) (there_of among triples) b t (ordered (design_of d)) (design_of d) was refl comes_back small_back other h,
      );
    }

pub joined : {X : Type 0} (d : Design) (result : Result (Option Certificate) X) → SameOthers d → IfOk result (CertifiesOrdered d) → IfOk result (Certifies d)
joined d (Ok None) s h = s.back h.0 h.1
joined d (Ok (Some cert)) s h = (h, λ other o. let more = s.there other o in h.no_other more.0 more.1)
joined d (Err e) s h = tt
