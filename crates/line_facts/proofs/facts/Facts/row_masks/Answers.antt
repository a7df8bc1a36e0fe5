use Rattle.std.proofs.Common.{◌≡◌, ℕ, ◌+◌, ◌-◌, ◌*◌, List, take, drop, ap, sym, ◌∙◌, arith}
use Rattle.picture.specs.Rows.{row_at, Rows}
use Rattle.picture.proofs.FlatLaws.{row_at-rows_of}
use Rattle.line_facts.proofs.FactLemmas.{known}
use Rattle.line_facts.proofs.facts.Facts.row_masks.Goals as goal

pub returns : goal.returns
returns c =
    let f = c.self.inside in
    let k = known _ _ _ _ c.self.view_is c.self.invariant in
    let start = c.args.row * f.width in
    let same : c.deref.result.now ≡ f.masks.items = cc c.deref.ensures.value in
    let wide : start + f.width - start ≡ f.width = omega arith in
    ap (λ (n : ℕ). take n (drop start c.deref.result.now)) wide
    ∙ ap (λ (masks : List ℕ). take f.width (drop start masks)) same
    ∙ sym (row_at-rows_of f.height f.width f.masks.items c.args.row (omega (arith, k.tall)))
    ∙ ap (λ (rows : Rows). row_at rows c.args.row) c.self.view_is
