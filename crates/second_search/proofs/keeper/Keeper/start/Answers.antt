use Rattle.std.proofs.Common.{◌∙◌, List, ℕ, ap, arith, length, refl, sym}
use Rattle.second_search.specs.Parts.{part_at}
use Rattle.second_search.proofs.VerdictLemmas.{all_started, starts_more, starts_none}
use Rattle.second_search.proofs.keeper.Keeper.start.Goals as goal

pub loop-i-init : goal.loop-i-init
loop-i-init c = starts_none c.parts.inside.parts.items c.new-kept.result.items c.new-kept.ensures.items

pub loop-i-preserved : goal.loop-i-preserved
loop-i-preserved c =
    let same = ap (λ (xs : List (List ℕ)). part_at xs c.loop-i.i) (sym c.parts.view_is) in
    starts_more c.parts.inside.parts.items c.loop-i.kept.items c.push.new.self.items _ c.loop-i.i c.loop-i.invariant c.in_ok-push.ensures.items (c.cells.ensures ∙ same) refl

pub returns : goal.returns
returns c =
    let count = ap length c.parts.view_is in
    all_started c.args.facts.now c.parts.inside.parts.items c.loop-i.kept.items c.loop-i.i (rw c.parts.view_is c.in_ok-parts.ensures) c.loop-i.invariant
    (omega (arith, count, c.loop-i-test.false, c.loop-i.auto.i-end, c.len-i-end.ensures))
