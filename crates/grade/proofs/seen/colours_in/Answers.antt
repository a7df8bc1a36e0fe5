use Rattle.std.proofs.Common.{◌+◌, ◌<◌, get_or, sym, ap, ◌∙◌, arith, take}
use Rattle.std.specs.Prelude.{count_ones}
use Rattle.std.proofs.lemmas.List.{take_more}
use Rattle.std.proofs.lemmas.List.Sums.{sum_by_push}
use Rattle.std.specs.List.{sum_by}
use Rattle.grade.proofs.FallLemmas.{few_ones}
use Rattle.grade.proofs.seen.colours_in.Goals as goal

pub loop-mask-preserved : goal.loop-mask-preserved
loop-mask-preserved c =
    let i = c.loop-mask.mask-index in
    let masks = c.args.masks.now in
    let small : get_or masks i 0 < 65536 = omega (arith, c.type_inv.masks i) in
    let few = few_ones (get_or masks i 0) small in
    let more = sum_by_push count_ones (take i masks) (get_or masks i 0) in
    record {
      total = ap (λ n. n + count_ones (get_or masks i 0)) c.loop-mask.invariant.total ∙ (sym more ∙ ap (sum_by count_ones) (sym (take_more masks i 0 c.loop-mask-test.true)));
      few = omega (arith, c.loop-mask.invariant.few, few);
    }
