use Rattle.std.proofs.Common.{◌+◌, ◌<◌, ◌∙◌, ◌≡◌, ap, arith, length, suc}
use Rattle.second_search.specs.declared.counting.Ending.TheVariants as ending
use Rattle.second_search.specs.JudgedParts.{EndsPart, Passes, Stops, kept_at}
use Rattle.second_search.specs.Parts.{board}
use Rattle.second_search.proofs.DrawLemmas.{few_parts, few_then}
use Rattle.second_search.proofs.VerdictLemmas.{done_then, passes_more, stops_found, stops_here}
use Rattle.second_search.proofs.keeper.Keeper.search_parts.Goals as goal

pub returns-in_default-clause-stops : goal.returns-in_default-clause-stops
returns-in_default-clause-stops g c =
    let s = c.args.scene.now in
    let kept = c.args.self.now in
    let n = c.loop-i.i in
    let same : length c.self.inside.kept.items ≡ length kept = ap length c.self.view_is in
    let inside : n < length kept = omega (arith, same) in
    let before = Passes (board s.clues.now s.facts.now s.picture.now) c.args.allowance kept n in
    let ended = c.in_ok-ending in
    let here = EndsPart (board s.clues.now s.facts.now s.picture.now) c.args.allowance (kept_at kept n) ended.ending in
    done_then _ _ _ _ _ _ before here (Stops (board s.clues.now s.facts.now s.picture.now) c.args.allowance kept n ended.ending) c.loop-i.invariant.done ended.ensures.ends c.plus-spent.ensures
    (λ m k x y p e. stops_found s.clues.now s.facts.now s.picture.now c.args.allowance kept n ended.ending (m + x) (k + y) c.in_default.not-Nothing
    (stops_here s.clues.now s.facts.now s.picture.now c.args.allowance kept n ended.ending m k x y inside p e))

pub loop-i-preserved : goal.loop-i-preserved
loop-i-preserved g c =
    let s = c.args.scene.now in
    let kept = c.args.self.now in
    let n = c.loop-i.i in
    let before = Passes (board s.clues.now s.facts.now s.picture.now) c.args.allowance kept n in
    let here = EndsPart (board s.clues.now s.facts.now s.picture.now) c.args.allowance (kept_at kept n) in
    let next : suc n ≡ n + 1 = omega arith in
    record {
      done = rw next at (done_then _ _ _ _ _ _ before (here ending.Nothing) (Passes (board s.clues.now s.facts.now s.picture.now) c.args.allowance kept (suc n)) c.loop-i.invariant.done
          (rw c.in-Nothing.is at c.in_ok-ending.ensures.ends) c.plus-spent.ensures (λ m k x y. passes_more s.clues.now s.facts.now s.picture.now c.args.allowance kept n m k x y));
      spent = few_then c.args.allowance s.facts.now n _ _ _ _ c.loop-i.invariant.spent c.in_ok-ending.ensures.spent (let up = c.plus-spent.ensures.evaluations in omega arith) (omega arith);
      few = few_then c.args.allowance s.facts.now n _ _ _ _ c.loop-i.invariant.few c.search_one.ensures.few (omega arith) (omega arith);
      calls = omega arith;
      same_longest = c.search_one.ensures.same_longest ∙ c.loop-i.invariant.same_longest;
    }

pub search_one-requires-clause-can : goal.search_one-requires-clause-can
search_one-requires-clause-can g c = rw c.loop-i.invariant.same_longest c.requires.can

pub returns-in_err-ending-clause-few : goal.returns-in_err-ending-clause-few
returns-in_err-ending-clause-few g c =
    let same : length c.self.inside.kept.items ≡ length c.args.self.now = ap length c.self.view_is in
    few_then c.args.allowance c.args.scene.now.facts.now c.loop-i.i _ _ _ _ c.loop-i.invariant.few c.search_one.ensures.few (omega arith) (omega (arith, same))

pub returns-in_default-clause-spent : goal.returns-in_default-clause-spent
returns-in_default-clause-spent g c =
    let same : length c.self.inside.kept.items ≡ length c.args.self.now = ap length c.self.view_is in
    few_then c.args.allowance c.args.scene.now.facts.now c.loop-i.i _ _ _ _ c.loop-i.invariant.spent c.in_ok-ending.ensures.spent
    (let up = c.plus-spent.ensures.evaluations in omega arith) (omega (arith, same))

pub returns-in_default-clause-few : goal.returns-in_default-clause-few
returns-in_default-clause-few g c =
    let same : length c.self.inside.kept.items ≡ length c.args.self.now = ap length c.self.view_is in
    few_then c.args.allowance c.args.scene.now.facts.now c.loop-i.i _ _ _ _ c.loop-i.invariant.few c.search_one.ensures.few (omega arith) (omega (arith, same))

pub returns-clause-spent : goal.returns-clause-spent
returns-clause-spent g c =
    let same : length c.self.inside.kept.items ≡ length c.args.self.now = ap length c.self.view_is in
    few_parts c.args.allowance c.args.scene.now.facts.now c.loop-i.i _ _ _ c.loop-i.invariant.spent (omega arith) (omega (arith, same))

pub returns-clause-few : goal.returns-clause-few
returns-clause-few g c =
    let same : length c.self.inside.kept.items ≡ length c.args.self.now = ap length c.self.view_is in
    few_parts c.args.allowance c.args.scene.now.facts.now c.loop-i.i _ _ _ c.loop-i.invariant.few (omega arith) (omega (arith, same))
