use Rattle.std.proofs.Common.{◌≡◌, false, true, refl, sym, ◌∙◌, arith}
use Rattle.std.proofs.lemmas.Bool.{false≢true}
use Rattle.assess.proofs.SpareLemmas.{all_tried, next_row, none_tried, needed_if, one_less, one_more, skipped, spare_if}
use Rattle.assess.proofs.spare.find_spare.Goals as goal

pub loop-row-init : goal.loop-row-init
loop-row-init g c =
    let d = c.args.document.now in
    record { tried = none_tried d.picture d.givens _; calls = omega arith; same_longest = refl }

pub loop-row-preserved : goal.loop-row-preserved
loop-row-preserved g c =
    let d = c.args.document.now in
    record {
      tried = next_row d.picture d.givens c.loop-col.waiting c.loop-row.row c.loop-col.col _ _ d.inside (omega arith) c.loop-col.invariant.tried;
      calls = c.loop-col.invariant.calls;
      same_longest = c.loop-col.invariant.same_longest;
    }

pub loop-col-preserved-then-not-has : goal.loop-col-preserved-then-not-has
loop-col-preserved-then-not-has g c =
    let d = c.args.document.now in
    let i = c.loop-col.invariant in
    record {
      tried = skipped d.picture d.givens c.loop-col.waiting c.loop-row.row c.loop-col.col _ _ i.tried (λ h. false≢true (sym c.if-not-has.true ∙ c.has.ensures.value.1 h));
      calls = i.calls;
      same_longest = i.same_longest;
    }

pub loop-col-preserved : goal.loop-col-preserved
loop-col-preserved g c =
    let d = c.args.document.now in
    let i = c.loop-col.invariant in
    let has = c.has.ensures.value.0 c.if-not-has.false in
    let needed = needed_if d.picture d.givens c.height.ensures.picture d.inside c.requires.mapped c.loop-row.row c.loop-col.col (i.tried.are _ _ has) c.in_ok-settles.settles c.if-settles.false
    c.in_ok-settles.ensures.settles in
    record {
      tried =
          one_more d.picture d.givens c.loop-col.waiting c.take_out.new.self c.loop-row.row c.loop-col.col _ _ _ i.tried c.take_out.ensures.members (c.take_out.ensures.fewer has) needed
          c.settles_without.ensures.few;
      calls = (let before = i.calls in let more = c.settles_without.ensures.calls in omega (arith, before, more));
      same_longest = c.settles_without.ensures.same_longest ∙ i.same_longest;
    }

pub returns-then-settles-clause-spare : goal.returns-then-settles-clause-spare
returns-then-settles-clause-spare g c =
    let d = c.args.document.now in
    let i = c.loop-col.invariant in
    let has = c.has.ensures.value.0 c.if-not-has.false in (
      spare_if d.picture d.givens c.height.ensures.picture d.inside c.requires.mapped c.loop-row.row c.loop-col.col (i.tried.are _ _ has) c.in_ok-settles.settles c.if-settles.true
          c.requires.only c.in_ok-settles.ensures.settles,
      i.tried.so_far,
    )

pub returns-then-settles-clause-few : goal.returns-then-settles-clause-few
returns-then-settles-clause-few g c =
    let fewer = c.take_out.ensures.fewer (c.has.ensures.value.0 c.if-not-has.false) in
    let all = one_less _ _ _ _ _ _ _ fewer c.loop-col.invariant.tried.few c.settles_without.ensures.few in
    omega (arith, all)

pub returns-in_err-settles-clause-few : goal.returns-in_err-settles-clause-few
returns-in_err-settles-clause-few g c =
    let fewer = c.take_out.ensures.fewer (c.has.ensures.value.0 c.if-not-has.false) in
    let all = one_less _ _ _ _ _ _ _ fewer c.loop-col.invariant.tried.few c.settles_without.ensures.few in
    omega (arith, all)

pub returns-clause-spare : goal.returns-clause-spare
returns-clause-spare g c =
    let d = c.args.document.now in
    all_tried d.picture d.givens c.loop-row.row d.inside (omega arith) c.loop-row.invariant.tried.so_far

pub returns-clause-few : goal.returns-clause-few
returns-clause-few g c =
    let all = c.loop-row.invariant.tried.few in
    omega (arith, all)
