use Rattle.std.proofs.Common.{refl, ◌∙◌, arith}
use Rattle.line_facts.proofs.ForceLaws.{gains_grows}
use Rattle.fixpoint.proofs.NameLaws.{filled}
use Rattle.fixpoint.proofs.ClosingLaws.{closing_dies, closing_ends, closing_goes_on, closing_starts, has_clue, keeping_goes_on, keeping_starts}
use Rattle.fixpoint.proofs.LeftLaws.{less_to_do}
use Rattle.fixpoint.proofs.WorkLaws.{crossing_put, one_counted, working_dies, working_goes_on, working_starts}
use Rattle.fixpoint.proofs.closing.close_naming.Goals as goal

pub returns-in-Dead-clause-closes : goal.returns-in-Dead-clause-closes
returns-in-Dead-clause-closes g c =
    let gains = rw (c.in-Dead.is, c.clue.ensures.value) at c.force_crossing-forced.ensures.gains in
    closing_dies _ _ _ _ _ _ _ _ c.loop-line.invariant.closing c.in-Some.ensures.0 gains refl

pub returns-in-Dead-clause-works : goal.returns-in-Dead-clause-works
returns-in-Dead-clause-works g c =
    let i = c.loop-line.invariant in
    let s = c.in-Some.ensures in
    let e = c.force_crossing-forced.ensures in
    let gains = rw (c.in-Dead.is, c.clue.ensures.value) at e.gains in
    let puts = crossing_put _ _ _ _ e.changed _ _ c.put_all-in-Some.ensures in
    let counts = one_counted _ _ _ _ (omega arith) e.counted e.called in
    working_dies _ _ _ _ _ _ _ _ _ _ _ _ _ _ _ _ i.working s.0 s.1 (i.closing.lines c.in-Some.line s.0) gains puts counts refl

pub loop-line-smaller : goal.loop-line-smaller
loop-line-smaller g c =
    let i = c.loop-line.invariant in
    let s = c.in-Some.ensures in
    let e = c.force_crossing-forced.ensures in
    let has = i.closing.lines c.in-Some.line s.0 in
    let puts = crossing_put _ _ _ _ e.changed _ _ c.put_all-in-Some.ensures in
    less_to_do _ _ _ _ _ _ c.height.ensures.facts has (gains_grows _ _ _ _ _ e.gains) s.0 s.1 puts

pub loop-line-preserved : goal.loop-line-preserved
loop-line-preserved g c =
    let i = c.loop-line.invariant in
    let s = c.in-Some.ensures in
    let e = c.force_crossing-forced.ensures in
    let has = i.closing.lines c.in-Some.line s.0 in
    let gains = rw (c.in-Narrowed.is, c.clue.ensures.value) at e.gains in
    let puts = crossing_put _ _ _ _ e.changed _ _ c.put_all-in-Some.ensures in
    let counts = one_counted _ _ _ _ (omega arith) e.counted e.called in
    record {
      closing = rw e.same_longest (closing_goes_on _ _ _ _ _ _ _ _ _ _ i.closing s.0 s.1 c.height.ensures.facts gains refl puts);
      working = working_goes_on _ _ _ _ _ _ _ _ _ _ _ _ _ _ _ _ i.working s.0 s.1 has gains puts counts;
      keeping = keeping_goes_on _ _ _ _ _ _ _ _ _ _ _ _ i.keeping s.0 s.1 has gains e.changed c.put_all-in-Some.ensures c.put_all-in-Some-2.ensures.members;
      same_longest = e.same_longest ∙ i.same_longest;
    }

pub returns-clause-closes : goal.returns-clause-closes
returns-clause-closes g c =
    closing_ends _ _ _ _ _ _ c.loop-line.invariant.closing c.in_default.ensures.0 refl

pub loop-line-init : goal.loop-line-init
loop-line-init g c =
    let all = filled _ _ _ c.clear.ensures c.put_all.ensures in
    record {
      closing = rw all (closing_starts _ _ _ _ c.requires.closable c.requires.lines c.requires.quiet);
      working = working_starts _ _ _ _ _ _ all (omega arith) (omega arith) (omega arith);
      keeping = keeping_starts _ _ _ all;
      same_longest = refl;
    }

pub returns-in-Dead-clause-kept : goal.returns-in-Dead-clause-kept
returns-in-Dead-clause-kept g c =
    let i = c.loop-line.invariant in
    let s = c.in-Some.ensures in
    let e = c.force_crossing-forced.ensures in
    let gains = rw c.clue.ensures.value at e.gains in
    (keeping_goes_on _ _ _ _ _ _ _ _ _ _ _ _ i.keeping s.0 s.1 (i.closing.lines c.in-Some.line s.0) gains e.changed c.put_all-in-Some.ensures c.put_all-in-Some-2.ensures.members).kept

pub returns-clause-kept : goal.returns-clause-kept
returns-clause-kept g c = c.loop-line.invariant.keeping.kept

pub clue-requires : goal.clue-requires
clue-requires g c =
    let i = c.loop-line.invariant.closing in
    (has_clue c.args.book.now _ c.loop-line.facts c.in-Some.line i.closable c.height.ensures.facts (i.lines c.in-Some.line c.in-Some.ensures.0)).0

pub force_crossing-forced-requires-clause-short : goal.force_crossing-forced-requires-clause-short
force_crossing-forced-requires-clause-short g c =
    let i = c.loop-line.invariant.closing in
    (has_clue c.args.book.now _ c.loop-line.facts c.in-Some.line i.closable c.height.ensures.facts (i.lines c.in-Some.line c.in-Some.ensures.0)).1
