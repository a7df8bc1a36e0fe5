use Rattle.std.proofs.Common.{◌+◌, List, length, get_or, ap, sym, subst, arith, ◌∙◌}
use Rattle.cert_text.specs.Cert.{place_of}
use Rattle.cert_text.specs.declared.cert_line.CertLine.{CertLine}
use Rattle.cert_check.specs.Walk.{CanCheck}
use Rattle.cert_check.proofs.WalkLemmas.{affords_line, affords_more, ended_first, refused_first, taken_first, trailing_first}
use Rattle.cert_check.proofs.checking.walk.Goals as goal

pub returns-then-not-going-clause-first : goal.returns-then-not-going-clause-first
returns-then-not-going-clause-first g c =
    let cert = c.args.cert.now in
    let inside = rw c.lines-lines.ensures at c.loop-i-test.true in
    rw c.place_of.ensures
    ((trailing_first _ _ c.loop-i.machine.walk c.loop-i.going (place_of cert.runs (2 + length cert.givens)) c.loop-i.i cert.lines inside c.loop-i.invariant.so_far c.if-not-going.true))

pub returns-in-Err-clause-first : goal.returns-in-Err-clause-first
returns-in-Err-clause-first g c =
    let cert = c.args.cert.now in
    let inside = rw c.lines-lines.ensures at c.loop-i-test.true in
    let line = ap (λ (ls : List CertLine). get_or ls c.loop-i.i _) c.lines-lines.ensures in
    rw (c.moved.ensures, c.place_of-in-Err.ensures) (refused_first _ _ c.loop-i.machine.walk c.loop-i.going (place_of cert.runs (2 + length cert.givens)) c.loop-i.i cert.lines inside
    c.loop-i.invariant.so_far _ _ c.if-not-going.false line c.step.new.self c.in-Err.fault c.in-Err.ensures.takes)

pub loop-i-preserved : goal.loop-i-preserved
loop-i-preserved g c =
    let cert = c.args.cert.now in
    let inside = rw c.lines-lines.ensures at c.loop-i-test.true in
    let line = ap (λ (ls : List CertLine). get_or ls c.loop-i.i _) c.lines-lines.ensures in
    record {
      right = c.in-Ok.ensures.takes.0;
      affords = affords_more cert.lines c.loop-i.i _ _ inside line c.loop-i.machine c.step.new.self c.loop-i.invariant.affords c.in-Ok.ensures.spent;
      can = subst (CanCheck c.args.claim.now.picture.now c.args.claim.now.clues.now) (sym c.in-Ok.ensures.same_longest) c.loop-i.invariant.can;
      same_longest = c.in-Ok.ensures.same_longest ∙ c.loop-i.invariant.same_longest;
      calls = (let once = c.in-Ok.ensures.calls in let so_far = c.loop-i.invariant.calls in omega arith);
      work = (let once = c.in-Ok.ensures.work in let so_far = c.loop-i.invariant.work in omega arith);
      so_far = taken_first _ _ c.loop-i.machine.walk c.loop-i.going (place_of cert.runs (2 + length cert.givens)) c.loop-i.i cert.lines inside c.loop-i.invariant.so_far
          _ _ c.if-not-going.false line c.step.new.self c.in-Ok.going c.in-Ok.ensures.takes;
    }

pub returns-then-going-clause-first : goal.returns-then-going-clause-first
returns-then-going-clause-first g c =
    let cert = c.args.cert.now in
    let all = rw c.lines-lines.ensures at c.loop-i-test.false in
    let end = rw c.lines-lines.ensures at c.loop-i.auto.i-end in
    let n = ap (λ (ls : List CertLine). length ls) c.lines-lines.ensures in
    rw c.place_of-then-going.ensures
    ((ended_first _ _ c.loop-i.machine.walk c.loop-i.going (place_of cert.runs (2 + length cert.givens)) c.loop-i.i (length c.lines-lines.result.now) cert.lines c.loop-i.invariant.so_far all
    (omega arith) c.if-going.true))

pub step-requires-clause-affords : goal.step-requires-clause-affords
step-requires-clause-affords g c =
    let cert = c.args.cert.now in
    let inside = rw c.lines-lines.ensures at c.loop-i-test.true in
    let line = ap (λ (ls : List CertLine). get_or ls c.loop-i.i _) c.lines-lines.ensures in
    affords_line cert.lines c.loop-i.i _ _ inside line c.loop-i.machine c.loop-i.invariant.affords
