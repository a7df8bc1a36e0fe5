use Rattle.std.proofs.Common.{◌≡◌, ℕ, [], ◌∷◌, ◌++◌, rules, ◌+◌, ◌*◌, ◌≤◌, ◌<◌, inr, refl, sym, subst, arith}
use Rattle.cert_text.specs.Cert.{rank}
use Rattle.cert_text.specs.Text.{given_lines, lines_of}
use Rattle.cert_text.proofs.ReadLemmas.{GivensLeft, givens_end, givens_more, givens_stop}
use Rattle.cert_text.proofs.reading.read_givens.Goals as goal

pub returns-in_default-given_in-clause-value : goal.returns-in_default-given_in-clause-value
returns-in_default-given_in-clause-value c =
    givens_end c.loop-line.givens.items c.in-Some.line.now c.loop-line.number c.loop-line.least (lines_of c.loop-line.rest.now) (lines_of c.in-Some.behind.now)
    (given_lines 2 0 (lines_of c.args.text.now)) c.in-Some.ensures.0 c.in_default-given_in.ensures.value c.loop-line.invariant.left

pub returns-then-rank-least-clause-value : goal.returns-then-rank-least-clause-value
returns-then-rank-least-clause-value c =
    let below : rank c.in-Some-given_in.cell < c.loop-line.least = omega (arith, c.if-rank-least.true) in
    inr (givens_stop c.loop-line.givens.items c.in-Some-given_in.cell c.in-Some.line.now c.loop-line.number c.loop-line.least (lines_of c.loop-line.rest.now) (lines_of c.in-Some.behind.now)
    (given_lines 2 0 (lines_of c.args.text.now)) c.in-Some.ensures.0 c.in-Some-given_in.ensures.value below c.loop-line.invariant.left)

pub loop-line-preserved : goal.loop-line-preserved
loop-line-preserved c =
    let front = c.loop-line.givens.items in
    let new = c.push.new.self.items in
    let cell = c.in-Some-given_in.cell in
    let n = c.loop-line.number in
    let rest = lines_of c.in-Some.behind.now in
    let whole = given_lines 2 0 (lines_of c.args.text.now) in
    let behind : c.loop-line.least ≤ rank cell = omega (arith, c.if-rank-least.false) in
    let pushed : new ≡ front ++ cell ∷ [] = search rules in
    let same : c.from.result * 1000 + c.from-in-Some.result ≡ rank cell = omega arith in
    let P : ℕ → Type 0 = λ k. GivensLeft new (n + 1) (k + 1) rest whole in
    record {
      left = subst P (sym same) (givens_more front new cell c.in-Some.line.now n (n + 1) c.loop-line.least
          (lines_of c.loop-line.rest.now) rest whole c.in-Some.ensures.0 c.in-Some-given_in.ensures.value c.in-Some-given_in.ensures.short behind pushed refl c.loop-line.invariant.left);
      room = omega (arith, c.in-Some.ensures.1);
      shorter = omega (arith, c.in-Some.ensures.1);
    }
