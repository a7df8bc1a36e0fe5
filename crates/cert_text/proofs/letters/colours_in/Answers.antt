use Rattle.std.proofs.Common.{◌<◌, length, refl, arith, rules}
use Rattle.cert_text.proofs.LetterLemmas.{all_read, falls, no_colour, rises, some_more, stays_small}
use Rattle.cert_text.proofs.letters.colours_in.Goals as goal

pub returns-in_err-colour-clause-value : goal.returns-in_err-colour-clause-value
returns-in_err-colour-clause-value c = rw c.from_residual.ensures (no_colour c.args.word.now c.loop-i.i c.loop-i.colours c.loop-i.least c.loop-i.invariant.so_far (omega arith)
    (c.in_err-colour.ensures.value))

pub returns-then-colour-least-clause-value : goal.returns-then-colour-least-clause-value
returns-then-colour-least-clause-value c =
    falls c.args.word.now c.loop-i.i c.loop-i.colours c.loop-i.least c.loop-i.invariant.so_far c.in_ok-colour.colour (omega arith) c.in_ok-colour.ensures.value c.if-colour-least.true

pub loop-i-preserved : goal.loop-i-preserved
loop-i-preserved c = record {
  least = (let s = c.in_ok-colour.ensures.small in omega arith);
  small = stays_small c.loop-i.colours c.loop-i.least c.in_ok-colour.colour c.loop-i.invariant.small c.if-colour-least.false c.in_ok-colour.ensures.small;
  some = λ _. some_more c.loop-i.colours c.in_ok-colour.colour c.in_ok-colour.ensures.small;
  so_far = rises c.args.word.now c.loop-i.i c.loop-i.colours c.loop-i.least c.loop-i.invariant.so_far c.in_ok-colour.colour _
      (omega arith) c.in_ok-colour.ensures.value c.if-colour-least.false c.in_ok-colour.ensures.small refl;
}

pub returns-clause-value : goal.returns-clause-value
returns-clause-value c =
    let some : 0 < length c.args.word.now = search rules in
    all_read c.args.word.now c.loop-i.i c.loop-i.colours c.loop-i.least c.loop-i.invariant.so_far some (omega arith)
