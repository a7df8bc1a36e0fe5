use Rattle.std.proofs.Common.{ℕ, ◌∙◌, sym, ap, subst, arith, map, bit_or}
use Rattle.std.specs.Int.{trailing_zeros, w16}
use Rattle.std.proofs.lemmas.Nat.Bits.{bit_at-trailing_zeros}
use Rattle.line_settle.proofs.StateSetLemmas.{Taken, first_taken, taken_more, without_lowest, rest_falls, all_taken, no_colour}
use Rattle.line_settle.proofs.WordLemmas.{word_at}
use Rattle.line_settle.proofs.state_sets.PatternSets.advancing_by.Goals as goal

pub returns-then-colours-eq0 : goal.returns-then-colours-eq0
returns-then-colours-eq0 g c = λ q. rw c.low.ensures (no_colour (map g.W.Word.bits c.args.self.now.next.now) c.args.colours q c.if-colours-eq0.true)

pub colours-init : goal.colours-init
colours-init g c =
    let bits = g.W.Word.bits in
    let list = c.args.self.now.next.now in
    let colours = c.args.colours in
    let lowest = trailing_zeros w16 colours in
    let x = c.index-self-colours.result in
    let P : ℕ → Type 0 = λ n. Taken (map bits list) colours (without_lowest colours) n in
    let small = (bit_at-trailing_zeros w16 colours (omega arith) (omega arith)).0 in
    let here = word_at bits list lowest x (omega arith) c.index-self-colours.is in
    record { taken = subst P (sym here ∙ ap bits c.index-self-colours.is) (first_taken (map bits list) colours c.if-colours-eq0.false (omega arith)) }

pub colours-preserved : goal.colours-preserved
colours-preserved g c =
    let bits = g.W.Word.bits in
    let next = map bits c.args.self.now.next.now in
    let rest = c.colours.rest in
    let lowest = trailing_zeros w16 rest in
    let P : ℕ → Type 0 = λ n. Taken next c.args.colours (without_lowest rest) n in
    let small = (bit_at-trailing_zeros w16 rest (omega arith) (omega arith)).0 in
    let x = c.index-self-rest.result in
    let here = word_at bits c.args.self.now.next.now lowest x (omega arith) c.index-self-rest.is in
    let added = bit_or (bits c.colours.advancing) in
    record {
      taken = subst P (ap added (sym here) ∙ (ap (λ y. added (bits y)) c.index-self-rest.is ∙ sym c.or-advancing.ensures))
          (taken_more next c.args.colours rest (bits c.colours.advancing) c.colours-test.true (omega arith) c.colours.invariant.taken);
    }

pub colours-smaller : goal.colours-smaller
colours-smaller g c = rest_falls c.colours.rest c.colours-test.true

pub returns : goal.returns
returns g c = λ q. all_taken (map g.W.Word.bits c.args.self.now.next.now) c.args.colours c.colours.rest (g.W.Word.bits c.colours.advancing) q (omega arith) c.colours.invariant.taken
