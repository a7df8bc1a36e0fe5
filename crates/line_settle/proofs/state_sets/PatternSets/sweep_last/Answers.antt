use Rattle.std.proofs.Common.{◌≡◌, ◌<◌, refl, arith, bit_and, length, get_or, map, add-one}
use Rattle.line_settle.specs.MarkedLists.{reaches_marked}
use Rattle.line_settle.specs.Sweeps.{IsUndrawn}
use Rattle.line_settle.specs.StateSets.{sets_of}
use Rattle.std.proofs.lemmas.List.{get_or-map}
use Rattle.line_settle.proofs.SweepLemmas.{Marks, last_kept, last_out, share_test}
use Rattle.line_settle.proofs.state_sets.PatternSets.sweep_last.Goals as goal
use Rattle.line_settle.proofs.state_sets.PatternSets.sweep_last.Goals.{then-is_none, else-is_none}

pub loop-place-init : goal.loop-place-init
loop-place-init g c = record { swept = λ old s. s }

pub loop-place-preserved : goal.loop-place-preserved
loop-place-preserved g c =
    let w = g.W.Word.width in
    let bits = g.W.Word.bits in
    let sets = sets_of bits c.args.self.now in
    let drawn = c.args.drawn.now in
    let plain = map bits c.args.behind.now.plain.now in
    let left = c.loop-place.left in
    let i = c.loop-place.place in
    let on = bits c.pass-on.result in
    let inside : i < length left = omega arith in
    let same : length drawn ≡ length left = omega arith in
    let none : IsUndrawn sets.colours drawn i = λ j h. c.requires.undrawn j (omega arith) in
    let at_plain = get_or-map bits c.args.behind.now.plain.now i c.index-behind-place.result 0 (omega arith) in
    let both : bits c.and.result ≡ bit_and on (get_or plain i 0) = rw (c.and.ensures, ← at_plain) refl in
    let test = share_test on (get_or plain i 0) (bits c.and.result) c.is_none.result both c.is_none.ensures.value in
    record {
      swept = λ old start.
          let swept = c.loop-place.invariant.swept old start in
          let ons : Marks w sets drawn left i 65535 on =
          λ pattern are. c.pass-on.ensures pattern 65535 (reaches_marked pattern left drawn i) (c.moves_by-full.ensures.moves pattern are) (swept.from_is pattern are) in
          rw add-one (elim c.if-is_none.branch [
            | then-is_none x ↦ rw (x.marked-is, x.left-is) (last_out w sets drawn _ _ old left _ on i inside same none swept ons (test.1 x.if-is_none.true))
            | else-is_none x ↦
                let to = bits x.pass-marked.result in
                let nexts : Marks w sets drawn left i (get_or left i 0) to =
                λ pattern are. x.pass-marked.ensures pattern (get_or left i 0) (reaches_marked pattern left drawn i) (x.moves_by.ensures.moves pattern are) (swept.from_is pattern are) in
                rw (x.marked-is, x.left-is) (last_kept w sets drawn _ _ old left _ on to i inside same none swept ons nexts (test.0 x.if-is_none.false))
          ]);
    }

pub returns : goal.returns
returns g c = λ old start.
    let at : length c.args.left.now ≡ c.loop-place.place = (let a = c.loop-place.auto.place-end (omega arith) in omega arith) in
    rw at (c.loop-place.invariant.swept old start).so_far
