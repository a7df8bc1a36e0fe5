use Rattle.std.proofs.Common.{◌≡◌, ◌<◌, sym, ◌∙◌, arith, length, get_or, add-one}
use Rattle.std.proofs.lemmas.Bool.{false≢true}
use Rattle.line_settle.specs.Patterns.{reaches}
use Rattle.line_settle.specs.MarkedLists.{reaches_marked, reached_of}
use Rattle.line_settle.specs.StateSets.{sets_of}
use Rattle.std.proofs.lemmas.List.{get_or-map}
use Rattle.line_settle.proofs.SweepLemmas.{Reaches, step_kept, step_out}
use Rattle.line_settle.proofs.state_sets.PatternSets.sweep_drawn.Goals as goal
use Rattle.line_settle.proofs.state_sets.PatternSets.sweep_drawn.Goals.{then-meets_marked, else-meets_marked}

pub loop-i-init : goal.loop-i-init
loop-i-init g c = record { swept = λ old start. rw c.low.ensures start }

pub loop-i-preserved : goal.loop-i-preserved
loop-i-preserved g c =
    let w = g.W.Word.width in
    let bits = g.W.Word.bits in
    let sets = sets_of bits c.args.self.now in
    let drawn = c.args.drawn.now in
    let left = c.loop-i.left in
    let i = c.loop-i.i in
    let on = reached_of bits c.pass-on.result in
    let at_plain = get_or-map bits c.args.behind.now.plain.now i c.index-behind-i.result 0 (omega arith) in
    let at_marked = get_or-map bits c.args.behind.now.marked.now i c.index-behind-i-in-loop-i.result 0 (omega arith) in
    let meets = rw (← at_plain, ← at_marked) at c.meets_marked.ensures in
    let inside : i < length left = omega arith in
    let same : length drawn ≡ length left = omega arith in
    record {
      swept = λ old start.
          let swept = c.loop-i.invariant.swept old start in
          let ons : Reaches w sets drawn left i 65535 on = λ pattern are.
          c.pass-on.ensures pattern 65535 (reaches pattern left i) (reaches_marked pattern left drawn i) are (c.moves_by-full.ensures.moves pattern are) (swept.from_is pattern are) in
          rw add-one (elim c.if-meets_marked.branch [
            | then-meets_marked x ↦
                let to = reached_of bits x.pass-from.result in
                let nexts : Reaches w sets drawn left i (get_or left i 0) to = λ pattern are. x.pass-from.ensures pattern (get_or left i 0) (reaches pattern left i)
                (reaches_marked pattern left drawn i) are (x.moves_by-moves.ensures.moves pattern are) (swept.from_is pattern are) in
                rw (x.from-is, x.left-is) (step_kept w sets drawn _ _ old left _ on to i inside same swept ons nexts (meets.0 x.if-meets_marked.true))
            | else-meets_marked x ↦ rw (x.from-is, x.left-is) (step_out w sets drawn _ _ old left _ on i inside same swept ons (λ s. false≢true (sym x.if-meets_marked.false ∙ meets.1 s)))
          ]);
    }

pub returns : goal.returns
returns g c = λ old start.
    let swept = c.loop-i.invariant.swept old start in
    let at : c.args.behind.now.end ≡ c.loop-i.i = (let a = c.loop-i.auto.i-end (omega arith) in omega arith) in
    rw at (record { small = swept.small; from_is = λ pattern are. (swept.from_is pattern are).marked_are; so_far = swept.so_far })
