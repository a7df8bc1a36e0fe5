use Rattle.std.proofs.Common.{◌≡◌, ◌+◌, ◌<◌, ℕ, List, refl, sym, subst, arith, length}
use Rattle.clues.specs.Clue.{block}
use Rattle.line_settle.specs.Patterns.{pattern_of}
use Rattle.line_settle.specs.StateSets.{AreNext, AreWaiting}
use Rattle.line_settle.proofs.BlockLemmas.{block_at}
use Rattle.line_settle.proofs.StateSetLemmas.{none_next, none_waiting, first_colour, piece_here, next_state, end_state, gap_cells, block_cells, waiting_more, waiting_all, colours_more}
use Rattle.line_settle.proofs.state_sets.PatternSets.of.Goals as goal

pub loop-j-init : goal.loop-j-init
loop-j-init g c = record {
  state_is = refl;
  next_are = let P : List ℕ → Type 0 = λ xs. AreNext (pattern_of c.args.blocks.now) 0 xs in subst P (sym c.requires.none_next) (none_next (pattern_of c.args.blocks.now));
  waiting_are = let P : ℕ → Type 0 = λ n. AreWaiting (pattern_of c.args.blocks.now) 0 n in subst P (sym c.low-waiting.ensures) (none_waiting (pattern_of c.args.blocks.now));
  colours_are = first_colour (pattern_of c.args.blocks.now);
}

pub start_behind-start-requires : goal.start_behind-start-requires
start_behind-start-requires g c =
    let piece = piece_here c.args.blocks.now c.loop-j.j c.loop-j.state c.meets.result c.requires.blocks_of_clue (omega arith) c.loop-j.invariant.state_is c.meets.ensures in
    omega (arith, g.met.W.Word.narrow)

pub overflow_add-end : goal.overflow_add-end
overflow_add-end g c =
    let piece = piece_here c.args.blocks.now c.loop-j.j c.loop-j.state c.meets.result c.requires.blocks_of_clue (omega arith) c.loop-j.invariant.state_is c.meets.ensures in
    omega (arith, g.met.W.Word.narrow)

pub see_run-requires-clause-few : goal.see_run-requires-clause-few
see_run-requires-clause-few g c =
    let piece = piece_here c.args.blocks.now c.loop-j.j c.loop-j.state c.meets.result c.requires.blocks_of_clue (omega arith) c.loop-j.invariant.state_is c.meets.ensures in
    omega (arith, g.met.W.Word.narrow)

pub see_run-requires-in-loop-j-clause-few : goal.see_run-requires-in-loop-j-clause-few
see_run-requires-in-loop-j-clause-few g c =
    let piece = piece_here c.args.blocks.now c.loop-j.j c.loop-j.state c.meets.result c.requires.blocks_of_clue (omega arith) c.loop-j.invariant.state_is c.meets.ensures in
    omega (arith, g.met.W.Word.narrow)

pub loop-j-preserved : goal.loop-j-preserved
loop-j-preserved g c =
    let blocks = c.args.blocks.now in
    let pattern = pattern_of blocks in
    let j = c.loop-j.j in
    let q = c.loop-j.state in
    let m = c.meets.result in
    let s = c.start_behind-start.result in
    let e = s + c.from.result in
    let b = block_at blocks j in
    let bits = g.W.Word.bits in
    let P : ℕ → Type 0 = λ n. AreWaiting pattern e n in
    let inside : j < length blocks = omega arith in
    let to : e ≡ s + b.len = omega arith in
    let is = c.requires.blocks_of_clue j (block 0 0) inside in
    let piece = piece_here blocks j q m c.requires.blocks_of_clue inside c.loop-j.invariant.state_is c.meets.ensures in
    record {
      state_is = next_state blocks j q s e m inside c.loop-j.invariant.state_is c.meets.ensures c.start_behind-start.ensures to;
      next_are = c.see_run-in-loop-j.ensures pattern
          (c.see_run.ensures pattern c.loop-j.invariant.next_are (gap_cells pattern q b.len b.colour s m piece c.start_behind-start.ensures))
          (block_cells pattern q b.len b.colour s e m piece c.start_behind-start.ensures to);
      waiting_are = subst P (sym c.or-waiting.ensures)
          (waiting_more pattern q b.len b.colour s e (bits c.loop-j.waiting) (bits c.place.result) m piece c.start_behind-start.ensures to c.place.ensures.each c.loop-j.invariant.waiting_are);
      colours_are = colours_more pattern q b.len b.colour s e c.loop-j.colours m piece c.start_behind-start.ensures to is.in_palette c.loop-j.invariant.colours_are;
    }

pub states_between-requires-clause-few : goal.states_between-requires-clause-few
states_between-requires-clause-few g c =
    let end = end_state c.args.blocks.now c.loop-j.j c.loop-j.state c.requires.blocks_of_clue (omega arith) c.loop-j.invariant.state_is in
    omega arith

pub returns-clause-sets : goal.returns-clause-sets
returns-clause-sets g c =
    let pattern = pattern_of c.args.blocks.now in
    let q = c.loop-j.state in
    let end = end_state c.args.blocks.now c.loop-j.j q c.requires.blocks_of_clue (omega arith) c.loop-j.invariant.state_is in
    let bits = g.W.Word.bits in
    let P : ℕ → Type 0 = λ n. AreWaiting pattern (length pattern) n in
    record {
      end = q;
      is_end = end;
      short = c.requires.short;
      next = c.loop-j.invariant.next_are;
      waiting = subst P (sym c.or.ensures) (waiting_all pattern q (bits c.loop-j.waiting) (bits c.place-last.result) end c.place-last.ensures.each c.loop-j.invariant.waiting_are);
      colours = c.loop-j.invariant.colours_are;
      inner = λ t. let b = c.states_between.ensures t in ((λ h. (b.0 h).1), (λ l. b.1 (omega arith, l)));
      last = c.place-last.ensures.value;
    }

pub place-requires : goal.place-requires
place-requires g c =
    let piece = piece_here c.args.blocks.now c.loop-j.j c.loop-j.state c.meets.result c.requires.blocks_of_clue (omega arith) c.loop-j.invariant.state_is c.meets.ensures in
    omega arith

pub place-last-requires : goal.place-last-requires
place-last-requires g c =
    let end = end_state c.args.blocks.now c.loop-j.j c.loop-j.state c.requires.blocks_of_clue (omega arith) c.loop-j.invariant.state_is in
    omega arith
