use Rattle.std.proofs.Common.{◌≡◌, true, below_more, arith, get_or, map}
use Rattle.std.proofs.lemmas.List.Elements.{All-from_get_or}
use Rattle.clues.specs.declared.block.Block.{Block}
use Rattle.clues.specs.Clue.{block}
use Rattle.line_settle.specs.Patterns.{allows}
use Rattle.line_settle.specs.Positions.{IsCellsWith}
use Rattle.line_settle.proofs.position_tables.mark_allowed.Goals as goal

pub loop-block-preserved : goal.loop-block-preserved
loop-block-preserved g c =
    let more = c.mark_colour-made-in-loop-block.ensures in
    record {
      made_so_far = more.after;
      background = more.kept 0 c.loop-block.invariant.background;
      each = below_more _ _ (λ j h. more.kept _ (c.loop-block.invariant.each j h)) more.here;
    }

pub returns-clause-made : goal.returns-clause-made
returns-clause-made g c =
    let made = c.loop-block.invariant in
    let P : Block → Type 0 = λ b. IsCellsWith c.args.left.now b.colour (get_or (map g.W.Word.bits c.loop-block.allowed) b.colour 0) in
    record {
      background = made.made_so_far 0 made.background;
      each = All-from_get_or P c.args.blocks.now (block 0 0) (λ j h. made.made_so_far _ (made.each j (omega arith)));
    }

pub returns-clause-each : goal.returns-clause-each
returns-clause-each g c =
    let P : Block → Type 0 = λ b. allows c.loop-block.made b.colour ≡ true in
    All-from_get_or P c.args.blocks.now (block 0 0) (λ j h. c.loop-block.invariant.each j (omega arith))
