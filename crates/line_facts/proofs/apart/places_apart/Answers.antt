use Rattle.std.proofs.Common.{◌+◌, ◌-◌, ◌*◌, ◌/◌, ◌∙◌, ap, arith}
use Rattle.line_facts.specs.BitSets.{has}
use Rattle.line_facts.specs.CrossedLines.{differs}
use Rattle.line_facts.proofs.ApartLemmas.{none_apart, all_apart}
use Rattle.line_facts.proofs.BitSetLaws.{gathered_more}
use Rattle.line_facts.proofs.apart.places_apart.Goals as goal

pub loop-chunk-init : goal.loop-chunk-init
loop-chunk-init c = λ j h. none_apart c.args.before.now c.args.after.now c.args.cells (16 * ((c.args.cells + 15) / 16)) j (omega arith) c.requires.same_behind

pub loop-chunk-preserved : goal.loop-chunk-preserved
loop-chunk-preserved c =
    gathered_more 128 16 (differs c.args.before.now c.args.after.now) c.loop-chunk.places c.from.result (16 * (c.loop-chunk.chunk - 1)) (16 * c.loop-chunk.chunk) (omega arith)
    (omega (arith, c.from.ensures, c.sixteen_apart.ensures.no_more))
    (λ j h. ap (λ m. has m j) c.from.ensures ∙ c.sixteen_apart.ensures.each j h)
    c.loop-chunk.invariant

pub returns : goal.returns
returns c = all_apart c.args.before.now c.args.after.now c.args.cells c.loop-chunk.places c.loop-chunk.chunk (omega arith)
    (let p = c.loop-chunk.auto.places-fits in omega arith) (omega (arith, c.requires.room, c.requires.short)) c.requires.same_behind c.loop-chunk.invariant
