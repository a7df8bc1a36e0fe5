use Rattle.std.proofs.Common.{ap, ◌∙◌}
use Rattle.line_facts.specs.BitSets.{has}
use Rattle.line_settle.proofs.PositionLemmas.{has_power, place_is}
use Rattle.line_settle.proofs.word.Word.place.Goals as goal

pub returns-clause-value : goal.returns-clause-value
returns-clause-value g c = rw (c.up.ensures, c.low.ensures) (place_is g.Self.Word.width c.args.at c.requires)

pub returns-clause-each : goal.returns-clause-each
returns-clause-each g c = λ i. rw (c.up.ensures, c.low.ensures) (ap (λ n. has n i) (place_is g.Self.Word.width c.args.at c.requires) ∙ has_power c.args.at i)
