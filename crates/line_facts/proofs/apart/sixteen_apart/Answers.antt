use Rattle.line_facts.proofs.ApartLemmas.{pairs-lt, pairs_each}
use Rattle.line_facts.proofs.apart.sixteen_apart.Goals as goal

pub returns-clause-each : goal.returns-clause-each
returns-clause-each c = pairs_each c.args.before.now c.args.after.now c.args.first c.requires.room c.requires.same_length

pub returns-clause-no_more : goal.returns-clause-no_more
returns-clause-no_more c = pairs-lt c.args.before.now c.args.after.now c.args.first c.requires.room c.requires.same_length
