use Rattle.clap.specs.Walk.{texts}
use Rattle.command_line.proofs.WordLemmas.{not_taken, taken}
use Rattle.command_line.proofs.words.read_words.Goals as goal

pub returns-in-Ok-clause-asked : goal.returns-in-Ok-clause-asked
returns-in-Ok-clause-asked c = λ some.
    let words = texts c.args.words.now in
    taken words c.in-Ok.matches c.task_of.result (rw c.in-Ok.is at c.in_ok-matches.ensures) c.task_of.ensures.asked

pub returns-in-Err-clause-asked : goal.returns-in-Err-clause-asked
returns-in-Err-clause-asked c = λ some.
    let words = texts c.args.words.now in
    not_taken words c.in-Err.error c.untaken.result (rw c.in-Err.is at c.in_ok-matches.ensures) c.untaken.ensures.said
