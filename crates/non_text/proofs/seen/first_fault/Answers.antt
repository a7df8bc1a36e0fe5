use Rattle.non_text.specs.Lines.{lines_of}
use Rattle.non_text.proofs.SeenLemmas.{faults_first}
use Rattle.non_text.proofs.seen.first_fault.Goals as goal

pub loop-line-init : goal.loop-line-init
loop-line-init c = let e = c.default-seen.ensures in faults_first c.default-seen.result (lines_of c.args.text.now) e.0 e.1.0 e.1.1.0 e.1.1.1
