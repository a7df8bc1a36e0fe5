use Rattle.std.proofs.Common.{sym, ◌∙◌}
use Rattle.std.proofs.lemmas.Bool.{false≢true}
use Rattle.line_settle.proofs.StateSetLemmas.{in_none}
use Rattle.line_settle.proofs.state_sets.PatternSets.resting_by.Goals as goal

pub returns-else-allows : goal.returns-else-allows
returns-else-allows g c = λ q. rw c.low.ensures ((λ h. absurd (in_none q h)), (λ p. absurd (false≢true (sym c.if-allows.false ∙ (c.allows.ensures ∙ p.1)))))
