use Rattle.live_audit.proofs.KnownLemmas.{certified}
use Rattle.second_search.proofs.KnownLaws.{allowances_break_off}
use Rattle.live_audit.proofs.laws.certified_verdicts_search_nothing.Goals as goal

pub returns : goal.returns
returns c = certified allowances_break_off
