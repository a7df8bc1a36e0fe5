use Rattle.std.proofs.Common.{sym, ◌∙◌, arith}
use Rattle.non_text.proofs.SeenLemmas.{size_some}
use Rattle.non_text.proofs.seen.size_in.Goals as goal

pub returns-in-1-to-120 : goal.returns-in-1-to-120
returns-in-1-to-120 c =
    sym (size_some c.args.value.now c.in_ok-size.size (sym c.number.ensures ∙ c.in_ok-size.was) (omega arith) (omega arith))
