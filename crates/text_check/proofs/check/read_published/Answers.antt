use Rattle.std.proofs.Common.{ap, option_map}
use Rattle.text_check.proofs.CheckLemmas.{read_some}
use Rattle.text_check.proofs.check.read_published.Goals as goal

pub returns-in_ok-published_cells-in-Some : goal.returns-in_ok-published_cells-in-Some
returns-in_ok-published_cells-in-Some c =
    read_some c.args.picture.now _ _ _ _ _ (ap (option_map (λ text. text.now)) c.in-Some.is) c.height.ensures.value c.width.ensures.value c.in_ok-published_cells-in-Some.ensures.read
