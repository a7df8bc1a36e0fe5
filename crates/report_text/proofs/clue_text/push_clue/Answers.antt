use Rattle.report_text.proofs.TextLemmas.{pushed_all}
use Rattle.report_text.proofs.clue_text.push_clue.Goals as goal

pub returns-in_ok-push_others-in-len1-up : goal.returns-in_ok-push_others-in-len1-up
returns-in_ok-push_others-in-len1-up c =
    pushed_all c.args.text.now.items c.push_block.new.text.items c.push_others.new.text.items c.args.blocks.now c.in-len1-up.len_at_least c.in_ok-push_block-in-len1-up.ensures
    c.in_ok-push_others-in-len1-up.ensures
