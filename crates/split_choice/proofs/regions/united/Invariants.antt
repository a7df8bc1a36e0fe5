use Rattle.split_choice.proofs.regions.united.Given as goal

abbrev pub decreases-loop-at : goal.decreases-loop-at
decreases-loop-at l = l.rest
