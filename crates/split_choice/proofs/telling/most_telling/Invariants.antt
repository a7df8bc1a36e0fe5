use Rattle.split_choice.proofs.telling.most_telling.Given as goal

abbrev pub decreases-loop-row : goal.decreases-loop-row
decreases-loop-row l = l.along

abbrev pub decreases-loop-col : goal.decreases-loop-col
decreases-loop-col l = l.cells
