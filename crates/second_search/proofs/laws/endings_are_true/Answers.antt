use Rattle.second_search.proofs.WithinLemmas.{part_answered}
use Rattle.second_search.proofs.KnownLaws.{books_are_their_clues, closing_keeps_fillings, clues_are_of_lines, fillings_are_of_facts, only_is_closed}
use Rattle.second_search.proofs.laws.endings_are_true.Goals as goal

pub returns : goal.returns
returns c = part_answered clues_are_of_lines books_are_their_clues closing_keeps_fillings only_is_closed fillings_are_of_facts
