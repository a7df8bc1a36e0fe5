-- The laws that answers cite, of the crates below and of this one.
pub use Rattle.picture.proofs.CellSetLaws.{members as cells_are_members, same_cells as same_cells_are_equal}
pub use Rattle.clues.proofs.LawLemmas.{of_lines as clues_are_of_lines, same_books as books_are_their_clues}
pub use Rattle.line_facts.proofs.FitLaws.{one_line as one_line_decides}
pub use Rattle.line_facts.proofs.LawLemmas.{closes_a_line as forcing_closes_a_line, one_least as least_is_unique}
pub use Rattle.fixpoint.proofs.PictureLemmas.{closing_keeps_fillings, only_is_closed}
use Rattle.second_search.specs.Laws.{AllowancesBreakOff, FillingsAreOfFacts, FillingsStay, PartsDecide, SoundFacts}
use Rattle.second_search.specs.FixedOrder.{CostsAreUnique}
use Rattle.second_search.proofs.VerdictLemmas.{break_off}
use Rattle.second_search.proofs.ComingLemmas as coming
use Rattle.second_search.proofs.PartLemmas.{decide, facts_filled}
use Rattle.second_search.proofs.FindLemmas.{all_sound}
use Rattle.second_search.proofs.StayLemmas.{all_stays}

pub sound_facts : SoundFacts
sound_facts = all_sound closing_keeps_fillings

pub parts_decide : PartsDecide
parts_decide = decide clues_are_of_lines books_are_their_clues cells_are_members

pub fillings_are_of_facts : FillingsAreOfFacts
fillings_are_of_facts = facts_filled only_is_closed

pub fillings_stay : FillingsStay
fillings_stay = all_stays clues_are_of_lines books_are_their_clues cells_are_members

pub costs_are_unique : CostsAreUnique
costs_are_unique = coming.costs_are_unique least_is_unique

pub allowances_break_off : AllowancesBreakOff
allowances_break_off = break_off
