-- The least closed facts, found afresh from a base.
use Rattle.std.specs.Prelude.{◌≡◌, ℕ, List, Result, Ok, Err}
use Rattle.line_facts.specs.Masks.{Masks}
use Rattle.picture.specs.LineSet.{Lines}
use Rattle.clues.specs.ClueBook.{Clues}
use Rattle.line_facts.specs.declared.line_engine.Outcome.TheVariants.{Narrowed, Dead}
use Rattle.line_facts.specs.declared.meter.Meter.{Meter}
use Rattle.line_facts.specs.FactSets.{IsLeast}
use Rattle.fixpoint.specs.declared.fault.CloseFault.{CloseFault}
use Rattle.fixpoint.specs.declared.fault.CloseFault.TheVariants as fault
use Rattle.fixpoint.specs.ClosedFacts.{EachFits, HasDeadLine, Works}
use Rattle.fixpoint.specs.LineNames.{AllLines}

-- the least closed facts, under which some list fits each line; or there is a line that no list fits
abbrev pub Settles : Clues → Masks → Result (List (List ℕ)) CloseFault → Type 0
Settles clues base (Ok facts) = IsLeast clues base facts × EachFits clues facts
Settles clues base (Err fault.Dead) = HasDeadLine clues base
Settles clues base (Err fault.Memory) = Unit {0}

-- The work is that of closing with all lines waiting. Where memory ran out, none was done.
abbrev pub SettlingWorks : Clues → Masks → Result (List (List ℕ)) CloseFault → Meter → Meter → ℕ → ℕ → Type 0
SettlingWorks clues base (Ok facts) old new before after =
    (lines : Lines) × (AllLines base lines × Works clues lines base facts Narrowed old new before after)
SettlingWorks clues base (Err fault.Dead) old new before after =
    (lines : Lines) × (AllLines base lines × ((facts : Masks) × Works clues lines base facts Dead old new before after))
SettlingWorks clues base (Err fault.Memory) old new before after = (new ≡ old) × (after ≡ before)
