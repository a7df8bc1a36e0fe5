-- The names of the errors of a line.
use Rattle.std.specs.Prelude.{ℕ, List, codes}
use Rattle.command_text.specs.declared.fault.CommandFault.{CommandFault}
use Rattle.command_text.specs.declared.fault.CommandFault.TheVariants.{LongLine, UnknownWord, WordCount, BadNumber}
use Rattle.command_text.specs.declared.fault.CommandFault.TheVariants.{BadColour}

abbrev pub name_of : CommandFault → List ℕ
name_of LongLine = codes "LongLine"
name_of UnknownWord = codes "UnknownWord"
name_of WordCount = codes "WordCount"
name_of BadNumber = codes "BadNumber"
name_of BadColour = codes "BadColour"
