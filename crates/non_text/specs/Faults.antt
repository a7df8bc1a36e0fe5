-- The names of the errors.
use Rattle.std.specs.Prelude.{ℕ, List, codes}
use Rattle.non_text.specs.declared.fault.NonFault.{NonFault}
use Rattle.non_text.specs.declared.fault.NonFault.TheVariants.{MissingSize, BadSize, Repeated, BadClue, BadCount}
use Rattle.non_text.specs.declared.fault.NonFault.TheVariants.{ClueTooLong, BadGoal, GoalDisagrees, Memory}

abbrev pub name_of : NonFault → List ℕ
name_of MissingSize = codes "MissingSize"
name_of BadSize = codes "BadSize"
name_of Repeated = codes "Repeated"
name_of BadClue = codes "BadClue"
name_of BadCount = codes "BadCount"
name_of ClueTooLong = codes "ClueTooLong"
name_of BadGoal = codes "BadGoal"
name_of GoalDisagrees = codes "GoalDisagrees"
name_of Memory = codes "Memory"
