-- The allowance of an assessment.
use Rattle.std.specs.Prelude.{ℕ, Bool, true, false, Option, None, Some}
use Rattle.command_text.specs.declared.command.TheConstants.{ASSESS_SPLITS}

-- none where it is taken away, else that of the session, or 10,000 splits
abbrev pub assess_allowance : Bool → Option ℕ → Option ℕ
assess_allowance true allowance = None
assess_allowance false None = Some ASSESS_SPLITS
assess_allowance false (Some splits) = Some splits
