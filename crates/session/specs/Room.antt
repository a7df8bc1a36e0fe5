-- How many bytes a verdict takes as text.
use Rattle.std.specs.Prelude.{ℕ, ◌+◌}
use Rattle.live_audit.specs.declared.verdict.Verdict.{Verdict}
use Rattle.live_audit.specs.declared.verdict.Verdict.TheVariants.{Unique, Ambiguous, Undecided}
use Rattle.report_text.specs.Room.{picture_room}

-- the most bytes of a verdict's text
abbrev pub verdict_room : Verdict → ℕ
verdict_room Unique = 7
verdict_room (Ambiguous other) = 10 + picture_room other.now
verdict_room (Undecided splits) = 21
