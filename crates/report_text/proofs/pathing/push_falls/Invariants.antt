use Rattle.std.proofs.Common.{◌≡◌, ◌++◌, take}
use Rattle.std.specs.List.{flat_map}
use Rattle.report_text.specs.PathText.{fall_text}
use Rattle.report_text.proofs.pathing.push_falls.Given as goal

abbrev pub invariant-loop-fall : goal.invariant-loop-fall
invariant-loop-fall l = l.text.items ≡ l.fn.text.items ++ flat_map fall_text (take l.fall-index l.falls)
