use Rattle.std.proofs.Common.{◌≡◌, ◌++◌, take}
use Rattle.std.specs.List.{flat_map}
use Rattle.report_text.specs.PathText.{look_text}
use Rattle.report_text.proofs.pathing.push_path.Given as goal

abbrev pub invariant-loop-look : goal.invariant-loop-look
invariant-loop-look l = l.text.items ≡ l.fn.text.items ++ flat_map look_text (take l.look-index l.path.looks.items)
