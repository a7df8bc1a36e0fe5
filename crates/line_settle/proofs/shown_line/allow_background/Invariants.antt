use Rattle.std.proofs.Common.{◌≡◌, ◌↔◌, ◌<◌, ℕ, true, get_or}
use Rattle.line_settle.specs.Patterns.{allows}
use Rattle.line_settle.proofs.shown_line.allow_background.Given as goal

-- the masks so far have background in common where each has it
abbrev pub invariant-loop-mask : goal.invariant-loop-mask
invariant-loop-mask l = (allows l.common 0 ≡ true) ↔ ((i : ℕ) → i < l.mask-index → allows (get_or l.left i 0) 0 ≡ true)
