-- A step that is refused, unless memory ran out.
use Rattle.std.proofs.Common.{◌≡◌, Option, None, Some, Result, Ok, Err, IfErr, refl}
use Rattle.std.specs.Prelude.{unwrap_or}
use Rattle.edits.specs.declared.fault.EditFault.{EditFault}
use Rattle.edits.specs.declared.fault.EditFault.TheVariants.{Memory}
use Rattle.live_audit.specs.Bench.{Seen}
use Rattle.live_audit.specs.Calls.{Refuses}
use Rattle.live_audit.specs.Stroke.{Stroke}

uncalled : (found : Option EditFault) (fault : EditFault) (old new : Seen) → fault ≡ unwrap_or found Memory → ((f : EditFault) → found ≡ Some f → new ≡ old) → (fault ≡ Memory → ⊥) → new ≡ old
uncalled None fault old new is un other = absurd (other is)
uncalled (Some f) fault old new is un other = un f refl

pub as_before : (stroke : Stroke) (r : Result (Unit {0}) EditFault) (old new : Seen) → IfErr r (λ (fault : EditFault). Refuses stroke fault old new)
    → IfErr r (λ (fault : EditFault). (fault ≡ Memory → ⊥) → new ≡ old)
as_before stroke (Ok done) old new refuses = tt
as_before stroke (Err fault) old new refuses = uncalled _ fault old new refuses.first refuses.uncalled
