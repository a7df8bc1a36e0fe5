-- What a value is once nothing that it lends is looked at any more.
use Rattle.std.specs.Prelude.{⊤}
use Rattle.std.specs.Borrow.{Fml, MutBor, RattleType, follows_so}
use mathlib.Core.Option.{none}

module _ (R : RattleType) (lender : MutBor R.Denot) where
  -- the lender is so
  abbrev pub ends_so : (R.Denot → Type 0) → Fml
  ends_so is_so = follows_so R R lender.ghost_name none (λ _ _. ⊤) is_so
