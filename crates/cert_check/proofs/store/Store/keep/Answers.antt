use Rattle.cert_check.proofs.StoreLemmas.{kept_store}
use Rattle.cert_check.proofs.store.Store.keep.Goals as goal

pub invariant_of-self : goal.invariant_of-self
invariant_of-self c =
    let inside = c.self.inside in (
      rw (c.push_reserved.ensures.items, c.as_slice-end.ensures.value) (kept_store inside.literals.items inside.lemmas.items inside.newest inside.count c.self.invariant.0),
      c.self.invariant.1,
      c.self.invariant.2,
    )
