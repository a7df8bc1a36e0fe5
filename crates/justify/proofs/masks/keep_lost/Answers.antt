use Rattle.std.proofs.Common.{ℕ, ◌<◌, ◌^◌, ◌∙◌, get_or, get_or-set_other, arith}
use Rattle.justify.proofs.LineMaskLemmas.{any_lost, lost_kept, lost_more, lost_so_far}
use Rattle.justify.proofs.masks.keep_lost.Goals as goal

pub returns-clause-kept : goal.returns-clause-kept
returns-clause-kept c =
    let small : (i : ℕ) → get_or c.args.before.now i 0 < 2 ^ 16 = λ i. (let f = c.type_inv.before i in omega arith) in
    lost_kept _ _ _ _ c.loop-place.auto.masks c.requires c.loop-place-test.false small c.loop-place.invariant.small c.loop-place.invariant.done

pub loop-place-preserved : goal.loop-place-preserved
loop-place-preserved c =
    let s = c.loop-place in
    record {
      small = s.invariant.small;
      done = lost_so_far c.args.before.now c.args.masks.now s.masks s.place (omega arith) (s.invariant.to_do s.place (omega arith)) s.invariant.done;
      to_do = λ i l. get_or-set_other s.masks s.place i _ 0 (omega arith) ∙ s.invariant.to_do i (omega arith);
      none_seen = lost_more s.masks s.seen _ s.place (omega arith) s.invariant.none_seen;
    }

pub returns-clause-any : goal.returns-clause-any
returns-clause-any c = any_lost c.loop-place.masks c.loop-place.seen c.loop-place.place (omega arith) c.loop-place.invariant.none_seen
