use Rattle.std.proofs.Common.{List, [], ◌∷◌, ◌++◌, ◌∙◌, arith, refl, sym, subst}
use Rattle.grade.specs.Paths.{IsPath, Made}
use Rattle.grade.specs.Runs.{look_in}
use Rattle.grade.proofs.PathLemmas.{goes_on, stays}
use Rattle.grade.proofs.pathing.make_path.Goals as goal

pub loop-seen-init : goal.loop-seen-init
loop-seen-init g c = record {
  can = c.start-walk.ensures.can;
  closable = c.requires;
  seen = [];
  walks = c.start-walk.ensures.walks c.args.book.now;
  path = c.new-looks.ensures.items;
  called = (let some = c.calls.ensures in omega (arith, some));
  same_longest = refl;
}

pub loop-seen-preserved-in_ok-push : goal.loop-seen-preserved-in_ok-push
loop-seen-preserved-in_ok-push g c =
    let i = c.loop-seen.invariant in
    let seen = c.in-Some.ensures.looks c.args.facts i.seen i.walks in
    let next = look_in c.in-Some.seen.turn c.loop-seen.facts c.look.new.facts ∷ i.seen in
    record {
      can = c.look.ensures.can;
      closable = c.look.ensures.closable;
      seen = next;
      walks = seen.1;
      path = subst (IsPath c.args.book.now next) (sym c.in_ok-push.ensures.items)
          (goes_on c.args.book.now c.in-Some.seen c.loop-seen.facts c.look.new.facts i.seen c.loop-seen.looks.items c.excluded.result seen.0 c.excluded.ensures i.path c.if-excluded-ne0.true
          c.in_ok-advance.field-0 (rw c.clue.ensures.value at c.in_ok-advance.ensures));
      called = (let once = c.in-Some.ensures.called in let before = i.called in omega (arith, once, before));
      same_longest = c.look.ensures.same_longest ∙ i.same_longest;
    }

pub loop-seen-preserved : goal.loop-seen-preserved
loop-seen-preserved g c =
    let i = c.loop-seen.invariant in
    let seen = c.in-Some.ensures.looks c.args.facts i.seen i.walks in
    record {
      can = c.look.ensures.can;
      closable = c.look.ensures.closable;
      seen = look_in c.in-Some.seen.turn c.loop-seen.facts c.look.new.facts ∷ i.seen;
      walks = seen.1;
      path = stays c.args.book.now c.in-Some.seen c.loop-seen.facts c.look.new.facts i.seen c.loop-seen.looks.items c.excluded.result seen.0 c.excluded.ensures i.path
          (omega (arith, c.if-excluded-ne0.false));
      called = (let once = c.in-Some.ensures.called in let before = i.called in omega (arith, once, before));
      same_longest = c.look.ensures.same_longest ∙ i.same_longest;
    }
