use Rattle.std.proofs.Common.{◌≡◌, ◌∙◌, ◌+◌, ◌≤◌, ℕ, ap, length, suc, [], None, Option, Some, arith, refl}
use Rattle.line_facts.specs.Masks.{Masks}
use Rattle.line_facts.specs.FactSets.{SameShape}
use Rattle.line_facts.proofs.GridLaws.{shape_trans}
use Rattle.trail.specs.declared.cell.Cell.{Cell}
use Rattle.trail.specs.Trail.{GoesOn, Trailed}
use Rattle.second_search.specs.Through.{across}
use Rattle.second_search.specs.Evaluations.{most_to_close}
use Rattle.second_search.proofs.CountLemmas.{counted_ending, counted_nothing, counting_goes, counting_starts, goes_lighter}
use Rattle.second_search.proofs.DrawLemmas.{looks_go, looks_last, looks_start, same_most}
use Rattle.second_search.proofs.KeepLemmas.{both_named, can_close_like, quiet_at, quiet_goes, ready_at, ready_first}
use Rattle.second_search.proofs.AloneLemmas.{name_counts}
use Rattle.second_search.proofs.KnownLaws.{least_is_unique}
use Rattle.second_search.proofs.counting.search_counted.Goals as goal

pub loop-search-init : goal.loop-search-init
loop-search-init g c =
    let ready =
    ready_first c.args.book.now c.args.known.now c.args.start.lines c.args.start.facts c.args.start.lines c.start.result c.start.ensures c.requires.lines c.requires.quiet c.requires.others in
    record {
      counting = counting_starts c.args.book.now c.args.known.now c.args.start.facts c.args.start.allowance c.start.result c.start.ensures;
      ready = ready.0;
      rows = refl;
      some = c.requires.some;
      behind = ready.1;
      looks = (let none = ap (λ (x : Trailed). suc (length x.behind)) c.start.ensures in rw none (looks_start c.args.start.allowance c.args.start.facts _));
      calls = omega arith;
      same_longest = refl;
    }

-- a look takes no more evaluations than closing the first facts would
one_look : (first facts : Masks) (q r : ℕ) → SameShape first facts → r ≤ q + most_to_close facts → r ≤ q + most_to_close first
one_look first facts q r s l = rw (same_most first facts s) l

pub look_once-requires-clause-closable : goal.look_once-requires-clause-closable
look_once-requires-clause-closable g c =
    let i = c.loop-search.invariant in
    can_close_like c.args.book.now _ _ c.args.start.facts c.loop-search.search.trail.at_hand i.ready.same_shape i.same_longest c.requires.closable

pub look_once-requires-clause-same_shape : goal.look_once-requires-clause-same_shape
look_once-requires-clause-same_shape g c = shape_trans c.requires.same_shape c.loop-search.invariant.ready.same_shape

pub look_once-requires-clause-others : goal.look_once-requires-clause-others
look_once-requires-clause-others g c = rw c.loop-search.invariant.rows c.loop-search.invariant.ready.others

pub returns-in-Some-clause-ends : goal.returns-in-Some-clause-ends
returns-in-Some-clause-ends g c =
    let s = c.loop-search.search in
    let t = c.look_once.new.self in
    counted_ending least_is_unique c.args.book.now c.args.known.now c.args.start.facts c.args.start.allowance s.trail t.trail s.budget t.budget c.loop-search.invariant.counting c.in-Some.ending
    (rw c.in-Some.is at c.in_ok-found.ensures.steps)

nothing_waits : (s t : Trailed) (cell : Option Cell) → ((x : Cell) → cell ≡ Some x → ⊥) → GoesOn s t cell → s.behind ≡ []
nothing_waits s t None none on = on
nothing_waits s t (Some cell) none on = absurd (none cell refl)

pub returns-in_default-clause-ends : goal.returns-in_default-clause-ends
returns-in_default-clause-ends g c =
    let s = c.loop-search.search.trail in
    let t = c.look_once.new.self.trail in
    let counting = counting_goes least_is_unique _ _ _ _ s t _ _ c.loop-search.invariant.counting (rw c.in-None.is at c.in_ok-found.ensures.steps) in
    counted_nothing _ _ _ _ _ _ counting (nothing_waits t c.advance.new.self _ c.in_default.not-Some c.in_ok-cell.ensures.goes_on)

pub loop-search-preserved : goal.loop-search-preserved
loop-search-preserved g c =
    let s = c.loop-search.search.trail in
    let t = c.look_once.new.self.trail in
    let u = c.advance.new.self in
    let cell = c.in-Some-2.cell in
    let book = c.args.book.now in
    let first = c.args.start.facts in
    let steps = rw c.in-None.is at c.in_ok-found.ensures.steps in
    let counting = counting_goes least_is_unique _ _ _ _ s t _ _ c.loop-search.invariant.counting steps in
    let quiet = quiet_goes book c.args.known.now first c.args.start.lines s t _ _ c.loop-search.invariant.ready.same_shape c.loop-search.invariant.ready.others c.loop-search.invariant.behind steps in
    let on : GoesOn t u (Some cell) = rw c.in-Some-2.is at c.in_ok-cell.ensures.goes_on in
    let next = quiet_at book c.args.known.now c.args.start.lines first t u cell quiet on in
    let at = next.0.1 in
    let lines = c.lines.result in
    let is = c.height-2.ensures.facts in
    record {
      counting = rw on.0 at counting;
      ready = ready_at book c.args.known.now c.args.start.lines first u.at_hand cell lines is next.0.0 at c.lines.ensures;
      rows = refl;
      some = name_counts lines (across cell.row) (both_named first u.at_hand cell lines is next.0.0 at.in_rows at.in_columns c.lines.ensures).0;
      behind = next.1;
      looks = (let went = looks_go book c.args.known.now c.args.start.allowance first s t _ _ _ _ _ c.loop-search.invariant.looks (one_look first s.at_hand _ _ c.loop-search.invariant.ready.same_shape
          c.look_once.ensures.few) steps in let count : length t.behind ≡ suc (length u.behind) = ap length on.0 in rw count at went);
      calls = omega arith;
      same_longest = c.look_once.ensures.same_longest ∙ c.loop-search.invariant.same_longest;
    }

pub loop-search-smaller : goal.loop-search-smaller
loop-search-smaller g c =
    let s = c.loop-search.search.trail in
    let t = c.look_once.new.self.trail in
    let u = c.advance.new.self in
    let on : GoesOn t u (Some c.in-Some-2.cell) = rw c.in-Some-2.is at c.in_ok-cell.ensures.goes_on in
    goes_lighter c.args.book.now c.args.known.now s t u _ _ (rw c.in-None.is at c.in_ok-found.ensures.steps) on.0

pub returns-in-Some-clause-few : goal.returns-in-Some-clause-few
returns-in-Some-clause-few g c =
    let i = c.loop-search.invariant in
    looks_last c.args.start.allowance _ c.args.start.facts _ _ _ _ i.looks (one_look c.args.start.facts c.loop-search.search.trail.at_hand _ _ i.ready.same_shape c.look_once.ensures.few)

pub returns-in_default-clause-few : goal.returns-in_default-clause-few
returns-in_default-clause-few g c =
    let i = c.loop-search.invariant in
    looks_last c.args.start.allowance _ c.args.start.facts _ _ _ _ i.looks (one_look c.args.start.facts c.loop-search.search.trail.at_hand _ _ i.ready.same_shape c.look_once.ensures.few)

pub returns-in_err-found-clause-few : goal.returns-in_err-found-clause-few
returns-in_err-found-clause-few g c =
    let i = c.loop-search.invariant in
    looks_last c.args.start.allowance _ c.args.start.facts _ _ _ _ i.looks (one_look c.args.start.facts c.loop-search.search.trail.at_hand _ _ i.ready.same_shape c.look_once.ensures.few)

pub returns-in_err-cell-clause-few : goal.returns-in_err-cell-clause-few
returns-in_err-cell-clause-few g c =
    let i = c.loop-search.invariant in
    looks_last c.args.start.allowance _ c.args.start.facts _ _ _ _ i.looks (one_look c.args.start.facts c.loop-search.search.trail.at_hand _ _ i.ready.same_shape c.look_once.ensures.few)
