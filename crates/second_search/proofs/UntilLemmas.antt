-- How often the engine is called at most while trees are written within a bound.
use Rattle.std.proofs.Common.{◌≡◌, ℕ, ◌+◌, ◌*◌, ◌<◌, ◌≤◌, Option, None, Some, false, is_some, length, max, ap, arith}
use Rattle.std.specs.Prelude.{IfNone}
use Rattle.std.proofs.Math.Nat.{mul-le-mul_right}
use Rattle.picture.specs.Rows.{width_of, Rows}
use Rattle.clues.specs.ClueBook.{Clues}
use Rattle.line_facts.specs.Counts.{counted}
use Rattle.line_facts.specs.Masks.{Masks}
use Rattle.second_search.specs.declared.ladder.Decided.{Decided}
use Rattle.second_search.specs.declared.tree.Growing.{Growing}
use Rattle.second_search.specs.declared.tree_lines.Lines.{Lines}
use Rattle.second_search.specs.Evaluations.{AreFewUntil, IsBrokenOff, last_call, most_in_tree}
use Rattle.second_search.proofs.TreeLemmas.{Said, shape_said}

-- a turn on a branch, after calls that do not exceed the number
pub few_said : (clues : Clues) (known : Rows) (facts : Masks) (start : Lines) (g : Growing) (until : Option ℕ) (before between after : ℕ) → Said clues known facts start g
    → between ≤ max before (last_call until) → AreFewUntil until g.trail.at_hand between after → AreFewUntil until facts before after
few_said clues known facts start g until before between after said l few =
    let s = shape_said clues known facts start g said in
    let rows = s.rows in
    let columns = s.each 0 in
    omega arith

-- a tree that is broken off where the calls so far and a bound are reached
pub within_bound : (way : Option ℕ) (facts : Masks) (bound until before after : ℕ) → way ≡ Some until → until ≤ before + bound → AreFewUntil way facts before after
    → after ≤ before + most_in_tree facts bound
unfolding most_in_tree
within_bound way facts bound until before after e u few =
    let same : last_call way ≡ until = ap last_call e in
    omega arith

-- where nothing is decided, a tree was broken off
pub none_broken : (way : Option ℕ) (calls : ℕ) (found : Option Decided) → is_some found ≡ false → IfNone found (IsBrokenOff way calls) → IsBrokenOff way calls
none_broken way calls None none over = over
none_broken way calls (Some decided) none over = absurd (cc none)

-- a tree that is broken off there, after some that have reached the bound
pub one_reached : (way : Option ℕ) (i bound until before between after : ℕ) → way ≡ Some until → until ≡ counted between bound → counted before (i * bound) ≤ between
    → IsBrokenOff way after → counted before ((i + 1) * bound) ≤ after
one_reached way i bound until before between after w u b over =
    let same : last_call way ≡ until = ap last_call w in
    let reached = over.1 in
    omega arith

pub one_more : (i most before between after : ℕ) → between ≤ before + i * most → after ≤ between + most → after ≤ before + (i + 1) * most
one_more i most before between after a b = omega arith

pub in_all : (i most before after : ℕ) → i ≤ 2 → after ≤ before + i * most → after ≤ before + 2 * most
in_all i most before after two a = let all : i * most ≤ 2 * most = mul-le-mul_right most two in omega arith
