-- Sets of positions moved over the cells of a block and over the gap before it.
use Rattle.std.proofs.Common.{◌≡◌, ℕ, zero, suc, ◌+◌, ◌*◌, ◌/◌, ◌%◌, ◌^◌, ◌<◌, ◌&&◌, ◌||◌, bit_and, bit_or, ap, ◌∙◌, arith}
use Rattle.std.proofs.Math.Bool.{and_comm}
use Rattle.line_facts.specs.BitSets.{has}
use Rattle.line_settle.specs.LaidBlocks.{lays, moved, covers}
use Rattle.line_settle.proofs.PositionLemmas.{has_and, has_down, none_moved_up, moved_up, up_next}
use Rattle.line_facts.proofs.BitSetLaws.{has_or, has_none}

-- ---- before the cells of a block

pub lays_more : (ends cells starts new n m i : ℕ) → m ≡ n + 1 → ((j : ℕ) → has starts j ≡ lays cells ends n j) → new ≡ bit_and (starts / 2) cells → has new i ≡ lays cells ends m i
lays_more ends cells starts new n m i e is made =
    let z : suc n ≡ m = omega arith in
    ap (λ s. has s i) made
    ∙ (has_and (starts / 2) cells i
    ∙ (and_comm (has (starts / 2) i) (has cells i)
    ∙ (ap (λ x. has cells i && x) (has_down 1 starts i ∙ is (i + 1))
    ∙ ap (λ k. lays cells ends k i) z)))

-- ---- the cells of a block, and after them

pub moved_more : (w starts ends n m i : ℕ) → m ≡ n + 1 → ((j : ℕ) → j < w → has ends j ≡ moved starts n j) → i < w → has (ends * 2 % 2 ^ w) i ≡ moved starts m i
moved_more w starts ends n m zero e is h = none_moved_up w ends h ∙ ap (λ k. moved starts k 0) (let z : suc n ≡ m = omega arith in z)
moved_more w starts ends n m (suc i) e is h =
    moved_up w ends i (omega arith) ∙ (is i (omega arith) ∙ ap (λ k. moved starts k (suc i)) (let z : suc n ≡ m = omega arith in z))

pub covers_none : (starts i : ℕ) → has 0 i ≡ covers starts 0 i
covers_none starts i = has_none i

pub covers_more : (w starts cells ends n m i : ℕ) → m ≡ n + 1 → ((j : ℕ) → j < w → has cells j ≡ covers starts n j) → ((j : ℕ) → j < w → has ends j ≡ moved starts n j) → i < w
    → has (bit_or cells ends) i ≡ covers starts m i
covers_more w starts cells ends n m i e is at h =
    has_or cells ends i
    ∙ (ap (λ x. x || has ends i) (is i h)
    ∙ (ap (λ x. covers starts n i || x) (at i h)
    ∙ ap (λ k. covers starts k i) (let z : suc n ≡ m = omega arith in z)))

-- ---- the gap before a block

pub gap_behind : (w from background i : ℕ) → i + 1 < w → has ((bit_and from background) * 2 % 2 ^ w) (i + 1) ≡ (has background i && has from i)
gap_behind w from background i h = up_next w (bit_and from background) i h ∙ (has_and from background i ∙ and_comm (has from i) (has background i))

pub gap_before : (later background i : ℕ) → has (bit_and (later / 2) background) i ≡ (has background i && has later (i + 1))
gap_before later background i = has_and (later / 2) background i ∙ (and_comm (has (later / 2) i) (has background i) ∙ ap (λ x. has background i && x) (has_down 1 later i))

pub ruleset starting = (lays_more)

pub ruleset laying = (moved_more, covers_none, covers_more)

pub ruleset gaps = (none_moved_up, gap_behind, gap_before)
