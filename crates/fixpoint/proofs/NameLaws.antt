-- Laws of sets of line names: which are equal, how many names they have, and where they are empty.
use Rattle.std.proofs.Common.{◌≡◌, ◌+◌, ◌≤◌, ◌↔◌, sym, subst, arith, inl, inr, ℕ, zero, suc, ◌/◌, ◌<◌, length, ap, ◌∙◌}
use Rattle.std.proofs.lemmas.Nat.{ones-le, ones_le_self}
use Rattle.picture.specs.declared.line_id.Axis.TheVariants.{Across, Down}
use Rattle.picture.specs.declared.line_id.LineId.{LineId}
use Rattle.picture.specs.LineSet.{Lines, IsLineSet, HasName, PutsNames, TakesOutName, name_count, no_names}
use Rattle.picture.proofs.BitLaws.{same_bits, bit_is_set, set_bit, no_bit}
use Rattle.picture.proofs.LineSetLaws.{members, fewer_out}
use Rattle.std.specs.Prelude.{IsBitSet, count_ones}
use Rattle.std.specs.Int.Count.{ones_step}
use Rattle.std.proofs.lemmas.Nat.Bits.{bit_at-suc, bit_at_lowest}
use Rattle.line_facts.specs.Masks.{Masks}
use Rattle.picture.specs.Rows.{width_of}
use Rattle.fixpoint.specs.LineNames.{AllLines}

-- sets that have the same names are equal
pub same_lines : (a b : Lines) → ((line : LineId) → HasName a line ↔ HasName b line) → a ≡ b
same_lines a b h =
    let r : a.rows ≡ b.rows = same_bits a.rows b.rows (λ k. h (record { axis = Across; at = k })) in
    let c : a.columns ≡ b.columns = same_bits a.columns b.columns (λ k. h (record { axis = Down; at = k })) in
    λ i. record { rows = r i; columns = c i }

pub no_name_is_empty : (lines : Lines) → ((line : LineId) → HasName lines line → ⊥) → lines ≡ no_names
no_name_is_empty lines h = same_lines lines no_names (λ line. ((λ s. absurd (h line s)), (λ s. absurd (members.empty line s))))

pub few_names : (lines : Lines) → IsLineSet lines → name_count lines ≤ 240
few_names lines is = omega (arith, ones-le 120 lines.rows is.rows_within, ones-le 120 lines.columns is.columns_within)

-- one line fewer
pub take_counts : (old new : Lines) (line : LineId) → HasName old line → TakesOutName old new line → name_count old ≡ name_count new + 1
take_counts old new line h t = sym (fewer_out old new line t h)

-- the names of a set put on an agenda that had none
pub filled : (none full lines : Lines) → none ≡ no_names → PutsNames none full lines → full ≡ lines
filled none full lines e p = grind (arith, same_lines)

-- ---- how many names all lines of facts have

-- a number whose bits are the lowest n has n of them
counted_below : (n mask : ℕ) → ((k : ℕ) → IsBitSet mask k ↔ (k < n)) → count_ones mask ≡ n
counted_below zero mask h =
    let none : mask ≡ 0 = same_bits mask 0 (λ k. ((λ s. let l = (h k).0 s in absurd (omega arith)), (λ s. absurd (no_bit k s)))) in
    let same = ap count_ones none in
    omega (arith, ones_le_self 0)
counted_below (suc n) mask h =
    let half = counted_below n (mask / 2) (λ k. (
      (λ s. let l = (h (suc k)).0 (bit_is_set mask (suc k) (bit_at-suc mask k ∙ set_bit (mask / 2) k s)) in omega arith),
      (λ l. bit_is_set (mask / 2) k (sym (bit_at-suc mask k) ∙ set_bit mask (suc k) ((h (suc k)).1 (omega arith)))),
    )) in
    let low = set_bit mask 0 ((h 0).1 (omega arith)) in
    omega (arith, ones_step mask, bit_at_lowest mask, low, half)

pub all_counted : (facts : Masks) (lines : Lines) → AllLines facts lines → name_count lines ≡ length facts + width_of facts
all_counted facts lines all =
    let rows = counted_below (length facts) lines.rows (λ k. all (record { axis = Across; at = k })) in
    let columns = counted_below (width_of facts) lines.columns (λ k. all (record { axis = Down; at = k })) in
    omega arith

pub ruleset all_names = (all_counted)
