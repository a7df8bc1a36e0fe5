-- The places at which two lists of masks differ, found sixteen at a time.
use Rattle.std.proofs.Common.{◌≡◌, ℕ, zero, suc, ◌+◌, ◌*◌, ◌%◌, ◌==◌, ◌^◌, ◌<◌, ◌≤◌, Bool, false, cond, not, List, map, eqb, eq-eqb, refl, sym, ap, subst, ◌∙◌, arith, inl, inr, length, get_or, w16}
use Rattle.std.specs.Simd.Lanes.{zip2, chunk, top, mask_l}
use Rattle.std.proofs.lemmas.Simd.{length-chunk, get_or-chunk, get_or-zip2, length-zip2, tops_compared, mask_l-mod, mask_l-lt}
use Rattle.std.proofs.lemmas.Bool.{cases_lt, false≢true}
use Rattle.std.proofs.lemmas.Nat.{pow_pos}
use Rattle.std.proofs.lemmas.Nat.Bits.{bit_at-lt, bit_at_above, same_from_bits}
use Rattle.std.proofs.Math.Nat.{mod-lt}
use Rattle.std.specs.Int.{bit_at}
use Rattle.line_facts.specs.BitSets.{has}
use Rattle.line_facts.specs.CrossedLines.{differs}
use Rattle.line_facts.proofs.BitSetLaws.{has_mask}
use Rattle.line_facts.proofs.BitSetLaws.{bit_low, has_above, has_none}

abbrev apart : ℕ → ℕ → Bool
apart a b = not (eqb a b)

-- what the comparison of sixteen masks with sixteen others gives
abbrev pub compared_pairs : List ℕ → List ℕ → ℕ
compared_pairs xs ys = mask_l (map (top 15) (zip2 (λ (a b : ℕ). cond (not (eqb a b)) 65535 0) xs ys)) % 2 ^ 64

module _ (before after : List ℕ) (first : ℕ) (room : first + 16 ≤ length before) (same : length after ≡ length before) where
  part_before : length (chunk first 16 before) ≡ 16
  part_before = length-chunk first 16 before room

  part_after : length (chunk first 16 after) ≡ 16
  part_after = length-chunk first 16 after (omega arith)

  part_pairs : length (zip2 apart (chunk first 16 before) (chunk first 16 after)) ≡ 16
  part_pairs = length-zip2 apart (chunk first 16 before) (chunk first 16 after) (part_before ∙ sym part_after) ∙ part_before

  pairs_are : compared_pairs (chunk first 16 before) (chunk first 16 after) ≡ mask_l (zip2 apart (chunk first 16 before) (chunk first 16 after))
  pairs_are =
      ap (λ ms. mask_l ms % 2 ^ 64) (tops_compared w16 apart (chunk first 16 before) (chunk first 16 after))
      ∙ mask_l-mod (zip2 apart (chunk first 16 before) (chunk first 16 after)) 64 (omega (arith, part_pairs))

  pub pairs-lt : compared_pairs (chunk first 16 before) (chunk first 16 after) < 65536
  pairs-lt =
      let P : ℕ → Type 0 = λ n. n < 65536 in
      let Q : ℕ → Type 0 = λ n. mask_l (zip2 apart (chunk first 16 before) (chunk first 16 after)) < 2 ^ n in
      subst P (sym pairs_are) (subst Q part_pairs (mask_l-lt (zip2 apart (chunk first 16 before) (chunk first 16 after))))

  pub pairs_each : (i : ℕ) → i < 16 → has (compared_pairs (chunk first 16 before) (chunk first 16 after)) i ≡ differs before after (first + i)
  pairs_each i l =
      ap (λ m. has m i) pairs_are
      ∙ (has_mask (zip2 apart (chunk first 16 before) (chunk first 16 after)) i
      ∙ (get_or-zip2 apart (chunk first 16 before) (chunk first 16 after) i 0 0 false (omega (arith, part_before)) (omega (arith, part_after))
      ∙ (ap (λ m. apart m (get_or (chunk first 16 after) i 0)) (get_or-chunk first 16 before i 0 l)
      ∙ ap (λ m. apart (get_or before (first + i) 0) m) (get_or-chunk first 16 after i 0 l))))

-- where two lists are the same from a place on, no later place is one at which they differ
pub none_apart : (before after : List ℕ) (cells n j : ℕ) → cells ≤ n → ((i : ℕ) → cells ≤ i → get_or before i 0 ≡ get_or after i 0) → has 0 j ≡ differs before after (n + j)
none_apart before after cells n j h same = has_none j ∙ sym (ap not (eq-eqb (get_or before (n + j) 0) (get_or after (n + j) 0) (same (n + j) (omega arith))))

-- all places at which two lists differ lie in the 128 that a set has
pub all_apart : (before after : List ℕ) (cells places n : ℕ) → n ≡ 0 → places < 2 ^ 128 → cells ≤ 128 → ((i : ℕ) → cells ≤ i → get_or before i 0 ≡ get_or after i 0)
    → ((j : ℕ) → j < 128 → has places j ≡ differs before after (16 * n + j)) → (i : ℕ) → has places i ≡ differs before after i
all_apart before after cells places n e small short same is i =
    let z : 16 * n + i ≡ i = omega arith in
    elim (cases_lt i 128) [
      | inl l ↦ is i l ∙ ap (differs before after) z
      | inr past ↦ has_above 128 places i small past ∙ (sym (has_none 0) ∙ (none_apart before after cells i 0 (omega arith) same ∙ ap (differs before after) (let y : i + 0 ≡ i = omega arith in y)))
    ]

none_odd : (b : ℕ) → b < 2 → (b == 1) ≡ false → b ≡ 0
none_odd zero l e = refl
none_odd (suc zero) l e = absurd (false≢true (sym e))
none_odd (suc (suc b)) l e = absurd (omega arith)

bit_none : (a i : ℕ) → has a i ≡ false → bit_at a i ≡ 0
unfolding has
bit_none a i e = none_odd (bit_at a i) (bit_at-lt a i) e

-- a number without a bit from place k on
pub none_from : (k a : ℕ) → ((i : ℕ) → k ≤ i → has a i ≡ false) → a < 2 ^ k
none_from k a h =
    let room : 0 < 2 ^ k = pow_pos k in
    let P : ℕ → Type 0 = λ n. n < 2 ^ k in
    subst P (same_from_bits (a % 2 ^ k) a (λ i. elim (cases_lt i k) [
      | inl l ↦ bit_low k a i l
      | inr m ↦ bit_at_above (a % 2 ^ k) k i (mod-lt a room) m ∙ sym (bit_none a i (h i m))
    ])) (mod-lt a room)
