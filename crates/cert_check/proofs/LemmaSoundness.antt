-- What a proof with lemmas proves is true: no other picture is left by the facts at its root.
use Rattle.std.proofs.Common.{◌≡◌, ◌⊎◌, ℕ, zero, suc, List, [], ◌∷◌, ◌++◌, sym, inl, inr}
use Rattle.line_facts.specs.Masks.{Masks}
use Rattle.line_facts.proofs.GridLaws.{shape_trans}
use Rattle.picture.specs.Picture.{IsPicture}
use Rattle.picture.specs.Rows.{line_of, Rows}
use Rattle.cert_text.specs.Cert.{Certificate}
use Rattle.cert_text.specs.declared.cert_line.CertLine.{CertLine}
use Rattle.cert_text.specs.declared.cert_line.CertLine.TheVariants.{Line, Use, Split, Dead, Broken, Done, Part, Lemma, Deny, Forget}
use Rattle.line_facts.specs.FactSets.{SameShape}
use Rattle.cert_check.specs.Puzzle.{IsUnique, base_of, line_id}
use Rattle.cert_check.specs.Lemmas.{Lemmas, no_lemmas}
use Rattle.cert_check.specs.Steps.{Leads}
use Rattle.cert_check.specs.LemmaProof.{Branch, Branches, Trunk, leads, none, more, ends, goes, proved, dropped, BranchProves, EachBranchProves, TrunkProves, IsLemmaProof}
use Rattle.cert_check.proofs.Meeting.{MeetsAll, held_to_keeps, meets_kept, meets_more, meets_without, met_or_denied, none_open, parts, used_keeps}
use Rattle.cert_check.proofs.Soundness.{IsRival, Keeps, KeepsSome, base_keeps, fits_line, forced_keeps, line_there, shows_it, split_keeps}

module _ (picture other : Rows) (rival : IsRival picture other) where
  -- a line leads on: the picture keeps to some of the facts, or it is the known one
  led_keeps : (lemmas : Lemmas) (facts : Masks) (line : CertLine) (next : List Masks) → MeetsAll other lemmas → Leads picture lemmas facts line next → Keeps facts other
      → KeepsSome next other ⊎ (other ≡ picture)
  led_keeps lemmas facts (Line number) next all l keeps =
      let has = line_there picture facts number (shape_trans rival.same_shape keeps.same_shape) l.0 in
      inl (rw l.1.1.1 (inl (forced_keeps picture facts l.1.0 other (line_id number) rival has l.1.1.0 keeps)))
  led_keeps lemmas facts (Use n) next all l keeps =
      inl (rw l.1.1 (inl (used_keeps facts other keeps l.0 (meets_kept other lemmas n l.0 all l.1.0))))
  led_keeps lemmas facts (Split cell) next all l keeps = inl (rw l.1 (split_keeps picture facts other cell rival l.0 keeps))
  led_keeps lemmas facts (Dead number) next all l keeps =
      let has = line_there picture facts number (shape_trans rival.same_shape keeps.same_shape) l.0 in
      absurd (l.1 (line_of other (line_id number), fits_line picture facts other (line_id number) rival has keeps))
  led_keeps lemmas facts (Broken n) next all l keeps = absurd (none_open facts other keeps l.0 (meets_kept other lemmas n l.0 all l.1.0) l.1.1)
  led_keeps lemmas facts Done next all l keeps = inr (shows_it picture facts other rival.same_shape l.0 keeps)
  led_keeps lemmas facts (Part literal) next all l keeps = inl (rw l.1 (elim (parts picture facts other literal rival l.0 keeps) [
    | inl k ↦ inl k
    | inr m ↦ inr (inl (held_to_keeps facts other keeps literal m))
  ]))
  led_keeps lemmas facts Lemma next all l keeps = absurd l
  led_keeps lemmas facts (Deny literal) next all l keeps = absurd l
  led_keeps lemmas facts (Forget n) next all l keeps = absurd l

  mutual
    branch_sound : (lemmas : Lemmas) → MeetsAll other lemmas → (branch : Branch) (facts : Masks) → BranchProves picture lemmas facts branch → Keeps facts other → other ≡ picture
    branch_sound lemmas all (leads line branches) facts p keeps = elim (led_keeps lemmas facts line p.0 all p.1.0 keeps) [
      | inl some ↦ each_sound lemmas all branches p.0 p.1.1 some
      | inr e ↦ e
    ]

    each_sound : (lemmas : Lemmas) → MeetsAll other lemmas → (branches : Branches) (next : List (List (List ℕ))) → EachBranchProves picture lemmas next branches → KeepsSome next other
        → other ≡ picture
    each_sound lemmas all none [] p some = absurd some
    each_sound lemmas all none (facts ∷ others) p some = absurd p
    each_sound lemmas all (more branch branches) [] p some = absurd p
    each_sound lemmas all (more branch branches) (facts ∷ others) p (inl keeps) = branch_sound lemmas all branch facts p.0 keeps
    each_sound lemmas all (more branch branches) (facts ∷ others) p (inr some) = each_sound lemmas all branches others p.1 some

  some_cut : (front : List Masks) (last : Masks) → KeepsSome (front ++ last ∷ []) other → KeepsSome front other ⊎ Keeps last other
  some_cut [] last (inl k) = inr k
  some_cut [] last (inr n) = absurd n
  some_cut (facts ∷ front) last (inl k) = inl (inl k)
  some_cut (facts ∷ front) last (inr s) = elim (some_cut front last s) [ inl m ↦ inl (inr m) | inr k ↦ inr k ]

  trunk_sound : (trunk : Trunk) (lemmas : Lemmas) (facts : Masks) → TrunkProves picture lemmas facts trunk → MeetsAll other lemmas → Keeps facts other → other ≡ picture
  trunk_sound (ends line) lemmas facts p all keeps = elim (led_keeps lemmas facts line [] all p keeps) [ inl some ↦ absurd some | inr e ↦ e ]
  trunk_sound (goes line branches trunk) lemmas facts p all keeps = elim (led_keeps lemmas facts line (p.0 ++ p.1.0 ∷ []) all p.1.1.0 keeps) [
    | inr e ↦ e
    | inl some ↦ elim (some_cut p.0 p.1.0 some) [
      | inl s ↦ each_sound lemmas all branches p.0 p.1.1.1 s
      | inr k ↦ trunk_sound trunk lemmas p.1.0 p.1.1.2 all k
    ]
  ]
  trunk_sound (proved literals branch trunk) lemmas facts p all keeps = elim (met_or_denied picture facts other literals rival p.0 keeps) [
    | inl met ↦ trunk_sound trunk (lemmas ++ _ ∷ []) facts p.3 (meets_more other lemmas literals all met) keeps
    | inr denied ↦ branch_sound lemmas all branch _ p.2 denied
  ]
  trunk_sound (dropped n trunk) lemmas facts p all keeps = trunk_sound trunk _ facts p.1 (meets_without other lemmas n all) keeps

none_stands : (other : Rows) (n : ℕ) → MeetsAll other no_lemmas
none_stands other n zero = tt
none_stands other n (suc k) = tt

-- where there is a proof, there is no other picture
pub lemmas_are_unique : (picture : Rows) (cert : Certificate) → IsPicture picture → IsLemmaProof picture cert → IsUnique picture cert.givens
lemmas_are_unique picture cert is p other s =
    let shape : SameShape picture other = record { rows = sym s.rows; each = λ i. sym (s.columns i) } in
    let rival : IsRival picture other = record { is_picture = s.is_picture; same_shape = shape; has_clues = s.has_clues } in
    trunk_sound picture other rival p.trunk no_lemmas (base_of picture cert.givens) p.proves (none_stands other 0) (base_keeps picture other cert.givens is rival p.inside s.keeps_givens)
