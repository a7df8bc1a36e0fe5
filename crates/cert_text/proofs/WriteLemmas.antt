-- The lines of runs, written one by one.
use Rattle.std.proofs.Common.{◌≡◌, ℕ, ◌+◌, ◌<◌, ◌≤◌, List, [], ◌∷◌, ◌++◌, length, take, drop, get_or, drop-cons, add-one, append_assoc, Option, refl, sym, ap, subst, ◌∙◌, arith, min, inl, inr}
use Rattle.std.specs.List.{flat_map}
use Rattle.std.specs.Io.KnownBytes.{Appends}
use Rattle.std.proofs.KnownBytes.{Appends-nil}
use Rattle.std.proofs.lemmas.List.{append-nil, drop_all, take_all}
use Rattle.std.proofs.lemmas.Bool.{cases_lt}
use Rattle.picture.specs.Writers.{AppendsFront}
use Rattle.picture.proofs.SendingLaws.{both_sent, first_front, second_front}
use Rattle.cert_text.specs.declared.cert_line.CertLine.{CertLine}
use Rattle.cert_text.specs.Cert.{cut_into}
use Rattle.cert_text.specs.WrittenCert.{run_text}

abbrev runs_text : List ℕ → List CertLine → List ℕ
runs_text runs steps = flat_map run_text (cut_into runs steps)

-- some text was sent, and with that of the runs that are left it is the whole
pub record RunsSent (a b : Option (List ℕ)) (runs : List ℕ) (steps : List CertLine) (left : List ℕ) (rest : List CertLine) : Type 0 where
  pub sent : List ℕ
  pub appends : Appends a b sent
  pub whole : runs_text runs steps ≡ sent ++ runs_text left rest

pub none_sent : (a : Option (List ℕ)) (runs : List ℕ) (steps : List CertLine) → RunsSent a a runs steps runs steps
none_sent a runs steps = record { sent = []; appends = Appends-nil a; whole = refl }

module _ (a b c : Option (List ℕ)) (runs : List ℕ) (steps rest : List CertLine) where
  module _ (i run : ℕ) (l : i < length runs) (e : run ≡ get_or runs i 0) (old : RunsSent a b runs steps (drop i runs) rest) where
    parts : runs_text runs steps ≡ old.sent ++ (run_text (take run rest) ++ runs_text (drop (i + 1) runs) (drop run rest))
    parts = old.whole ∙ ap (λ (ns : List ℕ). old.sent ++ runs_text ns rest) here
      where
        here : drop i runs ≡ run ∷ drop (i + 1) runs
        here = rw (add-one, e) (drop-cons runs i 0 l)

    pub run_sent : Appends b c (run_text (take run rest)) → RunsSent a c runs steps (drop (i + 1) runs) (drop run rest)
    run_sent now = record {
      sent = old.sent ++ run_text (take run rest);
      appends = both_sent a b c old.sent (run_text (take run rest)) old.appends now;
      whole = parts ∙ sym (append_assoc old.sent (run_text (take run rest)) (runs_text (drop (i + 1) runs) (drop run rest)));
    }

    pub run_cut : AppendsFront b c (run_text (take run rest)) → AppendsFront a c (runs_text runs steps)
    run_cut now =
        subst (AppendsFront a c) (sym parts)
        (second_front a b c old.sent (run_text (take run rest) ++ runs_text (drop (i + 1) runs) (drop run rest)) old.appends
        (first_front b c (run_text (take run rest)) (runs_text (drop (i + 1) runs) (drop run rest)) now))

  pub all_sent : (i : ℕ) → length runs ≤ i → RunsSent a b runs steps (drop i runs) rest → Appends a b (runs_text runs steps)
  all_sent i all old = subst (Appends a b) (sym (old.whole ∙ (ap (λ (ns : List ℕ). old.sent ++ runs_text ns rest) (drop_all i runs all) ∙ append-nil old.sent))) old.appends

-- as many as there are
pub take_capped : (run : ℕ) (steps : List CertLine) → (take (min run (length steps)) steps ≡ take run steps) × (drop (min run (length steps)) steps ≡ drop run steps)
take_capped run steps = elim (cases_lt run (length steps)) [
  | inl few ↦
      let e : min run (length steps) ≡ run = omega (arith, few) in
      (ap (λ (n : ℕ). take n steps) e, ap (λ (n : ℕ). drop n steps) e)
  | inr many ↦
      let e : min run (length steps) ≡ length steps = omega (arith, many) in (
        ap (λ (n : ℕ). take n steps) e ∙ (take_all (length steps) steps (omega arith) ∙ sym (take_all run steps many)),
        ap (λ (n : ℕ). drop n steps) e ∙ (drop_all (length steps) steps (omega arith) ∙ sym (drop_all run steps many)),
      )
]

pub ruleset run_writing = (none_sent, all_sent)
