-- Words that name steps, read one by one.
use Rattle.std.proofs.Common.{◌≡◌, ℕ, ◌+◌, ◌<◌, ◌≤◌, eqb, Bool, true, false, cond, List, [], ◌∷◌, ◌++◌, Option, None, Some, length, append_assoc, length-append, nat_le, option_map, refl, sym, ap}
use Rattle.std.proofs.Common.{subst, ◌∙◌, arith, inl, inr}
use Rattle.std.specs.List.{AllByRecursion}
use Rattle.std.specs.Option.{option_and_then}
use Rattle.std.proofs.lemmas.Bool.{le-leb}
use Rattle.std.proofs.lemmas.Bool.Decides.{leb_tells}
use Rattle.std.proofs.lemmas.List.{append-nil}
use Rattle.std.proofs.lemmas.List.Splits.{length-slice_split}
use Rattle.picture.proofs.ColourLaws.{every_append}
use Rattle.cert_text.specs.declared.cert_line.CertLine.{CertLine}
use Rattle.cert_text.specs.declared.cert_line.CertLine.TheVariants.{Line, Use, Forget}
use Rattle.cert_text.specs.declared.cert_line.LineNumber.{LineNumber}
use Rattle.cert_text.specs.declared.form.Form.TheVariants.{LemmaRuns}
use Rattle.cert_text.specs.declared.runs.RunWord.{RunWord}
use Rattle.cert_text.specs.declared.runs.RunWord.TheVariants.{Lines, Uses, Forgets}
use Rattle.cert_text.specs.Cert.{IsOfLemmas, IsRun, ShareWord}
use Rattle.cert_text.specs.Steps.{IsPushed, by_words, each_named, lemma_line, one, run_by, run_line, run_named, run_or_step, run_word, step_named}
use Rattle.cert_text.specs.Text.{joined_named, lemma_named, words_of}

-- ---- how a line begins

some_word : (bytes : List ℕ) → 0 < length (words_of bytes)
some_word bytes = omega (arith, length-slice_split (λ b. eqb b 32) bytes)

-- a line with at least two words
two_or_more : (first : List ℕ) (words : List (List ℕ)) → 0 < length words → run_by (first ∷ words) ≡ run_or_step first words (run_word first)
two_or_more first [] some = absurd (omega (arith, some))
two_or_more first (word ∷ words) some = refl

module _ (line : List ℕ) where
  -- a single word
  pub run_single : words_of line ≡ line ∷ [] → run_line line ≡ option_map one (lemma_line line)
  unfolding run_line lemma_line
  run_single e = ap run_by e ∙ sym (ap (λ (ws : List (List ℕ)). option_map one (by_words ws)) e)

  module _ (first behind : List ℕ) (e : words_of line ≡ first ∷ words_of behind) where
    -- another word than those that several steps can follow
    pub run_other : None ≡ run_word first → run_line line ≡ option_map one (lemma_line line)
    unfolding run_line lemma_line
    run_other n =
        ap run_by e
        ∙ (two_or_more first (words_of behind) (some_word behind)
        ∙ (ap (run_or_step first (words_of behind)) (sym n) ∙ sym (ap (λ (ws : List (List ℕ)). option_map one (by_words ws)) e)))

    module _ (kind : RunWord) (s : Some kind ≡ run_word first) where
      pub run_begins : run_line line ≡ run_named kind (words_of behind)
      unfolding run_line
      run_begins = ap run_by e ∙ (two_or_more first (words_of behind) (some_word behind) ∙ ap (run_or_step first (words_of behind)) (sym s))

pub ruleset beginnings = (run_single, run_other, run_begins)

-- ---- the words one by one

abbrev behind : List CertLine → Option (List CertLine) → Option (List CertLine)
behind front read = option_map (λ steps. front ++ steps) read

behind_more : (front : List CertLine) (step : CertLine) (read : Option (List CertLine)) → behind (front ++ (step ∷ [])) read ≡ behind front (option_map (λ steps. step ∷ steps) read)
behind_more front step (Some steps) = ap Some (append_assoc front (step ∷ []) steps)
behind_more front step None = refl

-- the step is one that a word names behind `line`, `use` or `drop`
abbrev pub IsNamedBy : RunWord → CertLine → Type 0
IsNamedBy Lines step = (line : LineNumber) × (step ≡ Line line)
IsNamedBy Uses step = (lemma : ℕ) × (step ≡ Use lemma)
IsNamedBy Forgets step = (lemma : ℕ) × (step ≡ Forget lemma)

named_by : (kind : RunWord) (word : List ℕ) (step : CertLine) → Some step ≡ step_named kind word → IsNamedBy kind step
named_by Lines word step e = by (joined_named word) e
  where
    by : (o : Option LineNumber) → Some step ≡ option_map Line o → IsNamedBy Lines step
    by (Some line) f = (line, cc)
    by None f = absurd cc
named_by Uses word step e = by (lemma_named word) e
  where
    by : (o : Option ℕ) → Some step ≡ option_map Use o → IsNamedBy Uses step
    by (Some lemma) f = (lemma, cc)
    by None f = absurd cc
named_by Forgets word step e = by (lemma_named word) e
  where
    by : (o : Option ℕ) → Some step ≡ option_map Forget o → IsNamedBy Forgets step
    by (Some lemma) f = (lemma, cc)
    by None f = absurd cc

share : (kind : RunWord) (step other : CertLine) → IsNamedBy kind step → IsNamedBy kind other → ShareWord step other
share Lines step other p q = subst (λ (s : CertLine). ShareWord s other) (sym p.1) (subst (ShareWord (Line p.0)) (sym q.1) tt)
share Uses step other p q = subst (λ (s : CertLine). ShareWord s other) (sym p.1) (subst (ShareWord (Use p.0)) (sym q.1) tt)
share Forgets step other p q = subst (λ (s : CertLine). ShareWord s other) (sym p.1) (subst (ShareWord (Forget p.0)) (sym q.1) tt)

share_all : (kind : RunWord) (step : CertLine) (steps : List CertLine) → IsNamedBy kind step → AllByRecursion (IsNamedBy kind) steps → AllByRecursion (ShareWord step) steps
share_all kind step [] p all = tt
share_all kind step (other ∷ steps) p all = (share kind step other p all.0, share_all kind step steps p all.1)

is_run : (kind : RunWord) (steps : List CertLine) → AllByRecursion (IsNamedBy kind) steps → 0 < length steps → length steps ≤ 1000 → IsRun steps
is_run kind [] all some few = absurd (omega (arith, some))
is_run kind (step ∷ steps) all some few = (omega (arith, few), share_all kind step steps all.0 all.1)

-- The steps read so far, and what is left to read of words.
pub record EachLeft (kind : RunWord) (words rest : List (List ℕ)) (old steps : List CertLine) (count : ℕ) : Type 0 where
  pub pushed : List CertLine
  pub joins : steps ≡ old ++ pushed
  pub counted : length pushed ≡ count
  pub is : behind pushed (each_named kind rest) ≡ each_named kind words
  pub all : count + length rest ≡ length words
  pub of_lemmas : AllByRecursion IsOfLemmas pushed
  pub named : AllByRecursion (IsNamedBy kind) pushed

pub each_start : (kind : RunWord) (words : List (List ℕ)) (old : List CertLine) → EachLeft kind words words old old 0
each_start kind words old = record {
  pushed = [];
  joins = sym (append-nil old);
  counted = refl;
  is = none_before (each_named kind words);
  all = omega arith;
  of_lemmas = tt;
  named = tt;
}
  where
    none_before : (read : Option (List CertLine)) → behind [] read ≡ read
    none_before (Some steps) = refl
    none_before None = refl

module _ (kind : RunWord) (words rest more : List (List ℕ)) (old steps : List CertLine) (count : ℕ) (word : List ℕ) (e : rest ≡ word ∷ more) (left : EachLeft kind words rest old steps count) where
  by_word : (o : Option CertLine) → o ≡ step_named kind word
      → behind left.pushed (option_and_then (λ step. option_map (λ steps. step ∷ steps) (each_named kind more)) o) ≡ each_named kind words
  unfolding each_named
  by_word o n =
      ap (λ (p : Option CertLine). behind left.pushed (option_and_then (λ step. option_map (λ steps. step ∷ steps) (each_named kind more)) p)) n
      ∙ (ap (λ (ws : List (List ℕ)). behind left.pushed (each_named kind ws)) (sym e) ∙ left.is)

  pub each_more : (step : CertLine) (new : List CertLine) → Some step ≡ step_named kind word → IsOfLemmas step → new ≡ steps ++ (step ∷ []) → EachLeft kind words more old new (count + 1)
  each_more step new n w p = record {
    pushed = left.pushed ++ (step ∷ []);
    joins = p ∙ (ap (λ (ss : List CertLine). ss ++ (step ∷ [])) left.joins ∙ append_assoc old left.pushed (step ∷ []));
    counted = omega (arith, length-append left.pushed (step ∷ []), left.counted);
    is = behind_more left.pushed step (each_named kind more) ∙ by_word (Some step) n;
    all = omega (arith, left.all, ap length e);
    of_lemmas = every_append IsOfLemmas left.pushed (step ∷ []) left.of_lemmas (w, tt);
    named = every_append (IsNamedBy kind) left.pushed (step ∷ []) left.named (named_by kind word step n, tt);
  }

  pub each_stop : None ≡ step_named kind word → run_named kind words ≡ None
  each_stop n = none_named (nat_le (length words) 1000) (sym (by_word None n))
    where
      none_named : (few : Bool) {o : Option (List CertLine)} → o ≡ None → cond few o None ≡ None
      none_named true e = e
      none_named false e = refl

-- all words are read
module _ (kind : RunWord) (words : List (List ℕ)) (old steps : List CertLine) (count : ℕ) (left : EachLeft kind words [] old steps count) where
  pub each_end : (n : ℕ) → 0 < count → count ≤ 1000 → n ≡ count → IsPushed LemmaRuns (run_named kind words) old steps (Some n)
  unfolding each_named
  each_end n some few e =
      let fits : nat_le (length words) 1000 ≡ true = le-leb (length words) 1000 (omega (arith, left.all)) in (
        left.pushed,
        (
          ap (λ (t : Bool). cond t (each_named kind words) None) fits ∙ (sym left.is ∙ ap Some (append-nil left.pushed)),
          left.joins,
          e ∙ sym left.counted,
          left.of_lemmas,
          is_run kind left.pushed left.named (omega (arith, left.counted)) (omega (arith, left.counted)),
        ),
      )

  pub each_too_many : 1000 < count → run_named kind words ≡ None
  each_too_many many =
      let over : nat_le (length words) 1000 ≡ false = elim (leb_tells (length words) 1000) [ inl p ↦ absurd (let q = p.1 in omega (arith, left.all)) | inr p ↦ p.0 ] in
      ap (λ (t : Bool). cond t (each_named kind words) None) over

pub ruleset each_read = (each_start, each_more, each_stop, each_end, each_too_many)
