-- Which files a run opens, and what its status says.
use Rattle.std.proofs.Common.{◌≡◌, ◌⊎◌, ◌∙◌, ℕ, false, List, ◌++◌, Option, None, Some, Result, Ok, Err, inl, inr, sym, subst, ap, take, append-nil, arith}
use Rattle.std.specs.Io.KnownBytes.{Appends, Keeps}
use Rattle.picture.specs.Document.{Content}
use Rattle.picture.specs.Rows.{Rows}
use Rattle.ppm_text.specs.declared.fault.PpmFault.{PpmFault}
use Rattle.ppm_text.specs.Ppm.{ppm_of}
use Rattle.cert_text.specs.declared.cert_line.CellNumber.{CellNumber}
use Rattle.text_check.specs.declared.givens_fault.GivensFault.{GivensFault}
use Rattle.program_options.specs.declared.fault.ProgramFault.{ProgramFault}
use Rattle.program_options.specs.declared.fault.ProgramFault.TheVariants as fault
use Rattle.command_line.specs.declared.words.Task.{Task}
use Rattle.command_line.specs.declared.words.Task.TheVariants.{Assess, Check, Clues, Help, Prove, Work}
use Rattle.program_options.specs.declared.options.Options.{Options}
use Rattle.program_options.specs.declared.options.ProveOptions.{ProveOptions}
use Rattle.program_options.specs.Faults.{session_fault_of, status_of}
use Rattle.command_text.specs.declared.session_fault.SessionFault.{SessionFault}
use Rattle.command_text.specs.declared.session_fault.SessionFault.TheVariants as session
use Rattle.answers.specs.Check.{IsCheckOf, WritesBy}
use Rattle.answers.specs.Prove.{IsProve, IsProveIn, IsProveOf, Proves, WritesProof, ambiguous_text, given_cells, undecided_text}
use Rattle.answers.specs.Run.{Writes}
use Rattle.program.specs.Endings.{status_after}
use Rattle.program.specs.Files.{Held}
use Rattle.program.specs.Run.{AnswersAll, IsRefused, IsTask}
use Rattle.program.specs.Work.{CarriesOut, Works}
use Rattle.program.specs.World.{World}
use Rattle.live_audit.specs.Calls.{machine}
use Rattle.session.specs.Laws.{SessionsAreTrue}
use Rattle.claims.specs.Outcome.{Comes, IsDone, IsSilent, Opens, TellsNone, files_of}
use Rattle.claims.proofs.AssessLemmas.{assessed, blocks_written, files_opened}
use Rattle.command_text.specs.Words.{Texts}

pub fails : (f : ProgramFault) → status_of f ≡ 0 → ⊥
fails (fault.Words text) e = absurd cc
fails fault.NotText e = absurd cc
fails fault.HelpBeside e = absurd cc
fails fault.Background e = absurd cc
fails fault.BackgroundOfNon e = absurd cc
fails fault.Allowance e = absurd cc
fails fault.Read e = absurd cc
fails fault.Write e = absurd cc
fails (fault.Ppm f) e = absurd cc
fails (fault.Non f) e = absurd cc
fails (fault.Edit f) e = absurd cc
fails fault.NoPicture e = absurd cc
fails fault.NoGoal e = absurd cc
fails fault.OneFile e = absurd cc
fails fault.Unfit e = absurd cc
fails (fault.Cert f) e = absurd cc
fails fault.NoCertificate e = absurd cc
fails (fault.Givens f) e = absurd cc
fails fault.Memory e = absurd cc
fails fault.TooLong e = absurd cc

-- without an error the task is done
done_by : (held : List ℕ → Held) (before after : World) (task : Task) → SessionsAreTrue → CarriesOut held before after task (Ok tt) → IsDone held before after task
done_by held before after Clues law (inl listed) = record { input = listed.bytes; is_input = listed.is_input; text = listed.writes.0; shows = listed.writes.1; went_out = listed.writes.2 }
done_by held before after Clues law (inr left) = absurd (let is = left.is in cc)
done_by held before after (Work path options) law (inl stopped) = absurd (let is = stopped.is in cc)
done_by held before after (Work path options) law (inr worked) = record {
  file = worked.file;
  content = worked.content;
  fresh = worked.works.fresh;
  started = worked.works.started;
  last = machine worked.works.last.history worked.works.last.allowance;
  truth = law before.input after.input before.output after.output worked.works.fresh worked.works.last (Ok tt) worked.works.started.audited worked.works.runs;
}
done_by held before after (Assess files options givens cert) law c = assessed held files.items givens cert options before after c
done_by held before after (Help text) law shown = shown.sends
done_by held before after (Check path cert givens background) law (inl stopped) = absurd (let is = stopped.is in cc)
done_by held before after (Check path cert givens background) law (inr (inl half)) = absurd (let is = half.stopped.is in cc)
done_by held before after (Check path cert None background) law (inr (inr checked)) = record {
  file = checked.file;
  content = checked.content;
  cert = checked.cert;
  cert_content = checked.cert_content;
  only = checked.unique;
  line = checked.writes.0;
  shows = checked.writes.1.0;
  went_out = checked.writes.1.1;
}
done_by held before after (Check path cert (Some givens) background) law (inr (inr (inl without))) = absurd (let is = without.stopped.is in cc)
done_by held before after (Check path cert (Some givens) background) law (inr (inr (inr checked))) = record {
  file = checked.file;
  content = checked.content;
  cert = checked.cert;
  cert_content = checked.cert_content;
  givens = checked.givens;
  givens_content = checked.givens_content;
  only = checked.unique;
  line = checked.writes.0;
  shows = checked.writes.1.0;
  went_out = checked.writes.1.1;
}
done_by held before after (Prove path givens options) law (inl stopped) = absurd (let is = stopped.is in cc)
done_by held before after (Prove path None options) law (inr proving) = record {
  file = proving.file;
  content = proving.content;
  text = proving.writes.0;
  shows = proving.writes.1.0;
  went_out = proving.writes.1.1;
}
done_by held before after (Prove path (Some givens) options) law (inr (inl half)) = absurd (let is = half.stopped.is in cc)
done_by held before after (Prove path (Some givens) options) law (inr (inr proving)) = record {
  file = proving.file;
  content = proving.content;
  givens = proving.givens;
  givens_content = proving.givens_content;
  text = proving.writes.0;
  shows = proving.writes.1.0;
  went_out = proving.writes.1.1;
}

is_done : (held : List ℕ → Held) (before after : World) (task : Task) (r : Result (Unit {0}) ProgramFault) → SessionsAreTrue → CarriesOut held before after task r → status_after r ≡ 0
    → IsDone held before after task
is_done held before after task (Ok it) law c e = done_by held before after task law c
is_done held before after task (Err f) law c e = absurd (fails f e)

opened : (held : List ℕ → Held) (before after : World) (task : Task) (r : Result (Unit {0}) ProgramFault) → CarriesOut held before after task r
    → (count : ℕ) × (after.opened ≡ before.opened ++ take count (files_of task))
opened held before after Clues r (inl listed) = (0, listed.names ∙ sym (append-nil before.opened))
opened held before after Clues r (inr left) = (0, left.names ∙ sym (append-nil before.opened))
opened held before after (Work path options) r (inl stopped) = (1, stopped.only.names)
opened held before after (Work path options) r (inr worked) = (1, worked.names)
opened held before after (Check path cert None background) r (inl stopped) = (1, stopped.only.names)
opened held before after (Check path cert (Some givens) background) r (inl stopped) = (1, stopped.only.names)
opened held before after (Check path cert None background) r (inr (inl half)) = (2, half.stopped.only.names)
opened held before after (Check path cert (Some givens) background) r (inr (inl half)) = (2, half.stopped.only.names)
opened held before after (Check path cert None background) r (inr (inr checked)) = (2, checked.names)
opened held before after (Check path cert (Some givens) background) r (inr (inr (inl without))) = (3, without.stopped.only.names)
opened held before after (Check path cert (Some givens) background) r (inr (inr (inr checked))) = (3, checked.names)
opened held before after (Prove path None options) r (inl stopped) = (1, stopped.only.names)
opened held before after (Prove path (Some givens) options) r (inl stopped) = (1, stopped.only.names)
opened held before after (Prove path None options) r (inr proving) = (1, proving.names)
opened held before after (Prove path (Some givens) options) r (inr (inl half)) = (2, half.stopped.only.names)
opened held before after (Prove path (Some givens) options) r (inr (inr proving)) = (2, proving.names)
opened held before after (Assess files options givens cert) r c = files_opened held files.items givens cert options before after r c
opened held before after (Help text) r c = (0, c.names ∙ sym (append-nil before.opened))

refused : (f : ProgramFault) (before after : World) (r : Result (Unit {0}) ProgramFault) → IsRefused f before after r → status_after r ≡ 0 → ⊥
refused f before after r c e = fails f (ap status_after (sym c.is) ∙ e)

comes_to_after : (arguments : Texts) (held : List ℕ → Held) (before after : World) (r : Result (Unit {0}) ProgramFault) → SessionsAreTrue → AnswersAll arguments held before after r
    → Opens arguments held before after (status_after r)
comes_to_after arguments held before after r law (inl short) = inl (short.only.opened, refused fault.Memory before after r short)
comes_to_after arguments held before after r law (inr (inl (f, (asks, c)))) = inl (c.only.opened, refused f before after r c)
comes_to_after arguments held before after r law (inr (inr (task, (asks, c)))) =
    let files = opened held before after task r c in
    inr (task, (asks, (files.0, (files.1, is_done held before after task r law c))))

-- ---- status 1

not_write : (f : ProgramFault) → status_of f ≡ 1 → f ≡ fault.Write → ⊥
not_write f one is = let e : status_of f ≡ 3 = ap status_of is in absurd (omega (arith, one, e))

by_session : (ended : SessionFault) → status_of (session_fault_of ended) ≡ 1 → ⊥
by_session session.Read e = absurd cc
by_session session.Write e = absurd cc

-- what a call wrote for a text that was to be shown
kept_by : (old new : Option (List ℕ)) (f : ProgramFault) (Is : Result (List ℕ) ProgramFault → Type 0) → status_of f ≡ 1 → WritesBy old new {X = Unit {0}} (Err f) Is → Keeps old new
kept_by old new f Is one (inl (bytes, (is, out))) = absurd (not_write f one is)
kept_by old new f Is one (inr (why, kept)) = kept

kept_of : (old new : Option (List ℕ)) (f : ProgramFault) (text : Result (List ℕ) ProgramFault) → status_of f ≡ 1 → Writes old new {X = Unit {0}} (Err f) text → Keeps old new
kept_of old new f text one (inl (bytes, is, shown, out)) = absurd (not_write f one is)
kept_of old new f text one (inr (why, kept)) = kept

worked : (had have held holds : Option (List ℕ)) (file : List ℕ) (options : Options) (f : ProgramFault) → status_of f ≡ 1 → Works had have held holds file options (Err f) → Keeps held holds
worked had have held holds file options f one (inl (ended, (is, ran))) = absurd (by_session ended (ap status_of (sym is) ∙ one))
worked had have held holds file options f one (inr (why, kept)) = kept.1

-- nothing was written, or the word that stands in a certificate's place
abbrev AtMostWord : Task → World → World → Type 0
AtMostWord task before after = Keeps before.output after.output ⊎ TellsNone task before after

-- the words that are shown where there is no certificate
is_word : (picture : Rows) (cells : List CellNumber) (options : ProveOptions) (text : List ℕ) → Proves picture cells options text false → (text ≡ ambiguous_text) ⊎ (text ≡ undecided_text)
is_word picture cells options text (inl other) = inl other.0
is_word picture cells options text (inr neither) = inr neither.0

word_in : (picture : Rows) (cells : Result (List CellNumber) GivensFault) (options : ProveOptions) (text : List ℕ) → IsProveIn picture cells options (Ok (text, false))
    → (text ≡ ambiguous_text) ⊎ (text ≡ undecided_text)
word_in picture (Err f) options text p = absurd (let e = p in cc)
word_in picture (Ok cells) options text p = is_word picture cells options text p

word_of : (read : Result Content PpmFault) (givens : Option (List ℕ)) (options : ProveOptions) (text : List ℕ) → IsProve read givens options (Ok (text, false))
    → (text ≡ ambiguous_text) ⊎ (text ≡ undecided_text)
word_of (Err f) givens options text p = absurd (let e = p in cc)
word_of (Ok document) givens options text p = word_in document.rows (given_cells document.rows givens) options text p

word_kept : (old new : Option (List ℕ)) (f : ProgramFault) (file : List ℕ) (givens : Option (List ℕ)) (options : ProveOptions) → status_of f ≡ 1
    → WritesProof old new (Err f) (IsProveOf file givens options) → Keeps old new ⊎ (Appends old new ambiguous_text ⊎ Appends old new undecided_text)
word_kept old new f file givens options one (inl (text, (is, (shown, out)))) = elim (word_of (ppm_of file options.background) givens options text shown) [
  | inl e ↦ inr (inl (subst (Appends old new) e out))
  | inr e ↦ inr (inr (subst (Appends old new) e out))
]
word_kept old new f file givens options one (inr (inl (text, (is, out)))) = absurd (not_write f one is)
word_kept old new f file givens options one (inr (inr (why, kept))) = inl kept

kept : (held : List ℕ → Held) (before after : World) (task : Task) (f : ProgramFault) → status_of f ≡ 1 → CarriesOut held before after task (Err f) → AtMostWord task before after
kept held before after Clues f one (inl listed) = inl (kept_of _ _ f _ one listed.writes)
kept held before after Clues f one (inr left) = inl left.output
kept held before after (Work path options) f one (inl stopped) = inl stopped.only.output
kept held before after (Work path options) f one (inr on) = inl (worked _ _ _ _ on.file options f one on.works)
kept held before after (Check path cert givens background) f one (inl stopped) = inl stopped.only.output
kept held before after (Check path cert givens background) f one (inr (inl half)) = inl half.stopped.only.output
kept held before after (Check path cert None background) f one (inr (inr checked)) = inl (kept_by _ _ f (IsCheckOf checked.file background None checked.cert) one checked.writes)
kept held before after (Check path cert (Some givens) background) f one (inr (inr (inl without))) = inl without.stopped.only.output
kept held before after (Check path cert (Some givens) background) f one (inr (inr (inr checked))) =
    inl (kept_by _ _ f (IsCheckOf checked.file background (Some checked.givens) checked.cert) one checked.writes)
kept held before after (Prove path givens options) f one (inl stopped) = inl stopped.only.output
kept held before after (Prove path None options) f one (inr proving) = word_kept _ _ f proving.file None options one proving.writes
kept held before after (Prove path (Some givens) options) f one (inr (inl half)) = inl half.stopped.only.output
kept held before after (Prove path (Some givens) options) f one (inr (inr proving)) = word_kept _ _ f proving.file (Some proving.givens) options one proving.writes
kept held before after (Assess files options givens cert) f one c = inr (blocks_written held files.items givens cert options before after f (not_write f one) c)
kept held before after (Help text) f one shown = absurd (not_write f one shown.sends.0)

at_most : (arguments : Texts) (before after : World) (task : Task) → IsTask arguments (Ok task) → AtMostWord task before after → IsSilent arguments before after
at_most arguments before after task asks (inl kept) = inl kept
at_most arguments before after task asks (inr word) = inr (task, (asks, word))

silent_after : (arguments : Texts) (held : List ℕ → Held) (before after : World) (r : Result (Unit {0}) ProgramFault) → AnswersAll arguments held before after r → status_after r ≡ 1
    → IsSilent arguments before after
silent_after arguments held before after r (inl short) one = inl short.only.output
silent_after arguments held before after r (inr (inl (f, (asks, c)))) one = inl c.only.output
silent_after arguments held before after (Ok done) (inr (inr (task, (asks, c)))) one = absurd (omega (arith, one))
silent_after arguments held before after (Err f) (inr (inr (task, (asks, c)))) one = at_most arguments before after task asks (kept held before after task f one c)

pub comes_to : (arguments : Texts) (held : List ℕ → Held) (before after : World) (r : Result (Unit {0}) ProgramFault) (status : ℕ) → status ≡ status_after r
    → SessionsAreTrue → AnswersAll arguments held before after r → Comes arguments held before after status
comes_to arguments held before after r status is law c =
    record {
      outcome = r;
      right_status = is;
      answers = c;
      silent = λ one. silent_after arguments held before after r c (sym is ∙ one);
      opens = subst (λ (n : ℕ). Opens arguments held before after n) (sym is) (comes_to_after arguments held before after r law c);
    }
