-- A session that ran on a bench that was started with the file.
use Rattle.std.proofs.Common.{◌≡◌, ℕ, List, Option, Result, Err, refl, sym, subst, inl}
use Rattle.live_audit.specs.Bench.{Seen}
use Rattle.command_text.specs.declared.session_fault.SessionFault.{SessionFault}
use Rattle.session.specs.Session.{Runs}
use Rattle.program_options.specs.declared.fault.ProgramFault.{ProgramFault}
use Rattle.program_options.specs.declared.options.Options.{Options}
use Rattle.program_options.specs.Faults.{session_fault_of}
use Rattle.program.specs.Work.{RunsOn, Works}
use Rattle.answers.specs.Start.{IsStarted}

pub ran : (had have held holds : Option (List ℕ)) (file : List ℕ) (options : Options) (fresh last : Seen) (answered ended : Result (Unit {0}) SessionFault)
    → IsStarted file options fresh → answered ≡ ended → Runs had have held holds fresh last answered → RunsOn had have held holds file options ended
ran had have held holds file options fresh last answered ended started same runs = record {
  fresh = fresh;
  started = started;
  last = last;
  runs = subst (λ (r : Result (Unit {0}) SessionFault). Runs had have held holds fresh last r) same runs;
}

pub broke_off : (had have held holds : Option (List ℕ)) (file : List ℕ) (options : Options) (ended : SessionFault) (result : Result (Unit {0}) ProgramFault)
    → result ≡ Err (session_fault_of ended) → RunsOn had have held holds file options (Err ended) → Works had have held holds file options result
broke_off had have held holds file options ended result is runs =
    subst (λ (r : Result (Unit {0}) ProgramFault). Works had have held holds file options r) (sym is) (inl (ended, (refl, runs)))
