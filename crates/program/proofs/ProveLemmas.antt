-- The making of a certificate for the picture of a file, or of two: the second names the givens that are published.
use Rattle.std.proofs.Common.{◌≡◌, ◌∙◌, ℕ, List, [], ◌∷◌, ◌++◌, Option, None, Some, Result, Err, inl, inr, sym, subst}
use Rattle.std.specs.Borrow.{Bor}
use Rattle.program_options.specs.declared.fault.ProgramFault.{ProgramFault}
use Rattle.program_options.specs.declared.options.ProveOptions.{ProveOptions}
use Rattle.answers.specs.Prove.{IsProveOf, WritesProof}
use Rattle.program.specs.Files.{HasFailed, Held, IsContent, IsUnreadFile}
use Rattle.program.specs.Work.{ProvesFile}
use Rattle.program.specs.World.{World, world}
use Rattle.program.proofs.CheckLemmas.{AreBoth, half}
use Rattle.program.proofs.FileLemmas.{keeps_same, names_both}
use Rattle.command_text.specs.Words.{Texts}

-- no file of givens is named
pub proved : (held : List ℕ → Held) (opened after : Texts) (faults last : ℕ) (input output written : Option (List ℕ)) (path : Bor (List ℕ)) (givens : Option (Bor (List ℕ))) (options : ProveOptions)
    (file seen : List ℕ) (r : Result (Unit {0}) ProgramFault)
    → givens ≡ None → IsContent (held path.now) file → after ≡ opened ++ path.now ∷ [] → last ≡ faults → seen ≡ file → WritesProof output written r (IsProveOf seen None options)
    → ProvesFile held path.now givens options (world opened faults input output) (world after last input written) r
proved held opened after faults last input output written path givens options file seen r none content names faultless same writes =
    let here : ProvesFile held path.now None options (world opened faults input output) (world after last input written) r = inr (record {
      file = seen;
      content = subst (IsContent (held path.now)) (sym same) content;
      names = names;
      faultless = faultless;
      input = keeps_same input;
      writes = writes;
    }) in
    subst (λ (g : Option (Bor (List ℕ))). ProvesFile held path.now g options (world opened faults input output) (world after last input written) r) (sym none) here

module _ (held later : List ℕ → Held) (opened between after : Texts) (faults mid last : ℕ) (input output : Option (List ℕ)) (path : Bor (List ℕ))
    (found : Option (Bor (List ℕ))) (givens : Bor (List ℕ)) (options : ProveOptions) (file : List ℕ) (some : found ≡ Some givens)
    (both : AreBoth held later opened between after faults mid path.now givens.now file) where
  -- the file of the givens was not read
  pub without : (fault : ProgramFault) (r : Result (Unit {0}) ProgramFault) → IsUnreadFile (later givens.now) fault → HasFailed mid last fault → r ≡ Err fault
      → ProvesFile held path.now found options (world opened faults input output) (world after last input output) r
  without fault r unread cause failed =
      let P : Option (Bor (List ℕ)) → Type 0 = λ g. ProvesFile held path.now g options (world opened faults input output) (world after last input output) r in
      subst P (sym some) (inr (inl (half held later opened between after faults mid last input output path givens file fault r both unread cause failed)))

  pub proved_with : (written : Option (List ℕ)) (given_bytes seen given_seen : List ℕ) (r : Result (Unit {0}) ProgramFault) → IsContent (later givens.now) given_bytes → last ≡ mid → seen ≡ file
      → given_seen ≡ given_bytes → WritesProof output written r (IsProveOf seen (Some given_seen) options)
      → ProvesFile held path.now found options (world opened faults input output) (world after last input written) r
  proved_with written given_bytes seen given_seen r content faultless same given_same writes =
      let P : Option (Bor (List ℕ)) → Type 0 = λ g. ProvesFile held path.now g options (world opened faults input output) (world after last input written) r in
      subst P (sym some) (inr (inr (record {
        file = seen;
        givens = given_seen;
        content = subst (IsContent (held path.now)) (sym same) both.content;
        givens_content = subst (IsContent (held givens.now)) (sym given_same) (subst (λ (h : Held). IsContent h given_bytes) (both.keeps givens.now) content);
        names = names_both opened between after path.now givens.now both.first both.next;
        faultless = faultless ∙ both.faultless;
        input = keeps_same input;
        writes = writes;
      })))
