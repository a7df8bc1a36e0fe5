use Rattle.std.proofs.Common.{refl, subst, sym, ◌∙◌}
use Rattle.clap.specs.Words.{found_of, rows_of, subcommand_rows_of}
use Rattle.command_line.specs.Words.{Given, IsAssess, IsCheck, IsProve, IsWork}
use Rattle.command_line.proofs.WordLemmas.{asked_assess, asked_check, asked_prove, asked_work, given_same, name_is}
use Rattle.command_line.proofs.words.task_of.Goals as goal

pub returns-in-Some-clause-asked : goal.returns-in-Some-clause-asked
returns-in-Some-clause-asked c =
    let m = c.args.matches.now in
    let f = found_of c.in-Some.matches.now in
    let r = c.work_of.result in
    asked_work (subcommand_rows_of m) (rows_of f) r (sym (name_is m) ∙ c.in-Some.ensures.found.0 refl) c.in-Some.ensures.rows (subst (λ (g : Given). IsWork g r) (given_same f) c.work_of.ensures.work)

pub returns-in-Some-subcommand_matches-clause-asked : goal.returns-in-Some-subcommand_matches-clause-asked
returns-in-Some-subcommand_matches-clause-asked c =
    let m = c.args.matches.now in
    let s = c.in-Some-subcommand_matches in
    let f = found_of s.matches.now in
    let r = c.check_of.result in
    asked_check (subcommand_rows_of m) (rows_of f) r (sym (name_is m) ∙ s.ensures.found.0 refl) s.ensures.rows (subst (λ (g : Given). IsCheck g r) (given_same f) c.check_of.ensures.check)

pub returns-in-Some-subcommand_matches-2-clause-asked : goal.returns-in-Some-subcommand_matches-2-clause-asked
returns-in-Some-subcommand_matches-2-clause-asked c =
    let m = c.args.matches.now in
    let s = c.in-Some-subcommand_matches-2 in
    let f = found_of s.matches.now in
    let r = c.prove_of.result in
    asked_prove (subcommand_rows_of m) (rows_of f) r (sym (name_is m) ∙ s.ensures.found.0 refl) s.ensures.rows (subst (λ (g : Given). IsProve g r) (given_same f) c.prove_of.ensures.prove)

pub returns-in-Some-subcommand_matches-3-clause-asked : goal.returns-in-Some-subcommand_matches-3-clause-asked
returns-in-Some-subcommand_matches-3-clause-asked c =
    let m = c.args.matches.now in
    let s = c.in-Some-subcommand_matches-3 in
    let f = found_of s.matches.now in
    let r = c.assess_of.result in
    asked_assess (subcommand_rows_of m) (rows_of f) r (sym (name_is m) ∙ s.ensures.found.0 refl) s.ensures.rows (subst (λ (g : Given). IsAssess g r) (given_same f) c.assess_of.ensures.assess)
