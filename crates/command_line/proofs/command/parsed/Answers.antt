use Rattle.std.proofs.Common.{codes, refl}
use Rattle.clap.specs.Walk.{texts}
use Rattle.command_line.specs.Program.{check_shape, program_app}
use Rattle.command_line.proofs.AloneLemmas.{checking_app, parsed_alone}
use Rattle.command_line.proofs.CommandLemmas.{added, bare, parse_made}
use Rattle.command_line.proofs.command.parsed.Goals as goal

pub returns-in-check : goal.returns-in-check
returns-in-check c =
    let words = c.args.words.now in
    let check = c.in_ok-check_command in
    let made = c.in_ok-command in
    let parse = c.try_get_matches_from in
    let shape = added c.in_ok-named.field-0 check.field-0 made.command bare (check_shape (codes "check")) made.ensures check.ensures.local c.in_ok-named.ensures.app check.ensures.shape in
    parsed_alone words _ parse.result c.in-check.len_at_least c.in-check.is-check
    (parse_made checking_app made.command (texts words) parse.result refl refl shape parse.ensures.matches parse.ensures.passes parse.ensures.kinds)

pub returns : goal.returns
returns c =
    let made = c.in_ok-command-2 in
    let parse = c.try_get_matches_from-2 in
    let formats = made.ensures.0 in
    let told = parse_made (program_app formats) made.field-0 (texts c.args.words.now) parse.result refl refl made.ensures.1.1 parse.ensures.matches parse.ensures.passes parse.ensures.kinds in
    (formats, (made.ensures.1.0, told))
