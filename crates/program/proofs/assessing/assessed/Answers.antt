use Rattle.std.proofs.Common.{Err}
use Rattle.program.proofs.AssessLemmas.{refused_told, same_texts}
use Rattle.program.proofs.assessing.assessed.Goals as goal

pub returns-in_ok-refusal-in-Err-clause-assessed : goal.returns-in_ok-refusal-in-Err-clause-assessed
returns-in_ok-refusal-in-Err-clause-assessed c =
    let told = c.in_ok-refusal-in-Err in
    refused_told c.args.file.now c.args.asked.now c.in-Err.fault told.field-0.items
    (same_texts c.args.file.now c.args.asked.now _ _ (Err c.in-Err.fault) c.text_in-givens.ensures c.text_in-cert.ensures c.in-Err.ensures) told.ensures.lasts told.ensures.line
