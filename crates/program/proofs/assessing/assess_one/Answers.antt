use Rattle.std.proofs.Common.{◌≡◌, ◌∙◌, ◌++◌, ℕ, List, Err, ap}
use Rattle.std.proofs.lemmas.Result.{err_from_is_err_and}
use Rattle.program.specs.Assess.{heading_text}
use Rattle.program.proofs.AssessLemmas.{cut, done, short}
use Rattle.program.proofs.assessing.assess_one.Goals as goal

pub returns-in_err-told-clause-one : goal.returns-in_err-told-clause-one
returns-in_err-told-clause-one g c = λ had.
    let p = err_from_is_err_and c.from_residual.result c.from_residual.ensures.1 in
    let told = c.in_err-told in
    short _ c.args.asked.now c.args.path.now c.args.number _ _ told.ensures.opens _ _ had _ told.field-0.0 c.from_residual.result (p.1 ∙ ap Err p.2) told.ensures.memory

pub returns-in_err-text-clause-one : goal.returns-in_err-text-clause-one
returns-in_err-text-clause-one g c = λ had.
    let p = err_from_is_err_and c.from_residual-in_err-text.result c.from_residual-in_err-text.ensures.1 in
    short _ c.args.asked.now c.args.path.now c.args.number _ _ c.in_ok-told.ensures.opens _ _ had _ p.0 c.from_residual-in_err-text.result p.1 p.2

pub returns-in_err-send-clause-one : goal.returns-in_err-send-clause-one
returns-in_err-send-clause-one g c = λ had.
    let p = err_from_is_err_and c.from_residual-in_err-send.result c.from_residual-in_err-send.ensures.1 in
    let told = c.in_ok-told in
    let is : c.deref-2.result.now ≡ heading_text c.args.number ++ told.told.text.items =
    c.deref-2.ensures.value ∙ (c.in_ok-text.ensures ∙ ap (λ (x : List ℕ). heading_text c.args.number ++ x) c.deref.ensures.value) in
    cut _ c.args.asked.now c.args.path.now c.args.number _ _ told.ensures.opens _ _ had _ told.told.text.items c.deref-2.result.now told.told.standing told.ensures.comes is _ p.0
    c.from_residual-in_err-send.result p.1 p.2 c.in_err-send.ensures.err

pub returns-clause-one : goal.returns-clause-one
returns-clause-one g c = λ had.
    let told = c.in_ok-told in
    let is : c.deref-2.result.now ≡ heading_text c.args.number ++ told.told.text.items =
    c.deref-2.ensures.value ∙ (c.in_ok-text.ensures ∙ ap (λ (x : List ℕ). heading_text c.args.number ++ x) c.deref.ensures.value) in
    done _ c.args.asked.now c.args.path.now c.args.number _ _ told.ensures.opens _ _ had _ told.told.text.items c.deref-2.result.now told.told.standing told.ensures.comes is _ c.in_ok-send.ensures.ok
