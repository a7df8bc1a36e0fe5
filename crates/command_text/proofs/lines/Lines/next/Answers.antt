use Rattle.std.proofs.Common.{length, sym, ◌∙◌, arith}
use Rattle.std.proofs.lemmas.Bool.{eqb-false}
use Rattle.std.proofs.lemmas.Result.{err_from_is_err_and}
use Rattle.command_text.proofs.LineLemmas.{breaks_off, cuts_last, cuts_line, drafts_piece, drafts_wait}
use Rattle.command_text.proofs.lines.Lines.next.Goals as goal

pub returns-in_err-has_more-clause-value : goal.returns-in_err-has_more-clause-value
returns-in_err-has_more-clause-value g c =
    let p = err_from_is_err_and c.from_residual.result c.from_residual.ensures.1 in
    let e = c.in_err-has_more.ensures.err in
    rw p.1 (breaks_off _ (g.R.Read.remaining c.loop-self.reader) _ _ c.loop-self.self c.loop-self.draft c.loop-self.invariant e.0 e.1.0 e.1.1)

pub returns-then-take_piece-clause-value : goal.returns-then-take_piece-clause-value
returns-then-take_piece-clause-value g c =
    let waits = drafts_wait _ (g.R.Read.remaining c.loop-self.reader) _ _ c.loop-self.self _ _ _ c.loop-self.invariant c.in_ok-has_more.ensures.waits in
    rw c.request.ensures.value (cuts_line _ _ _ c.has_more.new.self c.take_piece.new.self c.loop-self.draft _ waits c.if-take_piece.ensures.piece c.if-take_piece.ensures.ended)

pub loop-self-preserved : goal.loop-self-preserved
loop-self-preserved g c =
    let waits = drafts_wait _ (g.R.Read.remaining c.loop-self.reader) _ _ c.loop-self.self _ _ _ c.loop-self.invariant c.in_ok-has_more.ensures.waits in
    drafts_piece _ _ _ c.has_more.new.self c.take_piece.new.self c.loop-self.draft _ waits c.if-take_piece.ensures.piece c.if-take_piece.ensures.ended c.if-take_piece.ensures.reads

pub returns-clause-value : goal.returns-clause-value
returns-clause-value g c =
    let w = c.in_ok-has_more.ensures.waits in
    let waits = drafts_wait _ (g.R.Read.remaining c.loop-self.reader) _ _ c.loop-self.self _ _ _ c.loop-self.invariant w in
    let none = w.none c.if-branch.false in
    let some = eqb-false (length c.loop-self.draft) 0 (sym c.is_empty.ensures ∙ c.if-is_empty.false) in
    rw c.request-2.ensures.value (cuts_last _ _ _ c.has_more.new.self c.loop-self.draft waits none.0 none.1 (omega (arith, some)))
