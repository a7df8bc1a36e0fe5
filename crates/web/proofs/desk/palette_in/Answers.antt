use Rattle.std.proofs.Common.{◌≡◌, IfOk, subst}
use Rattle.edits.specs.Design.{Design}
use Rattle.report_text.specs.Report.{palette_text}
use Rattle.web.proofs.desk.palette_in.Goals as goal

pub returns : goal.returns
returns c =
    subst (λ (d : Design). IfOk c.palette_text.result (λ text. text.items ≡ palette_text d.colours)) c.document-document.ensures.value c.palette_text.ensures
