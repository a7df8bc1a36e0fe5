-- The texts of answers, by what they say.
use Rattle.std.specs.Prelude.{ℕ, List, [], ◌++◌, codes, Option, Some, None}
use Rattle.picture.specs.Writers.{number_text}
use Rattle.picture.specs.Document.{Content}
use Rattle.cert_text.specs.Cert.{Certificate}
use Rattle.cert_text.specs.WrittenCert.{cert_text}
use Rattle.edits.specs.Design.{Design}
use Rattle.live_audit.specs.declared.verdict.Verdict.{Verdict}
use Rattle.live_audit.specs.declared.verdict.Verdict.TheVariants.{Unique, Ambiguous, Undecided}
use Rattle.live_audit.specs.declared.why.Why.{Why}
use Rattle.live_audit.specs.declared.why.Why.TheVariants.{Possible, Given, By}
use Rattle.grade.specs.declared.pathing.Path.{Path}
use Rattle.report_text.specs.PathText.{path_text}
use Rattle.report_text.specs.ReasonText.{reason_text}
use Rattle.report_text.specs.Shown.{picture_text}

abbrev pub done_text : List ℕ
done_text = codes "ok\n"

abbrev pub verdict_text : Verdict → List ℕ
verdict_text Unique = codes "unique\n"
verdict_text (Ambiguous other) = codes "ambiguous\n" ++ picture_text other.now
verdict_text (Undecided splits) = codes "undecided " ++ number_text splits 10

-- the verdict's word in a report
abbrev pub verdict_word : Verdict → List ℕ
verdict_word Unique = codes "unique"
verdict_word (Ambiguous other) = codes "ambiguous"
verdict_word (Undecided splits) = codes "undecided"

abbrev pub why_text : Why → List ℕ
why_text Possible = codes "possible\n"
why_text Given = codes "given\n"
why_text (By reason) = reason_text reason.line reason.premises

-- a certificate's text, or that there is another picture
abbrev pub certified_text : Option Certificate → List ℕ
certified_text None = codes "ambiguous\n"
certified_text (Some cert) = cert_text cert

-- the P3 text shows no givens
abbrev pub content : Design → Content
content d = record { colours = d.colours; rows = d.rows; givens = [] }

-- a path's text
abbrev pub path_shown : Path → List ℕ
path_shown path = path_text path.looks.items path.«open»
