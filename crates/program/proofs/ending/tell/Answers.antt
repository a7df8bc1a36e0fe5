use Rattle.std.proofs.Common.{List, ℕ, OnOk, sym, subst}
use Rattle.std.specs.Io.KnownBytes.{Appends}
use Rattle.program.proofs.EndLemmas.{named}
use Rattle.program.proofs.ending.tell.Goals as goal

pub returns-in_default : goal.returns-in_default
returns-in_default g c =
    let P : List ℕ → Type 0 = λ line. OnOk c.writeln.result (Appends (g.W.Write.contents c.args.errors.now) (g.W.Write.contents c.writeln.new.self) line) in
    subst P (sym (named c.args.fault.now c.in_default.not-Words c.in_default.not-NoCertificate c.in_default.not-Unfit)) c.writeln.ensures.bytes
