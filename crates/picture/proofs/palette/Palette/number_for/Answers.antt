use Rattle.std.proofs.Common.{sym, ap, ◌∙◌}
use Rattle.std.proofs.lemmas.Bool.{false≢true}
use Rattle.picture.specs.Document.{number_among}
use Rattle.picture.proofs.RoomLemmas.{no_fault, only_memory}
use Rattle.picture.proofs.OrderLemmas.{known_stays, number_added}
use Rattle.picture.proofs.palette.Palette.number_for.Goals as goal

pub returns-in-Some-clause-palette : goal.returns-in-Some-clause-palette
returns-in-Some-clause-palette c = let h = c.in-Some.ensures in known_stays c.args.self.now c.args.rgb _ c.in-Some.ensures.value

pub returns-in-Ok-clause-number : goal.returns-in-Ok-clause-number
returns-in-Ok-clause-number c =
    c.in-Ok.ensures.number ∙ sym (ap (λ colours. number_among colours.triples c.args.rgb) c.in-Ok.ensures.ok ∙ number_added c.args.rgb c.args.self.now.triples c.in-None.ensures.value)

pub prove-unreachable-requires : goal.prove-unreachable-requires
prove-unreachable-requires c =
    let none = no_fault c.args.self.now c.args.rgb c.number_of.ensures.palette c.requires c.in-None.ensures.value in
    let memory = only_memory _ c.in-Err.fault none c.in-Err.ensures.fault in
    let isnt = c.if-prove.ensures in
    absurd (false≢true (rw memory at isnt))
