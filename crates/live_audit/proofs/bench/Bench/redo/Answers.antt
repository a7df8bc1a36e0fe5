use Rattle.std.proofs.Common.{ap, refl}
use Rattle.live_audit.specs.Bench.{Seen}
use Rattle.live_audit.specs.Stroke.{Redoes}
use Rattle.live_audit.proofs.BenchLemmas.{accepted, forth_by}
use Rattle.live_audit.proofs.bench.Bench.redo.Goals as goal

pub advance-requires-clause-change : goal.advance-requires-clause-change
advance-requires-clause-change g c =
    let p = c.in_ok-prepared.prepared in
    let e = c.in_ok-prepared.ensures in
    let by = forth_by c.self.inside.studio p.document.rows p.change _ refl e.lawful e.change in
    rw (← c.self.view_is) by.exact

pub returns-clause-accepted : goal.returns-clause-accepted
returns-clause-accepted g c =
    let p = c.in_ok-prepared.prepared in
    let e = c.in_ok-prepared.ensures in
    let by = forth_by c.self.inside.studio p.document.rows p.change _ refl e.lawful e.change in
    let was = ap (λ (s : Seen). s.history) c.self.view_is in
    accepted _ Redoes c.self.inside.studio c.args.self.now c.advance.new.self p.advance p.change.moves was e.lawful e.next by.moved c.advance.ensures.history c.advance.ensures.book
