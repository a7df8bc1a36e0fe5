use Rattle.std.proofs.Common.{◌*◌, ◌<◌, List, length, ap, arith}
use Rattle.cert_text.specs.Cert.{Certificate}
use Rattle.cert_text.specs.declared.cert_line.CellNumber.{CellNumber}
use Rattle.cert_text.proofs.cert.Cert.place_of.Goals as goal

-- a slice has fewer than 2 ^ 63 bytes
pub overflow_add-result : goal.overflow_add-result
overflow_add-result c =
    let givens : length c.givens.result.now * 4 < 9223372036854775808 = c.givens.type_inv.1 in
    let runs : length c.deref-run-items.result.now * 2 < 9223372036854775808 = c.deref-run-items.type_inv.1 in
    omega (arith, c.self.inside.lines.small, c.self.inside.lines.ok, ap (λ (cert : Certificate). length cert.lines) c.self.view_is, ap (λ (xs : List CellNumber). length xs) c.givens.ensures)
