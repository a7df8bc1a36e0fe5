use Rattle.std.proofs.Common.{◌≡◌, [], ◌∷◌, ◌++◌, ◌∙◌, rules}
use Rattle.std.proofs.lemmas.Result.{err_from_is_err_and}
use Rattle.ppm_text.specs.Ppm.{numbers_at}
use Rattle.ppm_text.proofs.Cells.{cells_go_on, cells_stop, cells_end}
use Rattle.ppm_text.proofs.reader.read_cells.Goals as goal

pub returns-in_err-cell-clause-read : goal.returns-in_err-cell-clause-read
returns-in_err-cell-clause-read c =
    let p = err_from_is_err_and c.from_residual-in_err-cell.result c.from_residual-in_err-cell.ensures.1 in
    rw (p.1, p.2) (cells_stop c.in_err-cell.field-0.0 c.loop.cells.items c.loop.scanner.end c.args.count c.loop.counter c.loop.palette c.loop.scanner.tokens
    (numbers_at c.args.scanner.now.end c.args.count c.args.palette.now c.args.scanner.now.tokens) c.loop-test.true c.in_err-cell.ensures.read c.loop.invariant.read)

pub returns-clause-read : goal.returns-clause-read
returns-clause-read c = cells_end c.loop.cells.items c.loop.scanner.end c.args.count c.loop.counter c.loop.palette c.loop.scanner.tokens
    (numbers_at c.args.scanner.now.end c.args.count c.args.palette.now c.args.scanner.now.tokens) c.loop-test.false c.loop.invariant.read

pub loop-preserved : goal.loop-preserved
loop-preserved c =
    let pushed : c.push.new.self.items ≡ c.loop.cells.items ++ c.in_ok-cell.cell ∷ [] = search rules in
    record {
      read = rw (pushed, c.in_ok-cell.ensures.end)
          (cells_go_on c.loop.cells.items c.loop.scanner.end c.args.count c.loop.counter c.loop.palette c.loop.scanner.tokens c.in_ok-cell.cell c.read_cell.new.palette c.read_cell.new.scanner.tokens
          (numbers_at c.args.scanner.now.end c.args.count c.args.palette.now c.args.scanner.now.tokens) c.loop-test.true c.in_ok-cell.ensures.read c.loop.invariant.read);
      known = c.in_ok-cell.ensures.known;
      end = c.in_ok-cell.ensures.end ∙ c.loop.invariant.end;
    }
