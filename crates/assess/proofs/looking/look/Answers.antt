use Rattle.assess.proofs.MapLemmas.{closable_by, has_figures, map_of}
use Rattle.assess.proofs.looking.look.Goals as goal

pub grade_lines-figures-requires : goal.grade_lines-figures-requires
grade_lines-figures-requires g c = closable_by c.in_ok-book.book c.in_ok-map.map _ (c.in_ok-map.ensures.sizes c.in_ok-book.ensures) c.requires

pub returns-clause-looked : goal.returns-clause-looked
returns-clause-looked g c =
    let d = c.args.document.now in
    let line = c.grade_lines-figures in
    let run = line.ensures.figures in
    record {
      book = c.in_ok-book.ensures;
      map = map_of c.in_ok-book.book d.picture d.givens c.in_ok-map.map line.new.facts c.height.ensures.picture c.in_ok-book.ensures c.in_ok-map.ensures.start line.ensures.least;
      figures =
          has_figures c.in_ok-book.book d.picture d.givens c.in_ok-map.map line.new.facts run.0 line.result c.height.ensures.picture c.in_ok-book.ensures c.in_ok-map.ensures.start
          line.ensures.least run.1 run.2;
      alike = c.in_ok-alike.ensures;
    }
