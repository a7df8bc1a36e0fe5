use Rattle.search_tables.proofs.search.is_scene.Goals as goal

pub returns : goal.returns
returns c =
    let d = c.args.document.now in
    let laws = c.sound_facts.ensures in
    let is = c.height.ensures.picture in
    record {
      is_picture = is;
      has_clues = c.requires.clues;
      sound = laws.settled c.args.book.now d.givens d.picture c.args.base.now c.args.facts.now c.requires.least (laws.base c.args.book.now d.givens d.picture c.args.base.now is c.requires.base);
    }
