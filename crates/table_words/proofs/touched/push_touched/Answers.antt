use Rattle.std.proofs.Common.{◌∙◌}
use Rattle.picture.specs.declared.line_id.Axis.TheVariants.{Across, Down}
use Rattle.table_words.proofs.touched.push_touched.Goals as goal

pub push_along-requires : goal.push_along-requires
push_along-requires c = c.height-height.ensures.value ∙ c.requires.sizes.after Across

pub push_along-requires-2 : goal.push_along-requires-2
push_along-requires-2 c = c.width-width.ensures.value ∙ c.requires.sizes.after Down
