-- The lemmas on the cells along a line that tactics apply.
pub use Rattle.line_facts.proofs.AlongLaws.{places}
pub use Rattle.line_facts.proofs.GridLaws.{same_list}
