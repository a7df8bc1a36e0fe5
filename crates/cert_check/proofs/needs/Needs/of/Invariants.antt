use Rattle.std.proofs.Common.{◌≡◌, ◌≤◌, sum_by, take}
use Rattle.cert_check.specs.Machined.{denials_of, lemmas_of, parts_of}
use Rattle.cert_check.proofs.needs.Needs.of.Given as goal

abbrev pub invariant-loop-i : goal.invariant-loop-i
invariant-loop-i l = record {
  parts_are : l.parts ≡ sum_by parts_of (take l.i l.lines);
  literals_are : l.literals ≡ sum_by denials_of (take l.i l.lines);
  lemmas_are : l.lemmas ≡ sum_by lemmas_of (take l.i l.lines);
  few_parts : l.parts ≤ l.i;
  few_literals : l.literals ≤ l.i;
  few_lemmas : l.lemmas ≤ l.i;
}
