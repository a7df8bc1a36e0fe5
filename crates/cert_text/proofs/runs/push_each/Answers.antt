use Rattle.std.proofs.Common.{◌+◌, [], refl, arith}
use Rattle.cert_text.specs.Text.{words_of}
use Rattle.cert_text.proofs.RunLemmas.{each_end, each_more, each_stop}
use Rattle.cert_text.proofs.runs.push_each.Goals as goal

pub returns-in_default-step_named : goal.returns-in_default-step_named
returns-in_default-step_named c =
    each_stop c.args.kind (words_of c.args.words.now) (words_of c.loop-word.rest.now)
    (words_of c.in-Some.behind.now) c.args.steps.now.items c.loop-word.steps.items c.loop-word.count c.in-Some.word.now c.in-Some.ensures.cut
    c.loop-word.invariant.left c.in_default-step_named.ensures.value

pub returns-in_default-step_named-2 : goal.returns-in_default-step_named-2
returns-in_default-step_named-2 c =
    each_stop c.args.kind (words_of c.args.words.now) (words_of c.loop-word.rest.now) [] c.args.steps.now.items c.loop-word.steps.items c.loop-word.count c.loop-word.rest.now c.in_default.ensures.cut
    c.loop-word.invariant.left c.in_default-step_named-2.ensures.value

pub returns-then-count-lt-MAX_RUN : goal.returns-then-count-lt-MAX_RUN
returns-then-count-lt-MAX_RUN c =
    let left = each_more c.args.kind (words_of c.args.words.now)
    (words_of c.loop-word.rest.now) [] c.args.steps.now.items c.loop-word.steps.items c.loop-word.count c.loop-word.rest.now c.in_default.ensures.cut
    c.loop-word.invariant.left c.in-Some-step_named-2.step c.push-2.new.self.items c.in-Some-step_named-2.ensures.value c.in-Some-step_named-2.ensures.of_lemmas c.in_ok-push-2.ensures.items in
    each_end c.args.kind (words_of c.args.words.now) c.args.steps.now.items c.push-2.new.self.items (c.loop-word.count + 1) left (c.loop-word.count + 1) (omega arith) (omega
    (arith, c.if-count-lt-MAX_RUN.true)) refl
