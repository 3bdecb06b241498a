use Rattle.std.proofs.Common.{◌≡◌, ◌+◌, ◌<◌, ◌≤◌, ◌^◌, length, Ok, Err, sym, ap, subst, ◌∙◌, arith}
use Rattle.pd_sections.specs.declared.Rule.TheVariants as rules
use Rattle.pd_pl0_read.specs.Tokens.{words_of, word_at}
use Rattle.pd_pl0_read.specs.Behind.{name_in}
use Rattle.pd_pl0_read.specs.Answers.{IsRefused}
use Rattle.pd_pl0_read.specs.Held.{taken_within}
use Rattle.pd_pl0_read.proofs.Reading.{token_within, few_tokens, Reached, reached_start, reached_blocks, reached_next, refused_at, refused_open, refused_many, nodes_read}
use Rattle.pd_pl0_read.proofs.read.nodes_of.Goals as goal

pub loop-at-init : goal.loop-at-init
loop-at-init c = subst (Reached c.args.room (words_of c.args.source.now.bytes c.args.tokens.now) 0) (sym c.in_ok-reader.ensures) (reached_start c.args.room (words_of c.args.source.now.bytes c.args.tokens.now))

pub word_of-word-requires-clause-within : goal.word_of-word-requires-clause-within
word_of-word-requires-clause-within c = (token_within 0 (length c.args.source.now.bytes) c.args.tokens.now c.loop-at.at c.get-token.result c.requires c.get-token.ensures).0

pub word_of-word-requires-clause-some : goal.word_of-word-requires-clause-some
word_of-word-requires-clause-some c =
    let some : 0 < c.get-token.result.len = (token_within 0 (length c.args.source.now.bytes) c.args.tokens.now c.loop-at.at c.get-token.result c.requires c.get-token.ensures).1 in
    omega arith

pub name_of-name-requires : goal.name_of-name-requires
name_of-name-requires c = (token_within 0 (length c.args.source.now.bytes) c.args.tokens.now c.loop-at.at c.get-token.result c.requires c.get-token.ensures).0

pub take_within-requires-clause-few : goal.take_within-requires-clause-few
take_within-requires-clause-few c =
    let few = few_tokens 0 (length c.args.source.now.bytes) c.args.tokens.now c.requires in
    let small : length c.args.source.now.bytes ≤ 1048576 = c.bytes.ensures.small in
    omega arith

pub take_within-requires-clause-blocks : goal.take_within-requires-clause-blocks
take_within-requires-clause-blocks c =
    let few = few_tokens 0 (length c.args.source.now.bytes) c.args.tokens.now c.requires in
    let small : length c.args.source.now.bytes ≤ 1048576 = c.bytes.ensures.small in
    let lt : c.loop-at.at + 2 < 2 ^ 32 = omega arith in
    reached_blocks c.args.room _ c.loop-at.at c.loop-at.reader c.loop-at.invariant lt

pub returns-in-Some-clause-refused : goal.returns-in-Some-clause-refused
returns-in-Some-clause-refused c =
    let few = few_tokens 0 (length c.args.source.now.bytes) c.args.tokens.now c.requires in
    let small : length c.args.source.now.bytes ≤ 1048576 = c.bytes.ensures.small in
    let lt : c.loop-at.at + 2 < 2 ^ 32 = omega arith in
    let broken : taken_within c.loop-at.at c.loop-at.reader c.word_of-word.result c.name_of-name.result.now ≡ Err c.in-Some.rule = rw c.in-Some.is at c.in_ok-rule.ensures in
    refused_at c.args.room c.args.source.now.bytes c.args.tokens.now c.loop-at.at c.get-token.result c.loop-at.reader c.in-Some.rule lt c.loop-at.invariant c.get-token.ensures
    (ap (λ w. taken_within c.loop-at.at c.loop-at.reader w (name_in (word_at c.args.source.now.bytes c.get-token.result))) (sym c.word_of-word.ensures)
    ∙ ap (taken_within c.loop-at.at c.loop-at.reader c.word_of-word.result) (sym c.name_of-name.ensures) ∙ broken)

pub loop-at-preserved : goal.loop-at-preserved
loop-at-preserved c =
    let few = few_tokens 0 (length c.args.source.now.bytes) c.args.tokens.now c.requires in
    let small : length c.args.source.now.bytes ≤ 1048576 = c.bytes.ensures.small in
    let lt : c.loop-at.at + 2 < 2 ^ 32 = omega arith in
    let went : taken_within c.loop-at.at c.loop-at.reader c.word_of-word.result c.name_of-name.result.now ≡ Ok c.take_within.new.self = rw c.in_default.is at c.in_ok-rule.ensures in
    reached_next c.args.room c.args.source.now.bytes c.args.tokens.now c.loop-at.at c.get-token.result c.loop-at.reader c.take_within.new.self lt c.loop-at.invariant c.get-token.ensures
    (ap (λ w. taken_within c.loop-at.at c.loop-at.reader w (name_in (word_at c.args.source.now.bytes c.get-token.result))) (sym c.word_of-word.ensures)
    ∙ ap (taken_within c.loop-at.at c.loop-at.reader c.word_of-word.result) (sym c.name_of-name.ensures) ∙ went)

pub returns-in_default-finish-clause-refused : goal.returns-in_default-finish-clause-refused
returns-in_default-finish-clause-refused c =
    let last : c.loop-at.at ≡ length c.args.tokens.now = omega arith in
    let reached = subst (λ n. Reached c.args.room (words_of c.args.source.now.bytes c.args.tokens.now) n c.loop-at.reader) last c.loop-at.invariant in
    subst (λ bytes. IsRefused c.args.room c.args.source.now.bytes c.args.tokens.now (record { rule = rules.Unexpected; at = length bytes })) (sym c.bytes.ensures.value)
    (refused_open c.args.room c.args.source.now.bytes c.args.tokens.now c.loop-at.reader reached (sym c.in_default-finish.ensures))

pub returns-then-len-room-clause-refused : goal.returns-then-len-room-clause-refused
returns-then-len-room-clause-refused c =
    let last : c.loop-at.at ≡ length c.args.tokens.now = omega arith in
    let reached = subst (λ n. Reached c.args.room (words_of c.args.source.now.bytes c.args.tokens.now) n c.loop-at.reader) last c.loop-at.invariant in
    let many : c.args.room < length c.in-Some-finish.nodes.items = omega arith in
    subst (λ bytes. IsRefused c.args.room c.args.source.now.bytes c.args.tokens.now (record { rule = rules.TooManyNodes; at = length bytes })) (sym c.bytes.ensures.value)
    (refused_many c.args.room c.args.source.now.bytes c.args.tokens.now c.loop-at.reader c.in-Some-finish.nodes.items reached (sym c.in-Some-finish.ensures) many)

pub returns-clause-spelled : goal.returns-clause-spelled
returns-clause-spelled c =
    let last : c.loop-at.at ≡ length c.args.tokens.now = omega arith in
    let reached = subst (λ n. Reached c.args.room (words_of c.args.source.now.bytes c.args.tokens.now) n c.loop-at.reader) last c.loop-at.invariant in
    let few : length c.in-Some-finish.nodes.items ≤ c.args.room = omega arith in
    nodes_read c.args.room c.args.source.now.bytes c.args.tokens.now c.loop-at.reader c.in-Some-finish.nodes.items reached (sym c.in-Some-finish.ensures) few
