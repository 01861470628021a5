-- By whether the first byte begins a number. Assumes nothing.
use Rattle.jsonrows.specs.State.{built_in}
use Rattle.jsonrows.proofs.Holding.{says_by}
use Rattle.jsonrows.proofs.PlainWays.{number_alone, number_test}
use Rattle.jsonrows.proofs.reader.plain_value.Goals as goal

pub returns-then-b-is_digit : goal.returns-then-b-is_digit
returns-then-b-is_digit c =
    let test = number_test c.byte_at-b.ensures (c.is_digit.ensures.compared c.args.source.now.lent) c.if-b-is_digit.true in
    says_by (number_alone _ c.args.source.now.text.now c.args.at (built_in c.args.source.now.text.now c.args.tables.now.rows c.args.tables.now.starts c.args.counts.used c.args.counts.texts) test) c.number_leaf.ensures

pub text_or_word-requires : goal.text_or_word-requires
text_or_word-requires c = record { holds = c.requires.holds; other = number_test c.byte_at-b.ensures (c.is_digit.ensures.compared c.args.source.now.lent) c.if-b-is_digit.false }
