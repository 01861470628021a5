-- A hex digit of either case that is a digit or a letter. Assumes nothing.
use borrow.Author.Rules.{rules}
use Rattle.term.proofs.Bytes.{lower_hex}
use Rattle.term.proofs.scan.is_lower_hex.Goals as goal

pub returns : goal.returns
returns c = lower_hex _ (search rules) _ _ (c.is_hex_digit.ensures.compared c.args.source.now.lent) (c.is_letter_or_digit.ensures.compared c.args.source.now.lent)
