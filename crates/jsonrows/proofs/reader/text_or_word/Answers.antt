-- By the first byte. Assumes nothing.
use mathlib.Core.Path.{refl, sym, ◌∙◌}
use Rattle.jsonrows.specs.State.{built_in, says_refused}
use Rattle.jsonrows.proofs.Holding.{says_by}
use Rattle.jsonrows.proofs.PlainWays.{quote_first, t_first, f_first, n_first, none_first}
use Rattle.jsonrows.proofs.reader.text_or_word.Goals as goal

pub returns-then-b-eq34 : goal.returns-then-b-eq34
returns-then-b-eq34 c = says_by (quote_first _ c.args.source.now.text.now c.args.at (built_in c.args.source.now.text.now c.args.tables.now.rows c.args.tables.now.starts c.args.counts.used c.args.counts.texts) (sym c.byte_at-b.ensures ∙ c.if-b-eq34.true)) c.string_leaf.ensures

pub returns-then-b-eq116 : goal.returns-then-b-eq116
returns-then-b-eq116 c = says_by (t_first _ c.args.source.now.text.now c.args.at (built_in c.args.source.now.text.now c.args.tables.now.rows c.args.tables.now.starts c.args.counts.used c.args.counts.texts) (λ e. c.if-b-eq34.false (c.byte_at-b.ensures ∙ e)) (sym c.byte_at-b.ensures ∙ c.if-b-eq116.true)) c.word.ensures

pub returns-then-b-eq102 : goal.returns-then-b-eq102
returns-then-b-eq102 c = says_by (f_first _ c.args.source.now.text.now c.args.at (built_in c.args.source.now.text.now c.args.tables.now.rows c.args.tables.now.starts c.args.counts.used c.args.counts.texts) (λ e. c.if-b-eq34.false (c.byte_at-b.ensures ∙ e)) (λ e. c.if-b-eq116.false (c.byte_at-b.ensures ∙ e)) (sym c.byte_at-b.ensures ∙ c.if-b-eq102.true)) c.word-then-b-eq102.ensures

pub returns-then-b-eq110 : goal.returns-then-b-eq110
returns-then-b-eq110 c = says_by (n_first _ c.args.source.now.text.now c.args.at (built_in c.args.source.now.text.now c.args.tables.now.rows c.args.tables.now.starts c.args.counts.used c.args.counts.texts) (λ e. c.if-b-eq34.false (c.byte_at-b.ensures ∙ e)) (λ e. c.if-b-eq116.false (c.byte_at-b.ensures ∙ e)) (λ e. c.if-b-eq102.false (c.byte_at-b.ensures ∙ e)) (sym c.byte_at-b.ensures ∙ c.if-b-eq110.true)) c.word-then-b-eq110.ensures

pub returns : goal.returns
returns c =
    says_by
    (none_first _ c.args.source.now.text.now c.args.at (built_in c.args.source.now.text.now c.args.tables.now.rows c.args.tables.now.starts c.args.counts.used c.args.counts.texts) (λ e. c.if-b-eq34.false (c.byte_at-b.ensures ∙ e)) (λ e. c.if-b-eq116.false (c.byte_at-b.ensures ∙ e)) (λ e. c.if-b-eq102.false (c.byte_at-b.ensures ∙ e)) (λ e. c.if-b-eq110.false (c.byte_at-b.ensures ∙ e)) c.requires.other)
    (says_refused refl)
