-- No key of an element; a member's key and its colon. Assumes nothing.
use mathlib.Core.Path.{refl, sym, ◌∙◌}
use Rattle.std.proofs.lemmas.Result.{err_from_is_err_and}
use Rattle.names.specs.Lines.{lines}
use Rattle.jsonrows.proofs.Heading.{head_none, head_refused, head_no_colon, head_colon, colon_here}
use Rattle.jsonrows.proofs.reader.head.Goals as goal

pub returns-then-not-object : goal.returns-then-not-object
returns-then-not-object c = record { says = λ seen marks known. head_none _ c.if-not-object.true _ _ _ _ _ _ _ _ _ _ _ _ seen _ c.requires.holds; kept = refl }

pub key_at-requires : goal.key_at-requires
key_at-requires c = record { holds = c.requires.holds; bounds = c.requires.below c.if-not-object.false }

pub returns-then-byte_at-eq58 : goal.returns-then-byte_at-eq58
returns-then-byte_at-eq58 c =
    let object = c.if-not-object.false in
    let colon = sym c.byte_at.ensures ∙ c.if-byte_at-eq58.true in
    record { says = λ seen marks known. head_colon (record { keys = lines c.args.source.now.list.now; limit = c.args.source.now.limit }) (c.in_ok-key.ensures.says seen (marks object) (known object)) refl _ (colon_here _ _ colon) _ object colon _ (c.space_end.ensures c.args.source.now.lent); kept = c.in_ok-key.ensures.kept }

pub returns-then-byte_at-ne58 : goal.returns-then-byte_at-ne58
returns-then-byte_at-ne58 c = record { says = λ seen marks known. head_no_colon (record { keys = lines c.args.source.now.list.now; limit = c.args.source.now.limit }) (c.in_ok-key.ensures.says seen (marks c.if-not-object.false) (known c.if-not-object.false)) refl _ (c.space_end-i.ensures c.args.source.now.lent) _ c.if-not-object.false (λ q. c.if-byte_at-ne58.true (c.byte_at-2.ensures ∙ q)); kept = c.in_ok-key.ensures.kept }

pub returns-in_err-key : goal.returns-in_err-key
returns-in_err-key c = record { says = λ seen marks known. let p = err_from_is_err_and c.from_residual.result c.from_residual.ensures.1 in rw (p.1, p.2) (head_refused (record { keys = lines c.args.source.now.list.now; limit = c.args.source.now.limit }) (c.in_err-key.ensures.says seen (marks c.if-not-object.false) (known c.if-not-object.false)) _ c.if-not-object.false refl); kept = c.in_err-key.ensures.kept }

pub returns : goal.returns
returns c = record { says = λ seen marks known. head_colon (record { keys = lines c.args.source.now.list.now; limit = c.args.source.now.limit }) (c.in_ok-key.ensures.says seen (marks c.if-not-object.false) (known c.if-not-object.false)) refl _ (c.space_end-i.ensures c.args.source.now.lent) _ c.if-not-object.false (sym c.byte_at-2.ensures ∙ c.if-byte_at-ne58.false) _ (c.space_end-2.ensures c.args.source.now.lent); kept = c.in_ok-key.ensures.kept }
