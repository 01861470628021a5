-- A line's token is written, or the line itself. Assumes nothing.
use mathlib.Core.Path.{◌≡◌, ap, subst, ◌∙◌}
use native.Mathlib.Omega.{arith}
use Rattle.std.specs.Prelude.{Some}
use Rattle.std.proofs.lemmas.Option.{same_Some}
use Rattle.base.specs.Text.{got}
use Rattle.jsontext.proofs.StringEnds.{string_ahead}
use Rattle.jsonrows.specs.KeyTable.{key_at, token_at}
use Rattle.jsonrows.proofs.Keying.{token_string}
use Rattle.jsonrows.proofs.keys.key_here.Goals as goal

pub returns-then-has_token : goal.returns-then-has_token
returns-then-has_token c next e =
    let has = subst (λ k. token_at c.args.source.now.places.now k ≡ Some c.in-Some.token) c.from.ensures c.in-Some.is in
    let (l, s) = token_string c.args.source.now.table _ _ has _ _ (c.has_token.ensures c.if-has_token.true) in
    (omega (arith, c.if-k-ge-MAX_KEYS.false), l, s ∙ ap (got (key_at c.args.source.now.list.now c.args.k)) (same_Some _ _ e))

-- a token has bytes, and the place after the key stands inside the text
pub overflow_add-result : goal.overflow_add-result
overflow_add-result c =
    let has = subst (λ k. token_at c.args.source.now.places.now k ≡ Some c.in-Some.token) c.from.ensures c.in-Some.is in
    let (l, s) = token_string c.args.source.now.table _ _ has _ _ (c.has_token.ensures c.if-has_token.true) in
    let a = string_ahead _ _ _ _ s in
    record { fits = omega (arith, a.inside, c.well_formed.0) }
