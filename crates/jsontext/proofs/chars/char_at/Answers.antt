-- By what the piece is. Assumes nothing.
use mathlib.Core.Path.{sym, ap, ◌∙◌, subst}
use Prim.Native.Nat.{◌+◌, ◌≤◌}
use native.Mathlib.Omega.{arith}
use Rattle.std.specs.Prelude.{Ok}
use Rattle.jsontext.specs.declared.pieces.StringPiece.{StringPiece}
use Rattle.jsontext.specs.StringAnswers.{piece_of, Ahead, PieceInside}
use Rattle.jsontext.proofs.CharReads.{raw_character, code_character, quoted, joined_few}
use Rattle.jsontext.proofs.chars.char_at.Goals as goal

pub returns-in-Closed : goal.returns-in-Closed
returns-in-Closed c = record { char_says = λ l. absurd (c.requires.open (quoted _ _ (sym (c.in_ok-piece_at.ensures.answer l) ∙ ap (λ (p : StringPiece). piece_of (Ok p)) c.in-Closed.is))); inside = tt }

pub returns-in-Raw : goal.returns-in-Raw
returns-in-Raw c =
    let s : Ahead c.args.text.now (c.args.at + 1) c.in-Raw.n × (c.in-Raw.n ≤ c.args.at + 4) = subst (λ (p : StringPiece). PieceInside c.args.text.now c.args.at (Ok p)) c.in-Raw.is c.in_ok-piece_at.ensures.inside in
    record { char_says = λ l. raw_character _ _ _ _ (λ i h. omega (arith, c.shared_slice_known-1.given i)) (sym (c.in_ok-piece_at.ensures.answer l) ∙ ap (λ (p : StringPiece). piece_of (Ok p)) c.in-Raw.is) c.few_bytes-bytes.ensures; inside = (s.0, omega (arith, s.0.forward), omega (arith, s.1)) }

pub returns-in-Code : goal.returns-in-Code
returns-in-Code c = record { char_says = λ l. code_character _ _ _ _ _ _ (sym (c.in_ok-piece_at.ensures.answer l) ∙ ap (λ (p : StringPiece). piece_of (Ok p)) c.in-Code.is) c.pack.ensures; inside = (subst (λ (p : StringPiece). PieceInside c.args.text.now c.args.at (Ok p)) c.in-Code.is c.in_ok-piece_at.ensures.inside, (joined_few _ _ _ c.pack.ensures).0, (joined_few _ _ _ c.pack.ensures).1) }
