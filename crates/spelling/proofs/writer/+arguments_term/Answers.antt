use mathlib.Core.Path.{◌≡◌, refl}
use mathlib.Core.List.{[]}
use native.Mathlib.Omega.{arith}
use borrow.Author.Rules.{rules}
use Rattle.document.proofs.Places.{rest_in, rest_last}
use Rattle.spelling.proofs.Summing.{rest_none}
use Rattle.spelling.proofs.Texts.{sound_scalar}
use Rattle.spelling.proofs.Putting.{name_room, leaf_room, leaf_wrote, children_room, children_wrote, list_none, list_end_room, list_end, list_room, list_below, list_fits, list_more}
use Rattle.spelling.proofs.writer.+arguments_term.Goals as goal
use Rattle.spelling.proofs.writer.+arguments_term.Goals.{arguments-else-loop-k-test, arguments-then-loop-k-test+then-c}

pub arguments-loop-k-init : goal.arguments-loop-k-init
arguments-loop-k-init t c = (list_none _ _ _ _ _ c.requires.sound c.requires.inside c.requires.fits, refl)

pub arguments-byte-p-requires : goal.arguments-byte-p-requires
arguments-byte-p-requires t c = list_room _ _ _ _ _ _ _ _ _ c.loop-k.invariant.0 _ c.place-c.ensures c.if-c.false

pub arguments-term-p-requires : goal.arguments-term-p-requires
arguments-term-p-requires t c =
    let low = list_below _ _ _ _ _ _ _ _ _ c.loop-k.invariant.0 _ c.place-c.ensures c.if-c.false in (
      omega (arith, low, c.decreases),
      (
        c.requires.sound,
        (
          omega (arith, low, c.requires.inside),
          list_fits _ _ _ _ _ _ _ _ _ c.loop-k.invariant.0 _ c.place-c.ensures c.if-c.false _ _ c.byte-p.ensures,
        ),
      ),
    )

pub arguments-loop-k-preserved : goal.arguments-loop-k-preserved
arguments-loop-k-preserved t c = (
  list_more _ _ _ _ _ _ _ _ _ c.loop-k.invariant.0 _ c.place-c.ensures c.if-c.false _ _ c.byte-p.ensures _ _ c.term-p.ensures,
  search rules,
)

pub arguments-byte-requires : goal.arguments-byte-requires
arguments-byte-requires t c =
    let none : rest_in c.args.rows.now c.args.i.0 c.loop-k.k ≡ [] = elim c.loop-k-test.branch [
      | arguments-else-loop-k-test w ↦ rest_last _ _ _ w.loop-k-test.false
      | arguments-then-loop-k-test+then-c w ↦ rest_none _ _ _ _ w.place-c.ensures w.if-c.true
    ] in
    list_end_room _ _ _ _ _ _ _ _ _ c.loop-k.invariant.0 none

pub arguments-returns : goal.arguments-returns
arguments-returns t c =
    let none : rest_in c.args.rows.now c.args.i.0 c.loop-k.k ≡ [] = elim c.loop-k-test.branch [
      | arguments-else-loop-k-test w ↦ rest_last _ _ _ w.loop-k-test.false
      | arguments-then-loop-k-test+then-c w ↦ rest_none _ _ _ _ w.place-c.ensures w.if-c.true
    ] in
    list_end _ _ _ _ _ _ _ _ _ c.loop-k.invariant.0 none _ _ c.byte.ensures

pub term-name-p-requires : goal.term-name-p-requires
term-name-p-requires t c = name_room _ _ c.requires.sound _ c.requires.inside _ c.symbol.ensures c.args.out.now _ c.requires.fits

pub term-scalar-requires : goal.term-scalar-requires
term-scalar-requires t c = record { known = sound_scalar _ c.requires.sound _ c.requires.inside; fits = leaf_room _ _ c.requires.sound _ c.requires.inside _ c.symbol.ensures _ _ c.requires.fits _ _ c.name-p.ensures _ c.place-c.ensures c.if-c.true }

pub term-returns-then-c : goal.term-returns-then-c
term-returns-then-c t c = leaf_wrote _ _ c.requires.sound _ c.requires.inside _ c.symbol.ensures _ _ c.requires.fits _ _ c.name-p.ensures _ c.place-c.ensures c.if-c.true _ _ c.scalar.ensures

pub term-arguments-requires : goal.term-arguments-requires
term-arguments-requires t c = (
  omega (arith, c.decreases),
  (
    c.requires.sound,
    (
      c.requires.inside,
      children_room _ _ c.requires.sound _ c.requires.inside _ c.symbol.ensures _ _ c.requires.fits _ _ c.name-p.ensures _ c.place-c.ensures c.if-c.false,
    ),
  ),
)

pub term-returns : goal.term-returns
term-returns t c = children_wrote _ _ c.requires.sound _ c.requires.inside _ c.symbol.ensures _ _ c.requires.fits _ _ c.name-p.ensures _ c.place-c.ensures c.if-c.false _ _ c.arguments.ensures
