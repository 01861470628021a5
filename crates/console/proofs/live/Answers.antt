-- `console::live` meets its contract: the writer's answer decides. Assumes nothing.
use mathlib.Core.Path.{◌≡◌, sym}
use native.Mathlib.Omega.{arith}
use borrow.Author.Rules.{rules}
use lib.ListN.{length, replicate}
use lib.Seq.{length-take-le}
use Rattle.console.proofs.Answers.{zeros_long, write_fits, write_printed}
use Rattle.console.proofs.live.Goals as goal

pub slice_bounds-text-end : goal.slice_bounds-text-end
slice_bounds-text-end c = write_fits _ _ (replicate 32768 0) _ _ _ c.write.ensures.answer c.write.ensures.space c.in-Ok.is

pub slice_bounds-put_alive-end : goal.slice_bounds-put_alive-end
slice_bounds-put_alive-end c = sym (length-take-le _ _ (write_fits _ _ (replicate 32768 0) _ _ _ c.write.ensures.answer c.write.ensures.space c.in-Ok.is))

pub put_alive-requires : goal.put_alive-requires
put_alive-requires c =
    let l = write_fits _ _ (replicate 32768 0) _ _ _ c.write.ensures.answer c.write.ensures.space c.in-Ok.is in
    let e = length-take-le c.in-Ok.n c.write.new.text l in
    let n : length c.write.new.text ≡ 32768 = search rules in
    omega (arith, e, l, n, c.requires)

pub returns-in-Ok : goal.returns-in-Ok
returns-in-Ok c = write_printed _ _ _ (replicate 32768 0) _ _ _ _ _ _ (zeros_long 32768) c.write.ensures.answer c.write.ensures.space c.in-Ok.is c.put_alive.ensures

pub returns-in-Err : goal.returns-in-Err
returns-in-Err c = write_printed _ _ _ (replicate 32768 0) _ _ _ _ _ _ (zeros_long 32768) c.write.ensures.answer c.write.ensures.space c.in-Err.is c.put_refused.ensures
