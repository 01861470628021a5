use mathlib.Core.Path.{◌≡◌, ap}
use Prim.Native.Nat.{◌+◌, ◌*◌, ◌-◌, ◌<◌}
use lib.ListN.{length, set}
use native.Mathlib.Omega.{arith}
use Rattle.judging.specs.Chains.{class_in}
use Rattle.judging.proofs.States.{opening_few, thread_none, thread_more, thread_all, head_of}
use Rattle.judging.proofs.chains.open_window.Goals as goal

pub returns-then-high-low : goal.returns-then-high-low
returns-then-high-low c = opening_few (class_in c.args.work.now) c.args.p c.args.low c.args.high c.args.chains.now.heads c.args.chains.now.links c.if-high-low.true

pub loop-j-init : goal.loop-j-init
loop-j-init c = thread_none (class_in c.args.work.now) c.args.p c.args.low c.args.high c.args.chains.now.heads c.args.chains.now.links c.requires.1

pub class_at-c-requires : goal.class_at-c-requires
class_at-c-requires c = omega (arith, c.loop-j.invariant.to, c.loop-j-test.true, c.requires)

pub head_from-next-requires : goal.head_from-next-requires
head_from-next-requires c =
    let e : c.loop-j.j - 1 + 1 ≡ c.loop-j.j = omega (arith, c.loop-j-test.true) in
    rw e (record { bounds = (omega (arith, c.requires.0, c.class_at-c.ensures.1), c.loop-j.invariant.to, c.requires.3); head_of = head_of (class_in c.args.work.now) c.args.p c.loop-j.j c.args.high c.loop-j.chains.heads c.loop-j.invariant.firsts c.class_at-c.result })

pub loop-j-preserved : goal.loop-j-preserved
loop-j-preserved c =
    let e : c.loop-j.j - 1 + 1 ≡ c.loop-j.j = omega (arith, c.loop-j-test.true) in
    let head = rw e at c.head_from-next.ensures in
    let wide : c.args.p * 256 + c.class_at-c.result < length c.loop-j.chains.heads = omega (arith, c.requires.0, c.class_at-c.ensures.1) in
    let long : c.loop-j.j - 1 < length c.loop-j.chains.links = omega (arith, c.loop-j.invariant.to, c.loop-j-test.true, c.requires.2) in
    thread_more (class_in c.args.work.now) c.args.p c.args.low c.args.high c.args.chains.now.heads c.args.chains.now.links c.loop-j.chains.heads c.loop-j.chains.links c.loop-j.j c.loop-j.invariant (c.loop-j.j - 1) c.class_at-c.result c.head_from-next.result (omega (arith, c.loop-j-test.true)) (omega (arith, c.loop-j-test.true)) c.class_at-c.ensures.0 c.class_at-c.ensures.1 head wide long _ _ (ap (set c.loop-j.chains.links (c.loop-j.j - 1)) c.narrow.ensures) (ap (set c.loop-j.chains.heads (c.args.p * 256 + c.class_at-c.result)) c.narrow-in-loop-j.ensures)

pub returns : goal.returns
returns c = thread_all (class_in c.args.work.now) c.args.p c.args.low c.args.high c.args.chains.now.heads c.args.chains.now.links c.loop-j.chains.heads c.loop-j.chains.links c.loop-j.j c.loop-j.invariant c.loop-j-test.false
