-- What a read has given goes into the run so far.
use Rattle.std.proofs.Common.{◌≡◌, ◌+◌, ◌-◌, ◌*◌, length, take, suc, ap, sym, arith}
use native.Mathlib.Nat.{suc-mul}
use lib.Seq.{length-take-le}
use Rattle.std.proofs.lemmas.Result.{on_ok_weaker}
use Rattle.lines.proofs.Known.{some_came, none_came, none_lost}
use Rattle.lines.proofs.Running.{running_on, running_out, running_unread}
use Rattle.lines.proofs.tell.run.Goals as goal

pub slice_bounds-feed-end : goal.slice_bounds-feed-end
slice_bounds-feed-end g c =
    let came = rw c.in-Some.is at c.in_ok-count.ensures in
    (some_came _ _ _ _ _ came c.read.ensures.bound c.read.ensures.bytes).0

pub slice_bounds-feed-end-in-loop-n : goal.slice_bounds-feed-end-in-loop-n
slice_bounds-feed-end-in-loop-n g c =
    let came = rw c.in-Some.is at c.in_ok-count.ensures in
    sym (length-take-le _ _ (some_came _ _ _ _ _ came c.read.ensures.bound c.read.ensures.bytes).0)

pub feed-requires-clause-room : goal.feed-requires-clause-room
feed-requires-clause-room g c =
    let came = rw c.in-Some.is at c.in_ok-count.ensures in
    let fits = (some_came _ _ _ _ _ came c.read.ensures.bound c.read.ensures.bytes).0 in
    let short = length-take-le c.in-Some.count c.read.new.buf fits in
    omega (arith, c.requires.room, ap length c.put_out.ensures.empty, g.T.Telling.laws.text_most c.loop-n.teller (take c.in-Some.count c.read.new.buf) (length c.args.piece.now) (omega (arith, short, fits, c.loop-n.auto.piece, c.read.auto.buf)))

pub loop-n-preserved : goal.loop-n-preserved
loop-n-preserved g c =
    let came = some_came _ _ _ _ _ (rw c.in-Some.is at c.in_ok-count.ensures) c.read.ensures.bound c.read.ensures.bytes in
    let short = length-take-le c.in-Some.count c.read.new.buf came.0 in
    let left : c.args.reads - c.loop-n.n ≡ suc (c.args.reads - (c.loop-n.n + 1)) = omega (arith, c.loop-n-test.true) in
    let counted : (c.args.reads - c.loop-n.n) * length c.loop-n.piece ≡ length c.read.new.buf + (c.args.reads - (c.loop-n.n + 1)) * length c.read.new.buf =
    rw (left, suc-mul (c.args.reads - (c.loop-n.n + 1)) (length c.loop-n.piece), c.read.auto.buf) (omega arith) in
    rw (c.feed.ensures.state, c.feed.ensures.written, c.put_out.ensures.empty)
    (running_on g.T.Telling.laws c.args.teller.now c.args.page.now.items _ _ _ c.loop-n.teller c.loop-n.page.items _ _ c.loop-n.invariant _ _ (take c.in-Some.count c.read.new.buf) (length c.read.new.buf) _ c.in_ok-put_out.ensures.told came.1 (omega (arith, short, came.0)) counted)

pub returns-in_default-clause-told : goal.returns-in_default-clause-told
returns-in_default-clause-told g c =
    let none = none_came _ _ _ _ (rw c.in_default.is at c.in_ok-count.ensures) (omega (arith, c.requires.in_pieces, c.loop-n.auto.piece, c.read.auto.buf)) c.read.ensures.bytes in
    on_ok_weaker c.put_out-in_default.result
    (λ told. running_out g.T.Telling.laws c.args.teller.now c.args.page.now.items _ _ _ c.loop-n.teller c.loop-n.page.items _ _ c.loop-n.invariant _ _ c.in_ok-put_out.ensures.told none.0 _ (rw (c.finish.ensures, c.put_out.ensures.empty) at told))
    c.put_out-in_default.ensures.told

pub returns-in_err-count-clause-unread : goal.returns-in_err-count-clause-unread
returns-in_err-count-clause-unread g c =
    λ is. running_unread g.T.Telling.laws c.args.teller.now c.args.page.now.items _ _ _ c.loop-n.teller c.loop-n.page.items _ _ c.loop-n.invariant _ _ c.in_ok-put_out.ensures.told (none_lost _ _ _ _ _ c.in_err-count.ensures c.read.ensures.bytes)
