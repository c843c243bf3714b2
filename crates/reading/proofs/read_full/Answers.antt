-- A read goes on where the last one ended. Assumes nothing.
use Rattle.std.proofs.Common.{rules}
use Rattle.reading.proofs.Filled.{front_more, consumes_both}
use Rattle.reading.proofs.read_full.Goals as goal

pub loop-done-preserved : goal.loop-done-preserved
loop-done-preserved g c = record {
  within = search rules;
  read =
      rw (front_more c.loop-done.buf c.read.new.buf c.loop-done.done c.in_ok-n.n c.loop-done.invariant.within c.in_ok-n.ensures.bound.0)
      (consumes_both _ _ _ _ _ c.loop-done.invariant.read c.in_ok-n.ensures.bytes.0);
}
