-- `recency::save` meets its contract. Assumes nothing.
use mathlib.Core.Path.{sym, ◌∙◌}
use Rattle.recency.proofs.Saving.{saving_none, saving_writes, saving_keeps, saving_fits, saving_adds, saving_passed, saving_more, saving_pages, saving_marks}
use Rattle.recency.proofs.save.Goals as goal

pub loop-r-init : goal.loop-r-init
loop-r-init c =
    search saving_none

pub loop-r-preserved-then-is_stale : goal.loop-r-preserved-then-is_stale
loop-r-preserved-then-is_stale c =
    saving_passed c.requires c.loop-r.invariant c.loop-r-test.true (sym c.is_stale.ensures ∙ c.if-is_stale.true)

pub offset_bounds-list-i : goal.offset_bounds-list-i
offset_bounds-list-i c =
    let live = sym c.is_stale.ensures ∙ c.if-is_stale.false in
    search saving_fits

pub bounds-list-i : goal.bounds-list-i
bounds-list-i c =
    let live = sym c.is_stale.ensures ∙ c.if-is_stale.false in
    search saving_writes

pub bounds-kept-i : goal.bounds-kept-i
bounds-kept-i c =
    let live = sym c.is_stale.ensures ∙ c.if-is_stale.false in
    search saving_keeps

pub overflow_add-i : goal.overflow_add-i
overflow_add-i c =
    let live = sym c.is_stale.ensures ∙ c.if-is_stale.false in
    search saving_adds

pub loop-r-preserved : goal.loop-r-preserved
loop-r-preserved c =
    rw c.is_written.ensures (saving_more c.requires c.loop-r.invariant c.loop-r-test.true (sym c.is_stale.ensures ∙ c.if-is_stale.false))

pub returns : goal.returns
returns c =
    record { list_after = search saving_pages; kept_after = search saving_marks }
