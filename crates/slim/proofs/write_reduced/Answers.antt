-- `slim::write_reduced` meets its contract. Assumes nothing.
use borrow.Author.Rules.{rules}
use Rattle.filter.specs.Filter.{places}
use Rattle.filter.proofs.Bits.{zeros_clear}
use Rattle.slim.proofs.Reducing.{reducing_long, reducing_room, reducing_header, reducing_slim, reducing_file}
use Rattle.slim.proofs.Judging.{mode_back}
use Rattle.slim.proofs.write_reduced.Goals as goal

ruleset laws = (reducing_long, reducing_room, reducing_header, reducing_slim, reducing_file, rules)

pub header_at-h-requires : goal.header_at-h-requires
header_at-h-requires c =
    search laws

pub slim-m-requires : goal.slim-m-requires
slim-m-requires c =
    reducing_slim _ _ _ _ c.requires c.header_at-h.ensures.value c.header_at-h.ensures.references_bound.1 (λ i. (c.type_inv.file i).fits)
    c.new-table.ensures.file c.new-table.ensures.held (zeros_clear places c.new-owed.ensures)

pub header-requires : goal.header-requires
header-requires c =
    search laws

-- The header and the file are written.
pub returns : goal.returns
returns c =
    let file = c.new-table.ensures.file in
    let kept = rw file at c.slim-m.ensures.value in
    let written = rw file at c.slim-m.ensures.out_after in
    let kind = c.from.ensures in
    record {
      value = rw kind (reducing_header _ _ _ c.header_at-h.ensures.value (mode_back c.args.mode) kept);
      out_after =
          reducing_file _ _ _ _ c.requires c.header_at-h.ensures.value (mode_back c.args.mode) kept
          written (rw kind at c.header.ensures);
    }
