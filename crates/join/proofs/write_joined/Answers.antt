-- `join::write_joined` meets its contract. Assumes nothing.
use Rattle.join.proofs.Joining.{joining-first, joining_second, joining_room, joining_reads, joining_fits, joining_reads_more, joining_fits_more, joining_file}
use Rattle.join.proofs.write_joined.Goals as goal

ruleset laws = (joining-first, joining_second, joining_room)

pub of-first-requires : goal.of-first-requires
of-first-requires c =
    joining_reads c.args.f.now c.args.g.now c.args.out.now c.requires

pub of-second-requires : goal.of-second-requires
of-second-requires c =
    joining_reads_more c.args.f.now c.args.g.now c.args.out.now c.requires

pub copy_items-requires : goal.copy_items-requires
copy_items-requires c =
    joining_fits c.args.f.now c.args.g.now c.args.out.now c.requires c.of-first.ensures.count c.of-second.ensures.count

pub copy_items-requires-2 : goal.copy_items-requires-2
copy_items-requires-2 c =
    joining_fits_more c.args.f.now c.args.g.now c.args.out.now c.requires c.of-first.ensures.count c.of-second.ensures.count c.copy_items.new.out c.copy_items.auto.out

pub header_of-h-requires : goal.header_of-h-requires
header_of-h-requires c =
    search laws

pub header-requires : goal.header-requires
header-requires c =
    search laws

-- The items of both files, and then the header.
pub returns : goal.returns
returns c =
    let first = rw c.of-first.ensures.file at c.copy_items.ensures in
    let second = rw c.of-second.ensures.file at c.copy_items-2.ensures in
    record {
      value = c.header_of-h.ensures.value;
      out_after =
          joining_file c.args.f.now c.args.g.now c.args.out.now c.requires c.of-first.ensures.count c.of-second.ensures.count c.header_of-h.ensures.value
          first second c.header.ensures;
    }
