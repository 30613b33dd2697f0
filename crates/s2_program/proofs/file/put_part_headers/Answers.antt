use Rattle.std.proofs.Common.{◌≡◌, arith}
use Rattle.s2_program.specs.PlainFiles.{size_of}
use Rattle.s2_program.proofs.PartWords.{headers_step, next_step, next_fits}
use Rattle.s2_program.proofs.file.put_part_headers.Goals as goal

pub put_part_header-requires : goal.put_part_header-requires
put_part_header-requires c =
    let h = next_fits c.args.offset c.loop-part.next c.args.parts.now c.loop-part.part-index c.part-item.result c.loop-part-test.true c.part-item.is c.loop-part.invariant.next c.requires in
    omega arith

pub size-next-requires : goal.size-next-requires
size-next-requires c =
    let h = next_fits c.args.offset c.loop-part.next c.args.parts.now c.loop-part.part-index c.part-item.result c.loop-part-test.true c.part-item.is c.loop-part.invariant.next c.requires in
    omega arith

pub overflow_add-next : goal.overflow_add-next
overflow_add-next c =
    let h = next_fits c.args.offset c.loop-part.next c.args.parts.now c.loop-part.part-index c.part-item.result c.loop-part-test.true c.part-item.is c.loop-part.invariant.next c.requires in
    let e : c.size-next.result ≡ size_of c.part-item.result = c.size-next.ensures in
    omega arith

pub loop-part-preserved : goal.loop-part-preserved
loop-part-preserved c = record {
  written = headers_step c.loop-part.file.items c.put_part_header.new.file.items c.args.file.now.items c.args.offset c.loop-part.next c.args.parts.now c.loop-part.part-index
      c.part-item.result c.loop-part-test.true c.part-item.is c.loop-part.invariant.next c.loop-part.invariant.written c.in_ok-put_part_header.ensures;
  next = next_step c.args.offset c.loop-part.next c.size-next.result c.args.parts.now c.loop-part.part-index c.part-item.result c.loop-part-test.true c.part-item.is c.loop-part.invariant.next c.size-next.ensures;
}
