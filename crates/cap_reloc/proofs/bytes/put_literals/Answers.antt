use Rattle.std.proofs.Common.{◌≡◌, ◌+◌, ◌<◌, length, get_or, arith}
use Rattle.cap_reloc.specs.Initial.{literal_content}
use Rattle.cap_reloc.proofs.Rows.{zip_all}
use Rattle.cap_reloc.proofs.Contents.{byte_of_none, byte_of_more}
use Rattle.cap_reloc.proofs.bytes.put_literals.Goals as goal

pub loop-k-init : goal.loop-k-init
loop-k-init c = λ i h. let e = byte_of_none (get_or c.args.bytes.now i 0) (c.args.from + i) in cc

pub loop-k-preserved : goal.loop-k-preserved
loop-k-preserved c = λ i h.
    let there : i < length c.loop-k.bytes = omega arith in
    let bases : length c.as_slice-bases.result.now ≡ length c.as_slice-literals.result.now = cc in
    let put = c.put.ensures.each i there in
    let before = c.loop-k.invariant i h in
    let more = byte_of_more literal_content (get_or c.args.bytes.now i 0) c.as_slice-literals.result.now
    c.as_slice-bases.result.now c.loop-k.k c.index-literals-k.result
    (c.args.from + i) c.loop-k-test.true bases in
    cc

pub returns-clause-each : goal.returns-clause-each
returns-clause-each c = λ k h.
    let all = zip_all c.as_slice-literals.result.now c.as_slice-bases.result.now c.loop-k.k c.loop-k-test.false in
    let before = c.loop-k.invariant k h in
    cc
