use Rattle.c_initializers.proofs.ObjectLaws.{found_filled}
use Rattle.c_initializers.proofs.objects.fill_found.Goals as goal

pub returns : goal.returns
returns c =
    found_filled c.args.work.now c.fill_object.new.work c.args.k c.args.found c.in_ok-bytes.bytes.items
    c.pointers_end-end.result
    c.as_slice-2.result.now c.as_slice.result.now c.fill_object.result c.as_slice-2.ensures.value
    c.as_slice.ensures.value
    c.pointers_end-end.ensures (c.in_ok-bytes.ensures {u = tt}) c.fill_object.ensures
