use Rattle.std.proofs.Common.{map, refl}
use Rattle.c_elaborator.specs.Work.{aiming_of}
use Rattle.c_initializers.specs.Objects.{filled}
use Rattle.c_initializers.proofs.ObjectLaws.{no_object, filled_extended, object_filled}
use Rattle.c_initializers.proofs.objects.fill_object.Goals as goal

pub returns-in-None : goal.returns-in-None
returns-in-None c = no_object c.args.work.now c.args.k (filled c.args.bytes.items (map aiming_of c.args.starts.items))
    c.requires c.in-None.ensures.is

pub returns-in_ok-add_filling-in-Some : goal.returns-in_ok-add_filling-in-Some
returns-in_ok-add_filling-in-Some c =
    let n = c.args.work.now.nodes in
    let m = c.mark_filled.new.nodes in
    let e = c.mark_filled.ensures in
    object_filled c.args.work.now m c.add_filling.new.fillings c.args.k c.in-Some.field-0
    (record { object = c.args.k; bytes = c.args.bytes; starts = c.args.starts }) c.requires
    c.in-Some.ensures.is
    (filled_extended n m e.program e.facts e.void e.file) refl c.in_ok-add_filling-in-Some.ensures.is
    c.in_ok-add_filling-in-Some.ensures.below e.stands
