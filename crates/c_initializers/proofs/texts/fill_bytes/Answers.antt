use Rattle.std.proofs.Common.{ap, map}
use Rattle.std.proofs.lemmas.Result.{err_from_is_err_and}
use Rattle.c_elaborator.specs.Work.{aiming_of}
use Rattle.c_initializers.specs.Texts.{without_zeros}
use Rattle.c_initializers.proofs.TextLaws.{bytes-given, bytes-fail}
use Rattle.c_initializers.proofs.texts.fill_bytes.Goals as goal

pub returns-in_err-object_complete : goal.returns-in_err-object_complete
returns-in_err-object_complete c =
    let p = err_from_is_err_and c.from_residual-in_err-object_complete.result
    c.from_residual-in_err-object_complete.ensures.1 in
    rw (p.1, p.2)
    (bytes-fail c.args.work.now c.complete_object.new.work c.args.k c.args.count c.args.pos
    (without_zeros c.args.bytes.now) c.in_err-object_complete.field-0.0 (c.in_ok-complete_object.ensures {u = tt})
    c.in_err-object_complete.ensures)

pub returns : goal.returns
returns c =
    bytes-given c.args.work.now c.complete_object.new.work c.fill_object.new.work c.args.k c.args.count c.args.pos
    (without_zeros c.args.bytes.now) c.in_ok-kept.kept.items (map aiming_of c.new.result.items) c.fill_object.result
    (c.in_ok-complete_object.ensures {u = tt}) (c.in_ok-object_complete.ensures {u = tt})
    (c.in_ok-kept.ensures {u = tt}) (ap (map aiming_of) c.new.ensures.items) c.fill_object.ensures
