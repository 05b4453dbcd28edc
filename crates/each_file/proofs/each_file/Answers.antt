use Rattle.std.proofs.Common.{arith}
use Rattle.typing_laws.proofs.Literals.{are_bytes}
use Rattle.each_file.proofs.Deciding.{of_short, of_long, each_file}
use Rattle.each_file.proofs.each_file.Goals as goal

pub returns-then-file-le4194304 : goal.returns-then-file-le4194304
returns-then-file-le4194304 c =
    let bytes = c.args.file.now in
    each_file bytes (c.one_file.ensures bytes) c.typing_codes.ensures.coded
    (of_short bytes (are_bytes bytes c.type_inv.file) c.readings_are_trees.ensures.sound
    c.readings_are_trees.ensures.complete c.token_count.result c.if-file-le4194304.true c.token_count.ensures.lexed
    c.token_count.ensures.refused)

pub returns-else-file-le4194304 : goal.returns-else-file-le4194304
returns-else-file-le4194304 c =
    let bytes = c.args.file.now in
    each_file bytes (c.one_file.ensures bytes) c.typing_codes.ensures.coded
    (of_long bytes (omega (arith, c.if-file-le4194304.false)))
