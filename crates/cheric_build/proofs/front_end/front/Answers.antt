use Rattle.std.proofs.Common.{rules, arith}
use Rattle.accepted_files.specs.Accepted as files
use Rattle.typing_laws.proofs.Literals.{are_bytes}
use Rattle.cheric_build.proofs.Fronted.{is_broken, reads, typed, sound, refused}
use Rattle.cheric_build.proofs.front_end.front.Goals as goal

pub returns-then-file-gt-MOST_BYTES-clause-refused : goal.returns-then-file-gt-MOST_BYTES-clause-refused
returns-then-file-gt-MOST_BYTES-clause-refused c = (files.too_long (omega (arith, c.if-file-gt-MOST_BYTES.true)), tt)

pub returns-in_err-tree-clause-refused : goal.returns-in_err-tree-clause-refused
returns-in_err-tree-clause-refused c =
    let why = rw c.new.ensures at c.in_err-tree.ensures in
    let broken = is_broken c.args.file.now c.in_err-tree.field-0.0 (omega (arith, c.if-file-gt-MOST_BYTES.false)) why in
    search rules

pub elab-requires-clause-readable : goal.elab-requires-clause-readable
elab-requires-clause-readable c =
    let t = rw c.new.ensures at c.in_ok-tree.ensures in
    record {
      syntax = t.parses.syntax;
      reads = reads c.args.file.now c.in_ok-tree.tree t (are_bytes c.args.file.now c.type_inv.file);
    }

pub returns-clause-typed : goal.returns-clause-typed
returns-clause-typed c =
    let t = rw c.new.ensures at c.in_ok-tree.ensures in
    let bytes = are_bytes c.args.file.now c.type_inv.file in
    typed c.args.file.now c.in_ok-tree.tree t c.elab.result
    (c.elab.ensures t.parses.syntax (reads c.args.file.now c.in_ok-tree.tree t bytes))

pub returns-clause-sound : goal.returns-clause-sound
returns-clause-sound c =
    let t = rw c.new.ensures at c.in_ok-tree.ensures in
    let bytes = are_bytes c.args.file.now c.type_inv.file in
    sound c.args.file.now c.in_ok-tree.tree t bytes c.elab.result
    (c.elab.ensures t.parses.syntax (reads c.args.file.now c.in_ok-tree.tree t bytes))

pub returns-clause-refused : goal.returns-clause-refused
returns-clause-refused c =
    let t = rw c.new.ensures at c.in_ok-tree.ensures in
    let bytes = are_bytes c.args.file.now c.type_inv.file in
    refused c.args.file.now c.in_ok-tree.tree t c.elab.result
    (c.elab.ensures t.parses.syntax (reads c.args.file.now c.in_ok-tree.tree t bytes))
