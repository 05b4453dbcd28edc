use Rattle.std.proofs.Common.{Ok, Err, rules}
use Rattle.cheric_build.proofs.FileAnswers.{broken_file, built_of, refused_of}
use Rattle.cheric_build.proofs.Once.{once}
use Rattle.command_modes.proofs.showing.build_program.Goals as goal

pub returns-in_err-p-clause-refused : goal.returns-in_err-p-clause-refused
returns-in_err-p-clause-refused c =
    let broken = broken_file c.args.file.now c.in_err-p.field-0.0 c.in_err-p.ensures.refused in
    search rules

pub returns-in_err-built-clause-refused : goal.returns-in_err-built-clause-refused
returns-in_err-built-clause-refused c =
    let file = c.args.file.now in
    let front = c.in_ok-p.ensures in
    let refused = refused_of file (once file) c.in_ok-p.p front.typed front.sound
    (Err c.in_err-built.field-0.0) c.in_err-built.ensures.refused in
    search rules

pub returns-clause-program : goal.returns-clause-program
returns-clause-program c =
    let front = c.in_ok-p.ensures in
    let t = front.typed in
    let built = c.in_ok-built.ensures in
    record {
      accepted = record {
        tokens = t.tokens;
        syntax = t.syntax;
        reads = t.reads;
        types = t.types;
        room = built.within;
        light = built.light;
      };
      built = built.built;
    }

pub returns-clause-built : goal.returns-clause-built
returns-clause-built c =
    let file = c.args.file.now in
    let front = c.in_ok-p.ensures in
    let built = c.in_ok-built.ensures in
    built_of file (once file) c.in_ok-p.p front.typed front.sound
    (Ok c.in_ok-built.built) built.built built.within built.light
