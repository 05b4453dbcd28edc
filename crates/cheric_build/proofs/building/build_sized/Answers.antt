use Rattle.std.proofs.Common.{rules}
use Rattle.cheric_build.proofs.FileAnswers.{broken_file, built_of, made_of, refused_of}
use Rattle.cheric_build.proofs.Once.{once}
use Rattle.cheric_build.proofs.building.build_sized.Goals as goal

pub returns-in_err-p-clause-refused : goal.returns-in_err-p-clause-refused
returns-in_err-p-clause-refused c =
    let broken = broken_file c.args.file.now c.in_err-p.field-0.0 c.in_err-p.ensures.refused in
    search rules

pub returns-clause-built : goal.returns-clause-built
returns-clause-built c =
    let file = c.args.file.now in
    let front = c.in_ok-p.ensures in
    let built = c.build_typed.ensures in
    built_of file (once file) c.in_ok-p.p front.typed front.sound c.build_typed.result built.built built.within
    built.light

pub returns-clause-made : goal.returns-clause-made
returns-clause-made c =
    let file = c.args.file.now in
    let front = c.in_ok-p.ensures in
    let built = c.build_typed.ensures in
    made_of file (once file) c.in_ok-p.p front.typed front.sound c.build_typed.result built.registers built.within
    built.light

pub returns-clause-refused : goal.returns-clause-refused
returns-clause-refused c =
    let file = c.args.file.now in
    let front = c.in_ok-p.ensures in
    refused_of file (once file) c.in_ok-p.p front.typed front.sound c.build_typed.result c.build_typed.ensures.refused
