use Rattle.std.proofs.Common.{◌≡◌, sym, subst, Err}
use Rattle.c_tree.specs.Scopes.{Enumerated, give}
use Rattle.c_types.specs.declared.entries.TagKind.TheVariants.{Enum}
use Rattle.c_types.specs.Declares.{name_of, declares_enumeration, declares_tag}
use Rattle.c_types.specs.Calls.{Answers, IsTag}
use Rattle.c_types.proofs.Steps.{then_refused}
use Rattle.c_types.proofs.scopes.Scopes.declare_tag.Goals as goal

pub returns-in-Err-declare_enumeration-clause-answers : goal.returns-in-Err-declare_enumeration-clause-answers
returns-in-Err-declare_enumeration-clause-answers c =
    let k : c.args.kind ≡ Enum = c.in-Enum.is in
    subst (λ x. Answers c.args.self.now c.args.p.now c.declare_enumeration.new.self c.args.p.now
    (declares_tag x (name_of c.args.self.now.file.now c.args.d) c.args.d.defines) (IsTag c.args.p.now)
    (Err c.in-Err-declare_enumeration.refusal)) (sym k)
    (then_refused {X = Unit {0}} c.args.self.now c.args.p.now _ c.args.p.now
    (declares_enumeration (name_of c.args.self.now.file.now c.args.d) c.args.d.defines) (λ x. give Enumerated)
    (λ x s a. Unit {0}) (IsTag c.args.p.now) c.in-Err-declare_enumeration.refusal
    (c.in-Err-declare_enumeration.ensures.is c.args.p.now))
