use Rattle.std.proofs.Common.{sym, subst, ap, ◌∙◌}
use Rattle.c_types.specs.Calls.{DeclaresKind}
use Rattle.c_types.specs.Naming.{constant_of}
use Rattle.c_types.proofs.scopes.Scopes.declare.Goals as goal

pub returns-in-Constant-clause-answers : goal.returns-in-Constant-clause-answers
returns-in-Constant-clause-answers c lt =
    subst (λ k. DeclaresKind k c.args.self.now.file.now c.args.self.now c.args.p.now c.declare_value.new.self
    c.args.p.now c.args.d c.declare_value.result) (sym c.in-Constant.is)
    (c.declare_value.ensures.is c.args.p.now c.in-Constant.field-0
    (c.constant_of.ensures ∙ ap constant_of c.in-Constant.is))
