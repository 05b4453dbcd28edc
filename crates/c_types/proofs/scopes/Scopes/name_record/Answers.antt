use Rattle.std.proofs.Common.{◌≡◌, sym, ◌∙◌, false, refl}
use Rattle.c_tree.specs.Scopes.{Recorded}
use Rattle.c_tree.specs.Declarators.{kind_at}
use Rattle.c_types.specs.Naming.{names_record}
use Rattle.c_types.proofs.Steps.{fails_here}
use Rattle.c_types.specs.Declares.{name_of}
use Rattle.c_types.proofs.Tagged.{named_refused, named_again}
use Rattle.c_types.proofs.scopes.Scopes.name_record.Goals as goal

pub returns-in-Err-clause-is : goal.returns-in-Err-clause-is
returns-in-Err-clause-is c p =
    named_refused c.args.self.now _ p c.args.kind
    (name_of c.args.self.now.file.now c.args.d) c.args.d.defines c.args.tag c.in-Err.refusal c.if-d.true
    (λ s h. sym (c.is_of_kind.ensures p s h) ∙ c.if-not-is_of_kind.false) (c.in-Err.ensures.is p)

pub returns-in-Ok-clause-is : goal.returns-in-Ok-clause-is
returns-in-Ok-clause-is c p s h =
    named_again c.args.self.now _ p s c.args.kind
    (name_of c.args.self.now.file.now c.args.d) c.args.d.defines c.args.tag c.if-d.true
    (sym (c.is_of_kind.ensures p s h) ∙ c.if-not-is_of_kind.false) (c.in-Ok.ensures.is p s h)

pub returns-then-not-is_of_kind-clause-is : goal.returns-then-not-is_of_kind-clause-is
returns-then-not-is_of_kind-clause-is c p =
    let t = name_of c.args.self.now.file.now c.args.d in
    fails_here c.args.self.now p (names_record c.args.kind t c.args.d.defines (Recorded c.args.tag)) 133 t.pos
    (λ s h. let e : kind_at s c.args.tag c.args.kind ≡ false =
    sym (c.is_of_kind.ensures p s h) ∙ c.if-not-is_of_kind.true in
    rw e refl)
