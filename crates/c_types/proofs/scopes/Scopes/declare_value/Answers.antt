use Rattle.std.proofs.Common.{◌≡◌, true, ◌∙◌, ap, subst}
use Rattle.std.specs.Prelude.{not}
use Rattle.c_tree.specs.Scopes as meant
use Rattle.c_tree.specs.Scopes.{bind_name}
use Rattle.c_tree.specs.Views.{types_of}
use Rattle.c_tree.specs.Declarators.{is_new}
use Rattle.c_types.specs.Declares.{name_of}
use Rattle.c_types.specs.Stands.{Stands, entity_kept}
use Rattle.c_types.proofs.Binding.{constant_given, new_name}
use Rattle.c_types.proofs.scopes.Scopes.declare_value.Goals as goal

pub returns-clause-is : goal.returns-clause-is
returns-clause-is c p z e s h =
    let t = name_of c.args.self.now.file.now c.args.d in
    let new : is_new s t.text ≡ true =
    subst (λ n. is_new s n ≡ true) c.text-name.ensures
    (new_name _ _ _ c.is_some.result (c.look_here.ensures p s h) c.is_some.ensures ∙ ap not c.if-is_some.false)
    in
    rw (c.entry_of.ensures, e) (constant_given c.bind.new.self p s t z new
    (subst (λ n. Stands c.bind.new.self p (bind_name n (meant.Enumerator z) s)) c.text-name.ensures
    (c.in_ok-bind.ensures.ok p s (meant.Enumerator z) h (ap (entity_kept (types_of p.types)) e))))
