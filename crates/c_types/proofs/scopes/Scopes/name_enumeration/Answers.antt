use Rattle.std.proofs.Common.{◌≡◌, sym, subst, ap, ◌∙◌, Some, None, false, refl}
use Rattle.c_tree.specs.Scopes.{find_tag}
use Rattle.c_types.specs.Declares.{name_of, declares_enumeration}
use Rattle.c_types.specs.Stands.{tagging_of}
use Rattle.c_types.proofs.Steps.{fails_here}
use Rattle.c_types.proofs.scopes.Scopes.name_enumeration.Goals as goal

pub returns-in-Recorded : goal.returns-in-Recorded
returns-in-Recorded c p =
    let t = name_of c.args.self.now.file.now c.args.d in
    fails_here c.args.self.now p (declares_enumeration t false) 133 t.pos
    (λ s h. let e = subst (λ n. find_tag s.scopes n ≡ Some (tagging_of c.in-Some.found)) c.text.ensures
    (sym (c.in-Some.ensures p s h)) ∙ ap (λ x. Some (tagging_of x)) c.in-Recorded.is in
    rw e refl)

pub returns-in-None : goal.returns-in-None
returns-in-None c p =
    let t = name_of c.args.self.now.file.now c.args.d in
    fails_here c.args.self.now p (declares_enumeration t false) 132 t.pos
    (λ s h. let e : find_tag s.scopes t.text ≡ None =
    subst (λ n. find_tag s.scopes n ≡ None) c.text.ensures (sym (c.in-None.ensures p s h)) in
    rw e refl)
