use Rattle.std.proofs.Common.{ℕ, List, Ok, refl, sym, ap, subst}
use Rattle.c_tree.specs.Scopes as meant
use Rattle.c_tree.specs.Scopes.{State, change, bind_name}
use Rattle.c_tree.specs.Types.{Ty}
use Rattle.c_tree.specs.Declarators.{bind_parameter}
use Rattle.c_types.specs.declared.scopes.Scopes.{Scopes}
use Rattle.c_types.specs.Stands.{Stands, text_at}
use Rattle.c_expressions.proofs.Keeping.{keeps_same}
use Rattle.c_expressions.specs.Nodes.{type_in}
use Rattle.c_elaborator.specs.declared.work.Work.{Work}
use Rattle.c_elaborator.specs.declared.work.Name.{Name}
use Rattle.c_declarators.specs.Parts.{param_in}
use Rattle.c_declarators.proofs.Lifting.{declared, scopes_declared}
use Rattle.c_declarators.proofs.Quietly.{given_quietly}
use Rattle.c_declarators.proofs.Tagging.{parameter_declares, parameter_binds, nothing_binds, type_there}
use Rattle.c_declarators.proofs.prototypes.bind_parameter.Goals as goal

pub returns-in_ok-bind_local-in-Some : goal.returns-in_ok-bind_local-in-Some
returns-in_ok-bind_local-in-Some c =
    let w : Work = c.args.work.now in
    let sc : Scopes = c.bind_local.new.self in
    let n : Name = c.in-Some.name in
    let u : Ty = type_in w.nodes c.args.p.of in
    let F : State → Unit {0} → Type 0 = λ s a. Unit {0} in
    declared w (record w.nodes { scopes = sc })
    (change (bind_parameter c.args.k (param_in w c.args.p))) _ F F c.requires.whole
    (scopes_declared w.nodes sc c.bind_local.ensures.file)
    (parameter_declares w.file.now c.args.k (param_in w c.args.p)) tt
    (λ s h. record {
      value = tt;
      state = bind_parameter c.args.k (param_in w c.args.p) s;
      is = refl;
      stands = subst (λ (t : State). Stands sc w.nodes.p t) (sym (parameter_binds w c.args.k c.args.p n s c.in-Some.is))
          (subst (λ (f : List ℕ). Stands sc w.nodes.p (bind_name (text_at f n.span) (meant.Local c.args.k u) s))
          h.closed.file
          (c.in_ok-bind_local-in-Some.ensures.ok w.nodes.p s u h.stands (type_there w c.args.p.of c.requires.there)));
      fits = tt;
    })
    (λ s a f. f)

pub returns-in-None : goal.returns-in-None
returns-in-None c =
    let w : Work = c.args.work.now in
    given_quietly w w.nodes _ _ _ (λ s. tt) (keeps_same w.nodes c.requires.whole) tt
    (λ s h. ap (λ (t : State). Ok (tt, t)) (nothing_binds w c.args.k c.args.p s c.in-None.is)) (λ s h. tt)
