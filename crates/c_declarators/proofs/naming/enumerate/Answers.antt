use Rattle.std.proofs.Common.{◌≡◌, true, sym, ap, subst, ◌∙◌, rules, arith}
use Rattle.std.specs.Prelude.{ℤ, pos, ◌+ℤ◌}
use Rattle.std.proofs.lemmas.Int.{to_z-of_z}
use Rattle.std.proofs.Common.{w32}
use mir.Syntax.{w128}
use mir.Val.{to_z, of_z}
use Rattle.ck_base.specs.Tokens.{Lexeme}
use Rattle.c_tree.specs.Scopes.{State, Enumerator, bind_name}
use Rattle.c_tree.specs.Declarators.{is_new, in_int, enumerate}
use Rattle.c_types.specs.declared.scopes.Scopes.{Scopes}
use Rattle.c_types.specs.Calls.{Given, IsDeclared}
use Rattle.c_types.specs.Declares.{declares_constant, name_of}
use Rattle.c_elaborator.specs.declared.work.Work.{Work}
use Rattle.c_elaborator.specs.Work.{Shows}
use Rattle.c_elaborator.specs.Parts.{token_of}
use Rattle.c_declarators.specs.Parts.{NumberThere, IsNumber, in_any}
use Rattle.c_declarators.proofs.Denoting.{constant_stands, constant_not_refused, enumerated}
use Rattle.c_declarators.proofs.Lifting.{declared, scopes_declared, refused}
use Rattle.c_declarators.proofs.Tagging.{enumerate_declares, name_is}
use Rattle.c_declarators.proofs.naming.enumerate.Goals as goal

pub returns-in-Err : goal.returns-in-Err
returns-in-Err c =
    let w : Work = c.args.work.now in
    let t : Lexeme = token_of w c.args.name in
    let u : Lexeme = name_of w.nodes.scopes.file.now c.constant_of-d.result in
    let v : ℤ = to_z w32 (of_z w32 c.in-Some.value) in
    refused w w (record w.nodes { scopes = c.declare_constant.new.self }) (declares_constant u v)
    (enumerate t c.args.number c.args.at) (IsDeclared w.nodes.p) NumberThere (in_any IsNumber) c.in-Err.refusal
    (λ s z h e. absurd (constant_not_refused u v s z
    (ap (λ (x : Lexeme). is_new s x.text)
    (name_is w c.args.name c.constant_of-d.result s c.constant_of-d.ensures.name c.constant_of-d.ensures.pos h)
    ∙ sym (c.is_new.ensures s h) ∙ c.if-not-is_new.false) e)) (c.in-Err.ensures.is w.nodes.p)

pub returns-in-Ok : goal.returns-in-Ok
returns-in-Ok c =
    let w : Work = c.args.work.now in
    let t : Lexeme = token_of w c.args.name in
    let sc : Scopes = c.declare_constant.new.self in
    let z : ℤ = c.args.number in
    let n : (s : State) → Shows w s → name_of w.nodes.scopes.file.now c.constant_of-d.result ≡ t =
    λ s h. name_is w c.args.name c.constant_of-d.result s c.constant_of-d.ensures.name c.constant_of-d.ensures.pos h in
    let new : (s : State) → Shows w s → is_new s t.text ≡ true =
    λ s h. sym (c.is_new.ensures s h) ∙ c.if-not-is_new.false in
    let b : in_int z ≡ true = first_of (search rules, grind arith) in
    let v : c.in-Some.value ≡ z = first_of (search rules, grind arith) in
    let x : c.next_after.result ≡ c.in-Some.value +ℤ pos 1 = first_of (search rules, grind arith) in
    let q : to_z w32 (of_z w32 c.in-Some.value) ≡ c.in-Some.value = to_z-of_z w32 c.in-Some.value c.in-Some.ensures.2 in
    let e : z +ℤ pos 1 ≡ c.next_after.result = ap (λ (y : ℤ). y +ℤ pos 1) (sym v) ∙ sym x in
    let F : State → ℤ → Type 0 = λ s y. y ≡ c.next_after.result in
    declared w (record w.nodes { scopes = sc }) (enumerate t z c.args.at) _ F _ c.requires
    (scopes_declared w.nodes sc c.declare_constant.ensures.file) (enumerate_declares w.file.now t z c.args.at) tt
    (λ s h. record {
      value = z +ℤ pos 1;
      state = bind_name t.text (Enumerator z) s;
      is = enumerated t z c.args.at s (new s h) b;
      stands = constant_stands sc w.nodes.p t z s _ (new s h)
          (subst (λ (y : ℤ). Given sc w.nodes.p (declares_constant t y s)
          (IsDeclared w.nodes.p c.in-Ok.field-0)) (q ∙ v)
          (subst (λ (u : Lexeme). Given sc w.nodes.p
          (declares_constant u (to_z w32 (of_z w32 c.in-Some.value)) s)
          (IsDeclared w.nodes.p c.in-Ok.field-0)) (n s h) (c.in-Ok.ensures.is w.nodes.p s h.stands)));
      fits = e;
    })
    (λ s y f. f ∙ sym (to_z-of_z w128 c.next_after.result c.next_after.ensures.fits))
