use Rattle.std.proofs.Common.{◌≡◌, false, sym, ap, ◌∙◌}
use Rattle.ck_base.specs.Tokens.{Lexeme}
use Rattle.c_tree.specs.Types.{Ty}
use Rattle.c_tree.specs.Scopes.{give}
use Rattle.c_tree.specs.Readings as meant_parts
use Rattle.c_tree.specs.Declarators as meant
use Rattle.c_tree.specs.Declarators.{judge, formed, place_of, is_nothing, is_free}
use Rattle.c_expressions.specs.Nodes.{type_in}
use Rattle.c_expressions.specs.Nodes as nodes
use Rattle.c_expressions.proofs.Keeping.{keeps_then}
use Rattle.c_elaborator.specs.declared.work.Work.{Work}
use Rattle.c_elaborator.specs.Parts.{token_of}
use Rattle.c_declarators.specs.Forming.{formed_in}
use Rattle.c_declarators.specs.Parts.{any_scope, ParamThere, IsParam, in_any}
use Rattle.c_declarators.proofs.Joining.{nothing_is, parameter_step}
use Rattle.c_declarators.proofs.Quietly.{given_quietly, judged_err, judged_ok}
use Rattle.c_declarators.proofs.Wrapping.{formed_is, faults_in}
use Rattle.c_declarators.proofs.parameters.parameter_from.Goals as goal

pub returns-in-Err : goal.returns-in-Err
returns-in-Err c = λ x y hx hy.
    let w : Work = c.args.work.now in
    let t : Lexeme = token_of w c.args.first in
    let at : Lexeme = token_of w c.place_of-at.result in
    let f : meant.Formed = formed_in c.form.new.nodes c.in_ok-formed.formed in
    let of : Ty = type_in c.adjusted.new.nodes c.in_ok-of.of in
    let p : place_of y.name t ≡ at = ap (λ n. place_of n t) hy.name ∙ sym (c.place_of-at.ensures w) in
    let z : is_nothing c.args.only y.name y.wraps x.of ≡ c.is_nothing-nothing.result =
    ap (λ u. is_nothing c.args.only y.name y.wraps u) hx.of
    ∙ nothing_is w c.args.only c.args.d.now y (type_in w.nodes c.args.s.of) hy
    ∙ sym c.is_nothing-nothing.ensures in
    judged_err w (record w { nodes = c.adjusted.new.nodes }) _ (λ s. judge f false false c.place_of-at.result.pos)
    (λ s. give (let n = c.is_nothing-nothing.result in
    let r : meant_parts.Param = record { name = y.name; at = at; of = of; nothing = n } in r))
    ParamThere (in_any IsParam) c.in-Err.refusal
    (λ s k. parameter_step s c.args.only x t y f of at c.is_nothing-nothing.result
    (ap (λ u. formed s u y.wraps) hx.of
    ∙ formed_is any_scope w c.form.new.nodes c.in_ok-formed.formed c.args.s.of c.args.d.now.wraps.items y.wraps s
    (rw c.as_slice.ensures.value at c.in_ok-formed.ensures) hy.wraps k)
    (sym c.in_ok-of.ensures.is.is) p z (ap (is_free s) hy.name ∙ sym (c.is_free.ensures s k) ∙ c.if-not-is_free.false))
    (λ s k. c.in-Err.ensures f (faults_in c.form.new.nodes c.in_ok-formed.formed))

pub returns-in-Ok : goal.returns-in-Ok
returns-in-Ok c = λ x y hx hy.
    let w : Work = c.args.work.now in
    let t : Lexeme = token_of w c.args.first in
    let at : Lexeme = token_of w c.place_of-at.result in
    let f : meant.Formed = formed_in c.form.new.nodes c.in_ok-formed.formed in
    let of : Ty = type_in c.adjusted.new.nodes c.in_ok-of.of in
    let keeps : nodes.Keeps w.nodes c.adjusted.new.nodes =
    keeps_then w.nodes c.form.new.nodes c.adjusted.new.nodes c.in_ok-formed.ensures.keeps
    c.in_ok-of.ensures.keeps in
    let p : place_of y.name t ≡ at = ap (λ n. place_of n t) hy.name ∙ sym (c.place_of-at.ensures w) in
    let z : is_nothing c.args.only y.name y.wraps x.of ≡ c.is_nothing-nothing.result =
    ap (λ u. is_nothing c.args.only y.name y.wraps u) hx.of
    ∙ nothing_is w c.args.only c.args.d.now y (type_in w.nodes c.args.s.of) hy
    ∙ sym c.is_nothing-nothing.ensures in
    let r : meant_parts.Param = record { name = y.name; at = at; of = of; nothing = c.is_nothing-nothing.result } in
    given_quietly w c.adjusted.new.nodes _ _ _ (λ s. r) keeps c.in_ok-of.ensures.is.there
    (λ s k. parameter_step s c.args.only x t y f of at c.is_nothing-nothing.result
    (ap (λ u. formed s u y.wraps) hx.of
    ∙ formed_is any_scope w c.form.new.nodes c.in_ok-formed.formed c.args.s.of c.args.d.now.wraps.items y.wraps s
    (rw c.as_slice.ensures.value at c.in_ok-formed.ensures) hy.wraps k)
    (sym c.in_ok-of.ensures.is.is) p z (ap (is_free s) hy.name ∙ sym (c.is_free.ensures s k) ∙ c.if-not-is_free.false)
    ∙ judged_ok (judge f false false c.place_of-at.result.pos) (give r) s
    (c.in-Ok.ensures f (faults_in c.form.new.nodes c.in_ok-formed.formed)))
    (λ s k. ap (λ n.
    (let q : meant_parts.Param = record { name = n; at = at; of = of; nothing = c.is_nothing-nothing.result } in
    q)) hy.name)
