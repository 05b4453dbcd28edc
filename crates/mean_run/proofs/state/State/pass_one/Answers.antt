use Rattle.std.proofs.Common.{◌+◌, sym, ap, ◌∙◌, arith}
use Rattle.std.specs.Prelude.{not, slice_get}
use Rattle.c_tree.specs.Layout.{bare}
use Rattle.obj_mem.specs.Values.{value_of}
use Rattle.cheri_c_sem.specs.Programs.{parameter_of}
use Rattle.cheri_c_sem.specs.Meaning.{At}
use Rattle.cheri_c_sem.specs.Types.{is_simple, kind_of, kind_or_int, objects_before}
use Rattle.mean_types.specs.Views.{kind_of as code_kind}
use Rattle.mean_steps.specs.Parts.{pass_one, store}
use Rattle.mean_run.specs.Locals.{vars_of}
use Rattle.mean_run.proofs.Calling.{did_as, did_in, object_passed, variable_passed}
use Rattle.mean_run.proofs.Counts.{few}
use Rattle.mean_run.proofs.state.State.pass_one.Goals as goal

pub returns-then-is_object-clause-did : goal.returns-then-is_object-clause-did
returns-then-is_object-clause-did g c = λ there.
    let ops = g.B.Operations.meaning c.args.m.now in
    let held = g.B.Operations.held c.args.m.now in
    let p = c.args.s.now.p.now in
    let vars = c.args.d.now.vars in
    let x = c.args.x in
    let few_before = few vars x in
    let is_vars = ap vars_of there in
    let simple = ap (λ vs. not (is_simple (slice_get vs x))) is_vars in
    let before = c.before-then-is_object.ensures p c.requires.locals ∙ ap (λ vs. objects_before vs x) is_vars in
    let object = c.object-object.ensures (omega arith) ∙ ap (λ n. c.args.self.now.call.first + n) before in
    let kind = c.kind_or_int-kind.ensures ∙ ap kind_or_int c.facts.ensures.own.kind
    ∙ ap (λ t. kind_of (bare p.types t)) c.type_of_variable.ensures in
    did_as (store ops (code_kind c.kind_or_int-kind.result) (At c.args.d.now.pos (value_of c.whole-to.result))
    (value_of c.args.v)) (pass_one ops c.args.d.now.pos (parameter_of p vars x) (value_of c.args.v)) _ p c.args.self.now
    c.store.new.self _ held _ _ (object_passed ops p c.args.d.now.pos c.args.self.now held (value_of c.args.v)
    (is_simple (slice_get vars x)) x (objects_before vars x) c.object-object.result _ _ _ _
    (sym (c.is_object.ensures ∙ simple) ∙ c.if-is_object.true) kind
    object c.whole-to.ensures c.zero.ensures.changes)
    (did_in (λ o. store o (code_kind c.kind_or_int-kind.result) (At c.args.d.now.pos (value_of c.whole-to.result))
    (value_of c.args.v)) _ p c.args.self.now c.store.new.self _ _ _ _ ops c.zero.ensures.same (c.store.ensures.did p))

pub returns-else-is_object-clause-did : goal.returns-else-is_object-clause-did
returns-else-is_object-clause-did g c = λ there.
    let ops = g.B.Operations.meaning c.args.m.now in
    let held = g.B.Operations.held c.args.m.now in
    let p = c.args.s.now.p.now in
    let vars = c.args.d.now.vars in
    let x = c.args.x in
    let simple = ap (λ vs. not (is_simple (slice_get vs x))) (ap vars_of there) in
    variable_passed ops p c.args.d.now.pos c.args.self.now held (value_of c.args.v) (is_simple (slice_get vars x)) x
    (objects_before vars x) _ c.set_variable.new.self (sym (c.is_object.ensures ∙ simple) ∙ c.if-is_object.false)
    c.set_variable.ensures
