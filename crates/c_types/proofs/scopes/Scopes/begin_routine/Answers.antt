use Rattle.std.proofs.Common.{◌<◌, ◌∙◌, refl, length, Bool, true}
use Rattle.c_tree.specs.declared.typed.FunDef.{FunDef}
use Rattle.c_types.proofs.Changing.{changed_const}
use Rattle.c_types.proofs.Extending.{fun_changed}
use Rattle.c_types.proofs.Routines.{begun_stands}
use Rattle.c_types.proofs.scopes.Scopes.begin_routine.Goals as goal

pub returns-then-k-len-clause-stands : goal.returns-then-k-len-clause-stands
returns-then-k-len-clause-stands c s h =
    let lt : c.args.k < length c.args.self.now.begun.items =
    rw (c.len.ensures ∙ c.args.self.now.begun.ok.0) at c.if-k-len.true in
    begun_stands c.args.self.now _ c.new.result c.args.p.now _ s c.args.k c.args.d h
    (changed_const {A = Bool} c.args.self.now.begun.items c.args.k true lt) c.set_name.ensures c.new.ensures.items

pub returns-then-k-len-clause-extends : goal.returns-then-k-len-clause-extends
returns-then-k-len-clause-extends c =
    fun_changed c.args.p.now _ (λ (f : FunDef). record f { name = c.args.d.name; pos = c.args.d.pos }) c.args.k
    c.set_name.ensures (λ x. refl)

pub returns-else-k-len-clause-extends : goal.returns-else-k-len-clause-extends
returns-else-k-len-clause-extends c =
    fun_changed c.args.p.now _ (λ (f : FunDef). record f { name = c.args.d.name; pos = c.args.d.pos }) c.args.k
    c.set_name.ensures (λ x. refl)
