use Rattle.std.proofs.Common.{false, refl}
use Rattle.c_tree.specs.declared.typed.VarDef.{VarDef}
use Rattle.c_passing.proofs.Standing.{no_locals_named, local_added, all_named}
use Rattle.c_passing.proofs.functions.other_locals.Goals as goal

pub loop-v-init : goal.loop-v-init
loop-v-init c = λ f h s. no_locals_named c.args.whole.now f c.args.into.now s

pub loop-v-preserved : goal.loop-v-preserved
loop-v-preserved c = λ f h s.
    let d : VarDef = record {
      name = record { start = 0; end = 0 };
      pos = record { line = 0; col = 0 };
      of = 0;
      simple = false;
    } in
    local_added c.args.whole.now f c.args.locals.now c.loop-v.into _ d _ c.retyped-local.result c.loop-v.v-index
    c.in_ok-at.at h c.loop-v-test.true refl c.in_ok-at.ensures c.retyped-local.ensures refl refl
    c.in_ok-push-2.ensures.items c.in_ok-push.ensures.items (c.loop-v.invariant f h s)

pub returns : goal.returns
returns c = λ f h s. all_named c.args.whole.now f c.args.locals.now c.loop-v.into c.loop-v.v-index h c.loop-v-test.false
    c.loop-v.auto.v-index-end (c.loop-v.invariant f h s)
