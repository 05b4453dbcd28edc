use Rattle.std.proofs.Common.{◌+◌, false, length, get_or, drop, ap, ◌∙◌, arith}
use Rattle.c_tree.specs.declared.typed.VarDef.{VarDef}
use Rattle.cheri_c_sem.specs.Calls.{add_locals}
use Rattle.cheri_c_sem.specs.Programs.{lengths_of}
use Rattle.std.proofs.lemmas.List.{drop_more}
use Rattle.std.proofs.lemmas.Option.{slice_get-get_or}
use Rattle.tac_run.specs.Holdings.{Holding, ops_of, with_store}
use Rattle.tac_run.proofs.Folding.{onward, one_local, an_object}
use Rattle.tac_run.proofs.calls.add_locals.Goals as goal

pub vars-preserved : goal.vars-preserved
vars-preserved c =
    let p = c.args.program.p.now in
    let vs = c.args.vars.now in
    let i = c.vars.v-index in
    let d : VarDef = record {
      name = record { start = 0; end = 0 };
      pos = record { line = 0; col = 0 };
      of = 0;
      simple = false;
    } in
    let v = get_or vs i d in
    let m = c.vars.memory in
    let left = drop_more vs i d c.vars-test.true in
    let size = c.facts.ensures.size (c.requires.small i v (slice_get-get_or vs i d c.vars-test.true)) in
    let after = c.in_ok-add_local.ensures
    ∙ ap (λ k. with_store m ((ops_of m).add_local m.store c.args.frame c.args.fun c.vars.n k)) size in
    let few = c.vars.invariant.few in
    let rest = c.vars.invariant.rest in
    record {
      few = omega arith;
      rest = omega (arith, ap length (an_object p (drop i vs) v (drop (i + 1) vs) left c.if-v.false));
      under = ap (λ (h : Holding). h.map) after ∙ c.vars.invariant.under;
      so_far = onward m c.add_local.new.self _ _
          (λ ops s. add_locals ops s c.args.frame c.args.fun (c.vars.n + 1) (lengths_of p (drop (i + 1) vs))) after
          (one_local p (ops_of m) c.args.frame c.args.fun c.vars.n (drop i vs) v (drop (i + 1) vs) m.store left
          c.if-v.false) c.vars.invariant.so_far;
    }
