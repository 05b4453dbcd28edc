use Rattle.std.proofs.Common.{◌≡◌, drop}
use Rattle.std.specs.Prelude.{◌+◌, map}
use Rattle.c_tree.specs.declared.typed.Literal.{Literal}
use Rattle.cheri_c_sem.specs.Calls.{fill_literals}
use Rattle.c_mean.proofs.start.fill_all_literals.Given as goal

abbrev pub invariant-loop-k : goal.invariant-loop-k
invariant-loop-k g l =
    let ops = g.B.Operations.meaning l.fn.m in
    record {
      same : g.B.Operations.meaning l.m ≡ ops;
      left : fill_literals ops (g.B.Operations.held l.fn.m) l.globals (map (λ (s : Literal). s.bytes) l.p.literals)
          ≡ fill_literals ops (g.B.Operations.held l.m) (l.globals + l.k)
          (map (λ (s : Literal). s.bytes) (drop l.k l.p.literals));
    }
