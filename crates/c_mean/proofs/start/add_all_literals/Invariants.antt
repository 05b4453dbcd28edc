use Rattle.std.proofs.Common.{◌≡◌, drop}
use Rattle.std.specs.Prelude.{map}
use Rattle.c_tree.specs.declared.typed.Literal.{Literal}
use Rattle.cheri_c_sem.specs.Calls.{add_literals}
use Rattle.c_mean.proofs.start.add_all_literals.Given as goal

abbrev pub invariant-loop-k : goal.invariant-loop-k
invariant-loop-k g l =
    let ops = g.B.Operations.meaning l.fn.m in
    record {
      same : g.B.Operations.meaning l.m ≡ ops;
      left : add_literals ops (g.B.Operations.held l.fn.m) 0 (map (λ (s : Literal). s.bytes) l.p.literals)
          ≡ add_literals ops (g.B.Operations.held l.m) l.k (map (λ (s : Literal). s.bytes) (drop l.k l.p.literals));
    }
