use Rattle.std.proofs.Common.{ℕ, ◌+◌, [], ◌∷◌, take, subst, arith}
use Rattle.std.proofs.lemmas.List.{take_all, length-take-le}
use Rattle.c_tree.specs.declared.typed.FunDef.{FunDef}
use Rattle.ordered_programs.specs.Uses.{MarksEach}
use Rattle.ordered_programs.specs.Ordered.{FunctionTyped}
use Rattle.ordered_programs.proofs.Each.{item_read, one_more, all_come, taken_more}
use Rattle.ordered_programs.proofs.Marking.{none_marked, marks_turn}
use Rattle.ordered_programs.proofs.functions.are_functions_ordered.Goals as goal

pub loop-k-init : goal.loop-k-init
loop-k-init c = record {
  typed = λ j f lt g. absurd (omega arith);
  bodies = none_marked (λ (f : FunDef). f.body ∷ []) (λ k. c.args.count) c.args.stmts.now.items;
}

pub loop-k-preserved : goal.loop-k-preserved
loop-k-preserved c =
    let xs = c.args.funs.now in
    let i = c.loop-k.k in
    let x = c.index-funs-k.result in
    let lt = c.loop-k-test.true in
    let ok = c.if-not-is_function_ordered.false in
    record {
      typed = one_more (λ (j : ℕ) (f : FunDef). FunctionTyped c.args.types f) xs i x
          (item_read xs i x lt c.index-funs-k.is) c.loop-k.invariant.typed (c.is_function_ordered.ensures.typed ok);
      bodies = marks_turn (λ (f : FunDef). f.body ∷ []) (λ k. c.args.count) (take (i + 1) xs) (take i xs) i x
          c.args.stmts.now.items c.loop-k.stmts.items c.is_function_ordered.new.stmts.items
          (length-take-le i xs (omega arith)) c.loop-k.invariant.bodies (c.is_function_ordered.ensures.body ok)
          (taken_more xs i x lt c.index-funs-k.is);
    }

pub returns : goal.returns
returns c = λ e.
    let xs = c.args.funs.now in
    let i = c.loop-k.k in
    let past = c.loop-k-test.false in
    record {
      typed = all_come (λ (j : ℕ) (f : FunDef). FunctionTyped c.args.types f) xs i past c.loop-k.invariant.typed;
      bodies = subst (λ zs. MarksEach (λ (f : FunDef). f.body ∷ []) (λ k. c.args.count) zs c.args.stmts.now.items
          c.loop-k.stmts.items) (take_all i xs past) c.loop-k.invariant.bodies;
    }
