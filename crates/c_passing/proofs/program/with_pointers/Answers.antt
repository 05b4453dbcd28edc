use Rattle.std.proofs.Common.{refl, sym, subst}
use Rattle.c_tree.specs.declared.typed.Typed.{Typed}
use Rattle.c_passing.specs.Numbered.{Follows, AreListed}
use Rattle.c_passing.specs.Routines.{AreObjects}
use Rattle.c_passing.proofs.Programs.{program_made}
use Rattle.c_passing.proofs.program.with_pointers.Goals as goal

pub returns : goal.returns
returns c =
    let old = c.args.p in
    let types = c.in_ok-types.types in
    let new : Typed = record {
      types = c.from_vec.result;
      globals = c.from_vec-2.result;
      literals = old.literals;
      funs = c.from_vec-3.result;
      exprs = c.from_vec-4.result;
      stmts = c.from_vec-5.result;
      main = old.main;
    } in
    program_made c.args.tree.now old new types c.in_ok-names.names _ _ c.functions.new.out
    c.in_ok-funs.funs.items
    c.in_ok-funs.ensures c.from_vec-3.ensures
    (λ functions. record {
      program = refl;
      types_are = refl;
      names_are = refl;
      known = c.in_ok-names.ensures;
      follows = subst (λ ts. Follows ts types) c.as_slice.ensures c.in_ok-types.ensures;
      listed = subst (AreListed types.numbers.items types.list.items) (sym c.from_vec.ensures) c.in_ok-list.ensures;
      functions = functions;
      objects =
          subst (λ ns. AreObjects ns old.globals c.from_vec-2.result) c.as_slice-2.ensures.value
          (subst (λ gs. AreObjects c.as_slice-2.result.now gs c.from_vec-2.result) c.as_slice-3.ensures
          (subst (λ zs. AreObjects c.as_slice-2.result.now c.as_slice-3.result.now zs)
          (sym c.from_vec-2.ensures) c.in_ok-objects.ensures));
      literals = refl;
      exprs = c.from_vec-4.ensures;
      stmts = c.from_vec-5.ensures;
      main = refl;
      no_exprs = c.new.ensures.items;
      no_stmts = c.new-2.ensures.items;
    })
    refl
