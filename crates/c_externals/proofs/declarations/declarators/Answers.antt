use Rattle.std.proofs.Common.{◌≤◌, ap, sym, ◌∙◌, arith, length, refl}
use Rattle.std.proofs.lemmas.Result.{err_from_is_err_and}
use Rattle.c_phrases.specs.Got.{in_force}
use Rattle.c_externals.proofs.Declared.{declares_begin, declares_step, declares_fail, declares_end, fails_begin}
use Rattle.c_externals.proofs.Declared.{longer_list}
use Rattle.c_phrases.proofs.Paying.{took, stayed, owed_paid, owed_owed, roomy_paid}
use Rattle.c_externals.proofs.declarations.declarators.Goals as goal

pub returns-in_err-part-clause-tree : goal.returns-in_err-part-clause-tree
returns-in_err-part-clause-tree c =
    λ ys x h m. let p = err_from_is_err_and c.from_residual.result c.from_residual.ensures.1 in rw (p.1, p.2)
    (fails_begin _ ys _ _ _ _ _ _ _ (c.in_err-part.ensures.tree x m))

pub list-init : goal.list-init
list-init c =
    let s = c.in_ok-part.ensures.size in
    record {
      size = s;
      low = let a = c.in_ok-part.ensures.low in let b = c.requires.start in let tall = c.in_ok-push.ensures.size in
          omega arith;
      longer = longer_list _ _ _ c.in_ok-part.ensures.names;
      declares = λ ys x h m. declares_begin h (c.in_ok-part.ensures.tree x m) c.in_ok-part.ensures.names s.shorter
          c.in_ok-push.ensures.kids c.in_ok-push.ensures.size;
    }

pub returns-in_err-part-2-clause-tree : goal.returns-in_err-part-2-clause-tree
returns-in_err-part-2-clause-tree c =
    λ ys x h m. let p = err_from_is_err_and c.from_residual-in_err-part-2.result c.from_residual-in_err-part-2.ensures.1
    in rw (p.1, p.2)
    (declares_fail c.takes.new.self _ (c.list.invariant.declares ys x h m)
    (sym c.takes.ensures.found ∙ c.list-test.true) (c.takes.ensures.taken c.list-test.true)
    (c.takes.ensures.shorter c.list-test.true) c.in_err-part-2.ensures.tree)

pub list-preserved : goal.list-preserved
list-preserved c =
    let s = c.list.invariant.size in
    let room = s.room in let shorter = s.shorter in let grows = s.grows in
    let q = c.in_ok-part-2.ensures.size in
    let room' = q.room in let shorter' = q.shorter in let grows' = q.grows in
    let taken = c.takes.ensures.shorter c.list-test.true in
    let nodes = ap length c.takes.ensures.nodes in
    record {
      size = record { room = omega arith; shorter = omega arith; grows = omega arith };
      low = let a = c.in_ok-part-2.ensures.low in let b = c.list.invariant.low in
          let tall = c.in_ok-push-2.ensures.size in omega arith;
      longer =
          let a : length (in_force c.list.types) ≤ length (in_force c.declarator.new.types) =
          longer_list _ _ _ c.in_ok-part-2.ensures.names in let b = c.list.invariant.longer in omega arith;
      declares = λ ys x h m. declares_step c.takes.new.self (c.list.invariant.declares ys x h m)
          (sym c.takes.ensures.found ∙ c.list-test.true)
          (c.takes.ensures.taken c.list-test.true) taken c.takes.ensures.nodes
          c.in_ok-part-2.ensures.tree c.in_ok-part-2.ensures.names shorter' c.in_ok-push-2.ensures.kids
          c.in_ok-push-2.ensures.size;
    }

pub returns-clause-tree : goal.returns-clause-tree
returns-clause-tree c = λ ys x h m. declares_end _ (c.list.invariant.declares ys x h m)
    (sym c.takes.ensures.found ∙ c.list-test.false) c.takes.ensures.nodes (c.takes.ensures.left c.list-test.false)

pub declarator-requires-clause-room : goal.declarator-requires-clause-room
declarator-requires-clause-room c =
    roomy_paid (owed_paid {m = 7} c.list.invariant.size
    (took c.list.cursor c.takes.new.self c.takes.ensures.nodes (c.takes.ensures.shorter c.list-test.true)) refl)
    c.requires.room

pub returns-clause-size : goal.returns-clause-size
returns-clause-size c =
    owed_owed c.list.invariant.size (stayed c.list.cursor c.takes.new.self c.takes.ensures.nodes
    (c.takes.ensures.left c.list-test.false))
