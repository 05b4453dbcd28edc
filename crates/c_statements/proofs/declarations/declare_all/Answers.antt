use Rattle.std.proofs.lemmas.Result.{err_from_is_err_and}
use Rattle.std.proofs.Common.{◌≡◌, Some, None, List, ℕ, [], ◌∷◌, Ok, Err, refl, sym, ap, subst, ◌∙◌}
use Rattle.c_tree.specs.Readings as meant
use Rattle.c_tree.specs.Readings.{Reading}
use Rattle.c_tree.specs.Declarations.{declare_all}
use Rattle.c_tree.specs.Programs.{reading, readings}
use Rattle.c_elaborator.specs.declared.work.Work.{Work}
use Rattle.c_elaborator.proofs.Sequencing.{keeps_same, keeps_then, type_there}
use Rattle.c_statements.specs.Gather.{SoFar}
use Rattle.c_statements.proofs.Gather.{declare_all_is, so_far_begins, so_far_ends, so_far_fails, so_far_steps}
use Rattle.c_statements.proofs.Standing.{specified_kept, some_specified, is_some_specified}
use Rattle.c_readings.specs.Within.{PartsWithin}
use Rattle.c_readings.proofs.Within.{first_within, others_within, within_kept}
use Rattle.c_statements.proofs.declarations.declare_all.Goals as goal

pub loop-part-init : goal.loop-part-init
loop-part-init c =
    let u : Work = c.args.work.now in
    record {
      whole = c.requires.whole;
      keeps = keeps_same u;
      parts = c.requires.parts;
      found = λ y xs hy p. so_far_begins (λ r. r.declared y) u c.args.kids.now c.no_items-items.result c.requires.whole
          c.no_items-items.ensures.vars c.no_items-items.ensures.actions xs p;
    }

pub declared-requires : goal.declared-requires
declared-requires c =
    let u : Work = c.args.work.now in
    let v : Work = c.loop-part.work in
    let i = c.loop-part.invariant in
    record {
      whole = i.whole;
      specified = type_there u v c.args.s.of i.keeps c.requires.specified;
      part = first_within v c.in-Some.part.first c.in-Some.part.others.now
          (subst (λ (z : List ℕ). PartsWithin v c.args.depth z) c.in-Some.ensures i.parts);
    }

pub loop-part-preserved : goal.loop-part-preserved
loop-part-preserved c =
    let u : Work = c.args.work.now in
    let v : Work = c.loop-part.work in
    let w : Work = c.declared.new.work in
    let s = c.args.s in
    let i = c.loop-part.invariant in
    let k = c.in-Some.part.first in
    let ks = c.in-Some.part.others.now in
    let h = subst (λ (z : List ℕ). PartsWithin v c.args.depth z) c.in-Some.ensures i.parts in
    let f = first_within v k ks h in
    let a = c.in_ok-more.ensures (some_specified v s) f.syntax (is_some_specified v s) f.is in
    record {
      whole = a.whole;
      keeps = keeps_then u v w i.keeps a.grows;
      parts = within_kept v w ks a.grows (others_within v k ks h);
      found = λ y xs hy p. so_far_steps (λ r. r.declared y) u v w xs k ks c.loop-part.items c.in_ok-more.more
          c.join.new.items
          (subst (λ (z : List ℕ). SoFar (λ r. r.declared y) u v xs z c.loop-part.items) c.in-Some.ensures
          (i.found y xs hy p))
          (λ x q. c.in_ok-more.ensures y x (specified_kept u v s y i.keeps c.requires.specified hy) q)
          c.in_ok-join.ensures.vars c.in_ok-join.ensures.actions;
    }

pub returns : goal.returns
returns c = λ y xs hy p.
    let u : Work = c.args.work.now in
    let v : Work = c.loop-part.work in
    rw (declare_all_is y (readings xs)) (so_far_ends (λ r. r.declared y) u v xs c.loop-part.items
    (subst (λ (z : List ℕ). SoFar (λ r. r.declared y) u v xs z c.loop-part.items) c.in_default.ensures
    (c.loop-part.invariant.found y xs hy p)))

pub returns-in_err-more : goal.returns-in_err-more
returns-in_err-more c = let e = err_from_is_err_and c.from_residual.result c.from_residual.ensures.1 in λ y xs hy p.
    let u : Work = c.args.work.now in
    let v : Work = c.loop-part.work in
    rw (declare_all_is y (readings xs)) (rw (e.1, e.2)
    (so_far_fails (λ r. r.declared y) u v c.declared.new.work xs c.in-Some.part.first c.in-Some.part.others.now
    c.loop-part.items _
    (subst (λ (z : List ℕ). SoFar (λ r. r.declared y) u v xs z c.loop-part.items) c.in-Some.ensures
    (c.loop-part.invariant.found y xs hy p))
    (λ x q. c.in_err-more.ensures y x (specified_kept u v c.args.s y c.loop-part.invariant.keeps c.requires.specified
    hy) q)))
