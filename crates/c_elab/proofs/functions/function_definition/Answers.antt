use Rattle.std.proofs.Common.{List, ℕ, [], ◌∷◌, ap, subst, ◌∙◌}
use Rattle.c_tree.specs.Scopes.{Doing, refuse}
use Rattle.c_elaborator.specs.declared.work.Work.{Work}
use Rattle.c_elab.proofs.Shapes.{from_three, not_three}
use Rattle.c_readings.specs.Within.{PartsWithin}
use Rattle.c_readings.proofs.Within.{first_within, others_within}
use Rattle.c_elab.proofs.functions.function_definition.Goals as goal

pub define-requires : goal.define-requires
define-requires c =
    let u : Work = c.args.work.now in
    let a = c.in-Some.x.first in
    let b = c.in-Some.x.second in
    let d = c.in-Some.x.third in
    let h = subst (λ (ks : List ℕ). PartsWithin u c.args.depth ks) c.in-Some.ensures c.requires.parts in
    let i = others_within u a (b ∷ d ∷ []) h in
    record {
      shown = c.requires.shown;
      whole = c.requires.whole;
      first = first_within u a (b ∷ d ∷ []) h;
      second = first_within u b (d ∷ []) i;
      third = first_within u d [] (others_within u b (d ∷ []) i);
    }

pub returns-in-None : goal.returns-in-None
returns-in-None c = λ t xs e a s h. ap (λ (d : Doing Unit). d s)
    (not_three c.args.work.now c.args.kids.now t xs c.in-None.ensures a)
    ∙ ap (λ p. (let d : Doing Unit = refuse 120 p in d) s) e

pub returns-in-Some : goal.returns-in-Some
returns-in-Some c = λ t xs e a.
    from_three c.args.work.now c.define.new.work c.args.kids.now c.in-Some.x.first c.in-Some.x.second c.in-Some.x.third
    c.define.result c.in-Some.ensures c.define.ensures t xs a
