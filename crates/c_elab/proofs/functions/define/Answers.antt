use Rattle.std.proofs.lemmas.Result.{err_from_is_err_and}
use Rattle.std.proofs.Common.{false, Ok}
use Rattle.c_tree.specs.Readings as meant
use Rattle.c_tree.specs.Scopes.{Doing, ◌>>=◌}
use Rattle.c_tree.specs.Programs.{reading, define_named}
use Rattle.c_elaborator.specs.declared.work.Work.{Work}
use Rattle.c_elaborator.specs.Answers.{freely, NothingThere, IsNothing}
use Rattle.c_elaborator.proofs.Sequencing.{free_law, freed, keeps_then, type_there}
use Rattle.c_declarators.specs.Parts.{SpecifiedThere, IsSpecified, in_any, DerivedThere, ShowsDerived}
use Rattle.c_readings.proofs.Kids.{part_kept}
use Rattle.c_elaborator.proofs.Shown.{then_for}
use Rattle.c_statements.proofs.Following.{for_each}
use Rattle.c_statements.proofs.Standing.{specified_kept, some_specified, is_some_specified}
use Rattle.c_elab.proofs.Shapes.{unspecified, underived}
use Rattle.c_readings.proofs.Within.{still_within}
use Rattle.c_elab.proofs.functions.define.Goals as goal

pub derived-requires : goal.derived-requires
derived-requires c =
    let u : Work = c.args.work.now in
    let v : Work = c.specified.new.work in
    let a = c.in_ok-s.ensures c.requires.first.syntax c.requires.first.is in
    record { whole = a.whole; part = still_within u v c.args.declarator a.grows.keeps c.requires.second }

pub define_named-requires : goal.define_named-requires
define_named-requires c =
    let u : Work = c.args.work.now in
    let v : Work = c.specified.new.work in
    let w : Work = c.derived.new.work in
    let a = c.in_ok-s.ensures c.requires.first.syntax c.requires.first.is in
    let p = still_within u v c.args.declarator a.grows.keeps c.requires.second in
    let b = c.in_ok-d.ensures p.syntax p.is in
    let h = c.requires.shown in
    let m = a.gives h.state h.shows in
    let n = b.gives m.state m.shows in
    record {
      shown = record { state = n.state; shows = n.shows };
      whole = b.whole;
      specified = type_there v w c.in_ok-s.s.of b.grows.keeps a.there;
      derived = b.there;
      part =
          still_within u w c.args.block (keeps_then u v w a.grows.keeps b.grows.keeps) c.requires.third;
    }

pub returns-in_err-s : goal.returns-in_err-s
returns-in_err-s c = let q = err_from_is_err_and c.from_residual.result c.from_residual.ensures.1 in λ x y z hx hy hz.
    let u : Work = c.args.work.now in
    let v : Work = c.specified.new.work in
    rw (q.1, q.2) (unspecified u v v x y z _ (c.in_err-s.ensures x hx))

pub returns-in_err-d : goal.returns-in_err-d
returns-in_err-d c = let q = err_from_is_err_and c.from_residual-in_err-d.result c.from_residual-in_err-d.ensures.1 in
    λ x y z hx hy hz.
    let u : Work = c.args.work.now in
    let v : Work = c.specified.new.work in
    let w : Work = c.derived.new.work in
    let a = c.in_ok-s.ensures x hx in
    rw (q.1, q.2) (underived u v w w x y z c.in_ok-s.s _ a
    (c.in_err-d.ensures y (part_kept u v c.args.declarator y a.grows.keeps hy)))

pub returns : goal.returns
returns c = λ x y z hx hy hz.
    let u : Work = c.args.work.now in
    let v : Work = c.specified.new.work in
    let w : Work = c.derived.new.work in
    let o : Work = c.define_named.new.work in
    let s = c.in_ok-s.s in
    let m = c.in_ok-d.d in
    let d = (reading x).specified false in
    let a = c.in_ok-s.ensures x hx in
    let b = c.in_ok-d.ensures y (part_kept u v c.args.declarator y a.grows.keeps hy) in
    let rest : meant.Specified → Doing Unit = λ t. (reading y).derived >>= λ e. define_named t e e.name z (reading z) in
    then_for freely free_law u v o d rest (SpecifiedThere v s)
    (in_any IsSpecified v s) NothingThere IsNothing c.define_named.result
    (freed u v d SpecifiedThere (in_any IsSpecified) (Ok s) a)
    (for_each freely v o (in_any IsSpecified v s) (IsSpecified v s) rest NothingThere IsNothing c.define_named.result
    (some_specified v s) (is_some_specified v s) (λ st t h. h)
    (λ t h. then_for freely free_law v w o (reading y).derived (λ e. define_named t e e.name z (reading z))
    (DerivedThere w m) (ShowsDerived w m) NothingThere IsNothing c.define_named.result
    (freed v w (reading y).derived DerivedThere ShowsDerived (Ok m) b)
    (c.define_named.ensures t z (specified_kept v w s t b.grows.keeps a.there h)
    (part_kept u w c.args.block z (keeps_then u v w a.grows.keeps b.grows.keeps) hz))))
