use Rattle.std.proofs.lemmas.Result.{err_from_is_err_and}
use Rattle.c_tree.specs.Programs.{parts, beginning}
use Rattle.c_elaborator.specs.declared.work.Work.{Work}
use Rattle.c_elab.proofs.Externals.{elaborated, elaboration_fails, root_is, root_parts, syntax_is}
use Rattle.c_elab.proofs.Settled.{typed_end}
use Rattle.c_readings.proofs.Within.{kids_low, part_there}
use Rattle.c_elab.proofs.elaboration.elab.Goals as goal

pub greatest_depth-depth-requires : goal.greatest_depth-depth-requires
greatest_depth-depth-requires c = rw c.in_ok-work.ensures.tree c.requires.few

pub all_externals-requires : goal.all_externals-requires
all_externals-requires c =
    let w : Work = c.in_ok-work.work in
    let h = c.requires.readable in
    let p = root_is w c.args.tree.now c.args.file.now h.syntax c.in_ok-work.ensures.tree c.in_ok-work.ensures.file
    h.reads in
    record {
      shown = record { state = beginning; shows = c.in_ok-work.ensures.shows };
      whole = c.in_ok-work.ensures.whole;
      parts = rw c.as_slice.ensures (kids_low w c.args.tree.now.root c.node_at-root.result.now
          (c.greatest_depth-depth.ensures c.args.tree.now.root h.syntax p) c.node_at-root.ensures);
    }

pub node_at-root-requires : goal.node_at-root-requires
node_at-root-requires c =
    let w : Work = c.in_ok-work.work in
    let h = c.requires.readable in
    let p = root_is w c.args.tree.now c.args.file.now h.syntax c.in_ok-work.ensures.tree c.in_ok-work.ensures.file
    h.reads in
    part_there w c.args.tree.now.root (c.greatest_depth-depth.ensures c.args.tree.now.root h.syntax p)

pub finish-requires : goal.finish-requires
finish-requires c =
    let w : Work = c.in_ok-work.work in
    let h = c.requires.readable in
    let p = root_is w c.args.tree.now c.args.file.now h.syntax c.in_ok-work.ensures.tree c.in_ok-work.ensures.file
    h.reads in
    let a = c.in_ok-all_externals.ensures (parts h.syntax)
    (rw c.as_slice.ensures (root_parts w c.args.tree.now.root h.syntax c.node_at-root.result.now p
    c.node_at-root.ensures)) in
    let m = a.gives beginning c.in_ok-work.ensures.shows in
    record {
      whole = a.whole;
      shown = record {
        state = m.state;
        shows = m.shows;
        typed = typed_end c.args.tree.now c.args.file.now h.syntax m.value m.state h.reads m.is;
      };
      syntax = record {
        syntax = h.syntax;
        stands = syntax_is w c.all_externals.new.work c.args.tree.now h.syntax c.in_ok-work.ensures.tree
            a.grows.tree h.reads.stands;
      };
    }

pub returns-in_err-all_externals : goal.returns-in_err-all_externals
returns-in_err-all_externals c =
    let f = c.from_residual-in_err-all_externals in
    let q = err_from_is_err_and f.result f.ensures.1 in λ x r.
    let w : Work = c.in_ok-work.work in
    let p = root_is w c.args.tree.now c.args.file.now x c.in_ok-work.ensures.tree c.in_ok-work.ensures.file r in
    rw (q.1, q.2) (elaboration_fails x w c.all_externals.new.work _ c.in_ok-work.ensures.shows
    (c.in_err-all_externals.ensures (parts x)
    (rw c.as_slice.ensures (root_parts w c.args.tree.now.root x c.node_at-root.result.now p c.node_at-root.ensures))))

pub returns : goal.returns
returns c = λ x r.
    let w : Work = c.in_ok-work.work in
    let p = root_is w c.args.tree.now c.args.file.now x c.in_ok-work.ensures.tree c.in_ok-work.ensures.file r in
    let a = c.in_ok-all_externals.ensures (parts x)
    (rw c.as_slice.ensures (root_parts w c.args.tree.now.root x c.node_at-root.result.now p c.node_at-root.ensures))
    in
    let m = a.gives beginning c.in_ok-work.ensures.shows in
    elaborated x m.state m.value c.finish.result m.is
    (c.finish.ensures m.state x m.shows (syntax_is w c.all_externals.new.work c.args.tree.now x
    c.in_ok-work.ensures.tree a.grows.tree r.stands))
