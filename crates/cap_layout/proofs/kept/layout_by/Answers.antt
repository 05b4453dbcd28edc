use Rattle.c_tree.specs.Layout.{extent}
use Rattle.cap_layout.specs.Walks.{shape_extent}
use Rattle.cap_layout.proofs.Found.{all_by}
use Rattle.cap_layout.proofs.kept.layout_by.Goals as goal

pub returns : goal.returns
returns c =
    let go = extent c.args.k.types.now in
    all_by c.args.k.types.now c.args.t (shape_extent c.shape_at.result go) c.shape_layout.result
    (c.shape_at.ensures.is go) c.shape_layout.ensures
