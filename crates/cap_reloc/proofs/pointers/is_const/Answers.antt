use Rattle.std.proofs.Common.{◌-◌}
use Rattle.obj_mem.specs.Needs.{is_const_within}
use Rattle.cap_reloc.proofs.Consts.{const_step, none_left}
use Rattle.cap_reloc.proofs.pointers.is_const.Goals as goal

pub returns-in-Const : goal.returns-in-Const
returns-in-Const c =
    let types = c.args.p.now.types in
    let step = const_step types c.loop-left.left c.loop-left.at c.loop-left-test.true in
    let level = c.in-Const.ensures (is_const_within (c.loop-left.left - 1) types) in
    cc

pub loop-left-preserved : goal.loop-left-preserved
loop-left-preserved c =
    let types = c.args.p.now.types in
    let step = const_step types c.loop-left.left c.loop-left.at c.loop-left-test.true in
    let level = c.in-Array.ensures (is_const_within (c.loop-left.left - 1) types) in
    cc

pub returns-in-Other : goal.returns-in-Other
returns-in-Other c =
    let types = c.args.p.now.types in
    let step = const_step types c.loop-left.left c.loop-left.at c.loop-left-test.true in
    let level = c.in-Other.ensures (is_const_within (c.loop-left.left - 1) types) in
    cc

pub returns : goal.returns
returns c = let none = none_left c.args.p.now.types c.loop-left.left c.loop-left.at c.loop-left-test.false in cc
