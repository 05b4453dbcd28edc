use Rattle.std.proofs.Common.{◌≡◌, ℕ, true, ◌^◌, ◌<◌, length, Result, Ok, Err, Some}
use Rattle.std.specs.Prelude.{IfOk, slice_get}
use Rattle.c_tree.specs.Typing.{Sound}
use Rattle.c_tree.specs.declared.typed.Typed.{Typed}
use Rattle.lower_runs.specs.Programs.{IsProgram}
use Rattle.tac_ir.specs.WellFormed.{is_well_formed}
use Rattle.tac_ir.specs.Within.{Within}
use Rattle.tac_ir.specs.declared.code.Tac.{Tac}
use Rattle.tac_ir.specs.declared.code.TacFun.{TacFun}
use Rattle.tac_lower.specs.Programs.{Standing}
use Rattle.tac_lower.specs.Runs.{RunsAs}
use Rattle.tac_lower.proofs.Sound.{functions_typed, listed, ordered, stands}
use Rattle.typed_build.specs.Coded.{IsCode}
use Rattle.typed_build.proofs.whole.code_of.Goals as goal

pub lower-requires : goal.lower-requires
lower-requires c =
    let p = c.args.p.now in
    let sound = c.requires.sound in
    record {
      ordered = ordered p sound;
      listed = listed p sound;
      typed = functions_typed p sound;
      light = c.requires.light;
    }

lowered : {E : Type 0} (p : Typed) → Sound p → (r : Result Tac E) → IfOk r (λ t. is_well_formed t p ≡ true)
    → IfOk r (λ t. Standing p → IsProgram p t) → IfOk r (λ t. Sound p → Within t p) → IfOk r (λ t. Sound p → RunsAs p t)
    → IfOk r (λ t. (k : ℕ) (f : TacFun) → slice_get t.funs k ≡ Some f → length f.code < 2 ^ 32) → IfOk r (IsCode p)
lowered p sound (Ok t) formed is within same short = record {
  formed = formed;
  within = within sound;
  is = is (stands p sound);
  same = same sound;
  short = short;
}
lowered p sound (Err e) formed is within same short = tt

pub returns : goal.returns
returns c =
    let given = c.lower.ensures in
    lowered c.args.p.now c.requires.sound c.lower.result given.formed given.is given.within given.same given.short
