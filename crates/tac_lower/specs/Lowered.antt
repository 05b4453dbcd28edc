-- What lowered programs keep of typed ones.
use Rattle.std.specs.Prelude.{List, map}
use Rattle.ck_base.specs.declared.positions.Pos.{Pos}
use Rattle.c_tree.specs.declared.typed.FunDef.{FunDef}
use Rattle.tac_ir.specs.declared.code.TacFun.{TacFun}

-- the positions of functions' names, in the order of the functions
abbrev pub names_of : List TacFun → List Pos
names_of fs = map (λ (f : TacFun). f.name) fs

abbrev pub names_in : List FunDef → List Pos
names_in ds = map (λ (d : FunDef). d.pos) ds
