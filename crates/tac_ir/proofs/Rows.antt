-- Small pieces of three-address code, computed.
use Rattle.std.specs.Prelude.{◌≡◌, ℕ, true, false, List, [], ◌∷◌, Some, None, refl}
use Rattle.ck_base.specs.World.{World, Outcome}
use Rattle.ck_base.specs.declared.positions.Pos.{Pos}
use Rattle.ck_base.specs.declared.positions.Span.{Span}
use Rattle.ck_int.specs.declared.kinds.IntKind.TheVariants as int
use Rattle.ck_int.specs.declared.kinds.IntOp.TheVariants as op
use Rattle.ck_int.specs.declared.kinds.CmpOp.TheVariants as cmp
use Rattle.ck_int.specs.Arithmetic.{binary_of, compare_of}
use Rattle.ck_int.specs.Kinds.{wrapped, value_of, reduced, kept_of}
use Rattle.cap_concentrate.specs.Decoding.{exponent, mantissa, whole_top, high, placed, corrected, base_of, top_of}
use Rattle.cap_concentrate.specs.Encoding.{length_exponent, encoded_internal, encoded_t, encoded_b}
use Rattle.cap_concentrate.specs.Rounding.{first_from, alignment, owned}
use Rattle.obj_mem.specs.Pointers.{keeps}
use Rattle.cap_ops.specs.declared.access.Cause.TheVariants as cause
use Rattle.c_tree.specs.Layout.{bare_within, extent_within, members}
use Rattle.c_tree.specs.declared.typed.CType.TheVariants as types
use Rattle.c_tree.specs.declared.typed.FunDef.{FunDef}
use Rattle.c_tree.specs.declared.typed.Typed.{Typed}
use Rattle.c_tree.specs.declared.typed.VarDef.{VarDef}
use Rattle.obj_mem.specs.declared.ending.Ending.{Ending}
use Rattle.obj_mem.specs.declared.ending.Ending.TheVariants as ending
use Rattle.obj_mem.specs.declared.map.Frame.{Frame}
use Rattle.obj_mem.specs.declared.map.Map.{Map}
use Rattle.obj_mem.specs.Access.{load, store}
use Rattle.cheri_c_sem.specs.Calls.{start}
use Rattle.cheri_c_sem.specs.Expressions.{expr_tree}
use Rattle.cheri_c_sem.specs.Modes.{operations}
use Rattle.cheri_c_sem.specs.Programs.{program_tree, stmt_tree}
use Rattle.tac_ir.specs.Meaning.{fate, tac}
use Rattle.tac_ir.specs.WellFormed.{is_well_formed}
use Rattle.tac_ir.specs.declared.code.Amount.TheVariants as amount
use Rattle.tac_ir.specs.declared.code.LibOp.TheVariants as lib
use Rattle.tac_ir.specs.declared.code.Tac.{Tac}
use Rattle.tac_ir.specs.declared.code.TacInstr.{TacInstr}
use Rattle.tac_ir.specs.declared.code.TacInstr.TheVariants as instr
use Rattle.tac_ir.specs.declared.code.TacKind.{TacKind}
use Rattle.tac_ir.specs.declared.code.TacKind.TheVariants as kind

abbrev at : ℕ → Pos
at n = record { line = 1; col = n }

abbrev unnamed : Span
unnamed = record { start = 0; end = 0 }

abbrev quiet : World
quiet = record { bytes = []; failing_read = None; failing_put = None }

abbrev out : List ℕ → Ending → Outcome Ending
out output e = record { output = output; taken = 0; ending = e }

abbrev i32 : TacKind
i32 = kind.Int int.I32

-- ---- programs: type 0 is `int`, type 1 `int(void)`, type 2 `int(int)` and type 3 `int[2]`; their bodies don't matter
-- here
abbrev def : ℕ → ℕ → List ℕ → List VarDef → FunDef
def pos of params vars = record { name = unnamed; pos = at pos; of = of; params = params; vars = vars; body = 0 }

abbrev int_var : VarDef
int_var = record { name = unnamed; pos = at 0; of = 0; simple = true }

abbrev array_var : VarDef
array_var = record { name = unnamed; pos = at 0; of = 3; simple = false }

abbrev of_funs : List FunDef → Typed
of_funs fs = record {
  types = types.Int int.I32 0 ∷ types.Function 0 [] ∷ types.Function 0 (0 ∷ []) ∷ types.Array 0 2
      ∷ [];
  globals = [];
  literals = [];
  funs = fs;
  exprs = [];
  stmts = [];
  main = 0;
}

abbrev alone : Typed
alone = of_funs (def 5 1 [] [] ∷ [])

abbrev main_code : ℕ → List TacKind → List TacInstr → Tac
main_code temps kinds code =
    record { funs = record { name = at 5; params = 0; temps = temps; kinds = kinds; code = code } ∷ [] }

abbrev frame : Frame
frame = record { size = 128; align = 16; saved = 16; slots = record { var = 0; at = 16; length = 8 } ∷ [] }

abbrev map : Map
map = record {
  text = (65536, 1024);
  entries = 65536 ∷ 65600 ∷ [];
  globals = [];
  literals = [];
  table = (196608, 256);
  heap = (16777216, 16777216);
  stack = (1048576, 400);
  frames = frame ∷ frame ∷ [];
}

-- putchar(72);putchar(105);return 0;
abbrev greets : Tac
greets = main_code 1 (i32 ∷ []) (instr.Const 0 i32 72 ∷ instr.Lib lib.PutChar None (0 ∷ []) ∷ instr.Const 0 i32 105
    ∷ instr.Lib lib.PutChar None (0 ∷ []) ∷ instr.Const 0 i32 0 ∷ instr.Return (Some 0) ∷ [])

greets_runs : tac greets alone map quiet 0 ≡ out (72 ∷ 105 ∷ []) (ending.Exit 0)
unfolding fate start operations program_tree stmt_tree expr_tree bare_within
greets_runs = refl

greets_fits : is_well_formed greets alone ≡ true
unfolding is_well_formed bare_within wrapped reduced kept_of
greets_fits = refl

-- for(i=0;i<3;i=i+1)putchar(65+i); a branch ahead, and a turn before the jump back
abbrev counts : Tac
counts = main_code 4 (i32 ∷ i32 ∷ i32 ∷ i32 ∷ [])
    (instr.Const 0 i32 0 ∷ instr.Const 1 i32 1 ∷ instr.Label 0 ∷ instr.Const 2 i32 3 ∷ instr.Cmp cmp.Lt i32 2 0 2
    ∷ instr.Branch 2 false 1
    ∷ instr.Const 3 i32 65 ∷ instr.Int op.Add int.I32 3 3 0 ∷ instr.Lib lib.PutChar (Some 3) (3 ∷ [])
    ∷ instr.Int op.Add int.I32 0 0 1 ∷ instr.Turn ∷ instr.Jump 0
    ∷ instr.Label 1 ∷ instr.Const 2 i32 0 ∷ instr.Return (Some 2) ∷ [])

counts_runs : tac counts alone map quiet 3 ≡ out (65 ∷ 66 ∷ 67 ∷ []) (ending.Exit 0)
unfolding fate start operations program_tree stmt_tree expr_tree bare_within binary_of compare_of wrapped value_of
    reduced kept_of
counts_runs = refl

counts_turns : tac counts alone map quiet 2 ≡ out (65 ∷ 66 ∷ 67 ∷ []) ending.Turns
unfolding fate start operations program_tree stmt_tree expr_tree bare_within binary_of compare_of wrapped value_of
    reduced kept_of
counts_turns = refl

counts_fits : is_well_formed counts alone ≡ true
unfolding is_well_formed bare_within wrapped reduced kept_of
counts_fits = refl

-- without its turn it is not well formed
no_turn : is_well_formed (main_code 1 (i32 ∷ []) (instr.Label 0 ∷ instr.Jump 0 ∷ [])) alone ≡ false
unfolding is_well_formed bare_within wrapped reduced kept_of
no_turn = refl

-- int f(int n){putchar(46);return f(n);}int main(void){return f(0);}
abbrev deep : Tac
deep = record {
  funs =
      record {
        name = at 5;
        params = 0;
        temps = 1;
        kinds = i32 ∷ [];
        code = instr.Const 0 i32 0 ∷ instr.Call (Some 0) 1 (0 ∷ []) ∷ instr.Return (Some 0) ∷ [];
      }
      ∷ record {
        name = at 7;
        params = 1;
        temps = 2;
        kinds = i32 ∷ i32 ∷ [];
        code = instr.Const 1 i32 46 ∷ instr.Lib lib.PutChar None (1 ∷ []) ∷ instr.Call (Some 0) 1 (0 ∷ [])
            ∷ instr.Return (Some 0) ∷ [];
      }
      ∷ [];
}

abbrev two : Typed
two = of_funs (def 5 1 [] [] ∷ def 7 2 (0 ∷ []) (int_var ∷ []) ∷ [])

-- three frames fit
deep_runs : tac deep two map quiet 10 ≡ out (46 ∷ 46 ∷ []) (ending.Stack (at 7))
unfolding fate start operations program_tree stmt_tree expr_tree bare_within
deep_runs = refl

-- the turn of a call comes before its frame
deep_turns : tac deep two map quiet 2 ≡ out (46 ∷ 46 ∷ []) ending.Turns
unfolding fate start operations program_tree stmt_tree expr_tree bare_within
deep_turns = refl

deep_fits : is_well_formed deep two ≡ true
unfolding is_well_formed bare_within wrapped reduced kept_of
deep_fits = refl

-- int a[2];a[1]=7;return a[1]+a[2]; the third element is outside
abbrev cap : TacKind
cap = kind.Cap false

abbrev array : Tac
array = main_code 4 (cap ∷ cap ∷ i32 ∷ cap ∷ [])
    (instr.Zero 0 ∷ instr.Local 0 0 ∷ instr.Offset 1 0 (amount.Number 4) ∷ instr.Const 2 i32 7
    ∷ instr.Store 1 2 i32 (at 20) ∷ instr.Load 2 1 i32 (at 30) ∷ instr.Lib lib.PutChar None (2 ∷ [])
    ∷ instr.Offset 3 0 (amount.Number 8) ∷ instr.Load 2 3 i32 (at 40) ∷ instr.Return (Some 2) ∷ [])

abbrev with_array : Typed
with_array = of_funs (def 5 1 [] (array_var ∷ []) ∷ [])

array_runs : tac array with_array map quiet 0 ≡ out (7 ∷ []) (ending.Trap cause.Bounds (at 40))
unfolding fate start operations program_tree stmt_tree expr_tree bare_within extent_within members load store owned
    alignment first_from wrapped value_of reduced kept_of keeps encoded_internal encoded_t encoded_b length_exponent
    base_of top_of placed corrected exponent mantissa whole_top high
array_runs = refl

array_fits : is_well_formed array with_array ≡ true
unfolding is_well_formed bare_within extent_within wrapped reduced kept_of
array_fits = refl
