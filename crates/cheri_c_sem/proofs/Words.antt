-- Short words for small programs.
use Rattle.std.specs.Prelude.{ℕ, List, [], ◌∷◌, Some, None, false}
use Rattle.ck_base.specs.World.{World, Outcome}
use Rattle.ck_base.specs.declared.positions.Pos.{Pos}
use Rattle.ck_int.specs.declared.kinds.IntKind.TheVariants as int
use Rattle.ck_int.specs.declared.kinds.IntOp.{IntOp}
use Rattle.ck_int.specs.declared.kinds.CmpOp.{CmpOp}
use Rattle.obj_mem.specs.declared.ending.Ending.{Ending}
use Rattle.obj_mem.specs.declared.map.Map.{Map}
use Rattle.obj_mem.specs.declared.map.Frame.{Frame}
use Rattle.cheri_c_sem.specs.Kinds.{Kind, Plain, Capability}
use Rattle.cheri_c_sem.specs.Tree.{Program, Fun, Parameter, At_end, Gives_zero, St, Do, Block, Return, Sts, Seq, End}
use Rattle.cheri_c_sem.specs.Tree.{Ex, Exs, Nil, Cons, Number, Load, Variable, Local, Library, Put_char, Binary, Whole}
use Rattle.cheri_c_sem.specs.Tree.{Moved, Compare, Deref, Pointer_to}

-- column n of the first line
abbrev pub at : ℕ → Pos
at n = record { line = 1; col = n }

abbrev pub reading : List ℕ → World
reading bytes = record { bytes = bytes; failing_read = None; failing_put = None }

abbrev pub quiet : World
quiet = reading []

-- an outcome that takes no input
abbrev pub out : List ℕ → Ending → Outcome Ending
out output e = record { output = output; taken = 0; ending = e }

abbrev pub i32 : Kind
i32 = Plain int.I32

abbrev pub char : Kind
char = Plain int.U8

abbrev pub pointer : Kind
pointer = Capability false

abbrev pub seq : List St → Sts
seq [] = End
seq (s ∷ ss) = Seq s (seq ss)

abbrev pub block : List St → St
block ss = Block [] (seq ss)

abbrev pub args : List Ex → Exs
args [] = Nil
args (e ∷ es) = Cons e (args es)

abbrev pub put : Ex → Ex
put e = Library (at 1) Put_char (args (e ∷ []))

abbrev pub putting : ℕ → St
putting n = Do (put (Number n))

abbrev pub finish : St
finish = Return (Some (Number 0))

-- variable x, of kind `int` or a pointer, and what is assigned to it
abbrev pub var : ℕ → Ex
var x = Load i32 (Variable (at 2) x)

abbrev pub ptr : ℕ → Ex
ptr x = Load pointer (Variable (at 2) x)

abbrev pub sum : ℕ → IntOp → Ex → Ex → Ex
sum p op a b = Binary (at p) (Whole op int.I32 i32) a b

abbrev pub compare : CmpOp → Ex → Ex → Ex
compare op a b = Compare (at 3) op i32 a b

-- local n decayed to a pointer, and a pointer's element
abbrev pub array : ℕ → Ex
array n = Pointer_to (at 4) None (Local (at 4) n)

abbrev pub element : ℕ → (size : ℕ) → Ex → Ex → Ex
element p size a i = Deref (at p) (Binary (at p) (Moved size false false i32) a i)

-- a function, its result and its parameters
abbrev pub function : ℕ → List Parameter → ℕ → List ℕ → At_end → St → Fun
function p params vars objects at_end body =
    record { name = at p; params = params; vars = vars; objects = objects; at_end = at_end; body = body }

abbrev pub of_functions : List Fun → Program
of_functions funs = record { globals = []; literals = []; funs = funs; main = 0 }

-- a program of `main` alone, with so many variables and objects of these lengths
abbrev pub main : ℕ → List ℕ → List St → Program
main vars objects ss = of_functions (function 5 [] vars objects Gives_zero (block ss) ∷ [])

-- a map: every frame has 128 bytes, with slots at 16, 64 and 96; the stack has room for so many
abbrev frame : Frame
frame = record {
  size = 128;
  align = 16;
  saved = 16;
  slots = record { var = 0; at = 16; length = 40 } ∷ record { var = 1; at = 64; length = 16 }
      ∷ record { var = 2; at = 96; length = 16 } ∷ [];
}

abbrev pub map : Map
map = record {
  text = (65536, 1024);
  entries = 65536 ∷ 65600 ∷ [];
  globals = 131072 ∷ 131136 ∷ [];
  literals = 131200 ∷ [];
  table = (196608, 256);
  heap = (16777216, 16777216);
  stack = (1048576, 65536);
  frames =
      frame ∷ frame ∷ [];
}

-- one whose stack has room for three frames
abbrev pub small_stack : Map
small_stack = record map { stack = (1048576, 400) }
