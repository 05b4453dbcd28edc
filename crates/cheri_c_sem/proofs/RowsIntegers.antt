-- Programs over integers, computed in both modes.
use Rattle.std.specs.Prelude.{◌≡◌, true, false, [], ◌∷◌, Some, None, refl}
use Rattle.ck_base.specs.World.{World}
use Rattle.ck_int.specs.declared.kinds.IntKind.TheVariants as int
use Rattle.ck_int.specs.declared.kinds.IntOp.TheVariants as op
use Rattle.ck_int.specs.declared.kinds.CmpOp.TheVariants as cmp
use Rattle.ck_int.specs.Arithmetic.{binary_of, compare_of}
use Rattle.ck_int.specs.Kinds.{wrapped, value_of, reduced, kept_of, converted}
use Rattle.cap_concentrate.specs.Rounding.{first_from, alignment, owned}
use Rattle.obj_mem.specs.declared.ending.Ending.TheVariants as ending
use Rattle.obj_mem.specs.declared.ending.Reason.TheVariants as reason
use Rattle.obj_mem.specs.Access.{load, store, copy_unit}
use Rattle.cheri_c_sem.specs.Tree.{Program, In_variable, Gives_zero, Gives_nothing, Lacks, Simple, Case, Default, Do}
use Rattle.cheri_c_sem.specs.Tree.{Give, If, While, Do_while, For, Switch, Break, Continue, Return, Empty, Number, Load}
use Rattle.cheri_c_sem.specs.Tree.{Pointer_to, Unary, Negative, Whole, And, Or, Assign, Compound, Call, Library}
use Rattle.cheri_c_sem.specs.Tree.{Get_char, Exit, Variable, Function}
use Rattle.cheri_c_sem.specs.Calls.{start, fate}
use Rattle.cheri_c_sem.specs.Modes.{operations}
use Rattle.cheri_c_sem.specs.Runs.{placed_run, strict_run}
use Rattle.cheri_c_sem.proofs.Words.{at, reading, quiet, out, i32, char, seq, block, args, put, putting, finish, var}
use Rattle.cheri_c_sem.proofs.Words.{sum, compare, function, of_functions, main, map, small_stack}

-- putchar(72);putchar(105);return 0;
abbrev greets : Program
greets = main 0 [] (putting 72 ∷ putting 105 ∷ finish ∷ [])

greets_placed : placed_run greets map quiet 10 ≡ out (72 ∷ 105 ∷ []) (ending.Exit 0)
unfolding fate start operations load store copy_unit owned alignment first_from binary_of compare_of converted wrapped
    value_of reduced kept_of
greets_placed = refl

greets_strict : strict_run greets quiet 10 ≡ out (72 ∷ 105 ∷ []) (ending.Exit 0)
unfolding fate start operations load store copy_unit owned alignment first_from binary_of compare_of converted wrapped
    value_of reduced kept_of
greets_strict = refl

abbrev second_put_fails : World
second_put_fails = record { bytes = []; failing_read = None; failing_put = Some 2 }

-- a put that fails is the last
greets_fails : placed_run greets map second_put_fails 10 ≡ out (72 ∷ []) ending.WriteFault
unfolding fate start operations load store copy_unit owned alignment first_from binary_of compare_of converted wrapped
    value_of reduced kept_of
greets_fails = refl

-- return 300;
abbrev exits : Program
exits = main 0 [] (Return (Some (Number 300)) ∷ [])

exits_placed : placed_run exits map quiet 10 ≡ out ([]) (ending.Exit 44)
unfolding fate start operations load store copy_unit owned alignment first_from binary_of compare_of converted wrapped
    value_of reduced kept_of
exits_placed = refl

exits_strict : strict_run exits quiet 10 ≡ out ([]) (ending.Exit 44)
unfolding fate start operations load store copy_unit owned alignment first_from binary_of compare_of converted wrapped
    value_of reduced kept_of
exits_strict = refl

-- exit(3) before anything else
abbrev leaves : Program
leaves = main 0 [] (Do (Library (at 9) Exit (args (Number 3 ∷ []))) ∷ putting 65 ∷ [])

leaves_placed : placed_run leaves map quiet 10 ≡ out ([]) (ending.Exit 3)
unfolding fate start operations load store copy_unit owned alignment first_from binary_of compare_of converted wrapped
    value_of reduced kept_of
leaves_placed = refl

leaves_strict : strict_run leaves quiet 10 ≡ out ([]) (ending.Exit 3)
unfolding fate start operations load store copy_unit owned alignment first_from binary_of compare_of converted wrapped
    value_of reduced kept_of
leaves_strict = refl

-- int a=7,z=0;if(a/z==-1)putchar(65);return 0; by zero the quotient is -1, and C leaves it undefined
abbrev divides : Program
divides = main 2 [] (Give 0 (Number 7) ∷ Give 1 (Number 0)
    ∷ If (at 20) i32 (compare cmp.Eq (sum 25 op.Div (var 0) (var 1)) (Unary (at 30) Negative i32 (Number 1)))
    (putting 65) Empty ∷ finish ∷ [])

divides_placed : placed_run divides map quiet 10 ≡ out (65 ∷ []) (ending.Exit 0)
unfolding fate start operations load store copy_unit owned alignment first_from binary_of compare_of converted wrapped
    value_of reduced kept_of
divides_placed = refl

divides_strict : strict_run divides quiet 10 ≡ out ([]) (ending.Unspecified reason.Undefined (at 25))
unfolding fate start operations load store copy_unit owned alignment first_from binary_of compare_of converted wrapped
    value_of reduced kept_of
divides_strict = refl

-- the greatest int plus 1 is the least one
abbrev wraps : Program
wraps = main 0 [] (If (at 20) i32 (compare cmp.Lt (sum 25 op.Add (Number 2147483647) (Number 1)) (Number 0))
    (putting 65) Empty ∷ finish ∷ [])

wraps_placed : placed_run wraps map quiet 10 ≡ out (65 ∷ []) (ending.Exit 0)
unfolding fate start operations load store copy_unit owned alignment first_from binary_of compare_of converted wrapped
    value_of reduced kept_of
wraps_placed = refl

wraps_strict : strict_run wraps quiet 10 ≡ out ([]) (ending.Unspecified reason.Undefined (at 25))
unfolding fate start operations load store copy_unit owned alignment first_from binary_of compare_of converted wrapped
    value_of reduced kept_of
wraps_strict = refl

-- for(i=0;i<3;i=i+1)putchar(65+i);
abbrev counts : Program
counts = main 1 [] (For (Simple 0 ∷ []) (seq (Give 0 (Number 0) ∷ []))
    (Some (at 11, i32, compare cmp.Lt (var 0) (Number 3)))
    (Some (Assign i32 (Variable (at 12) 0) (sum 13 op.Add (var 0) (Number 1))))
    (Do (put (sum 14 op.Add (Number 65) (var 0)))) ∷ finish ∷ [])

counts_placed : placed_run counts map quiet 3 ≡ out (65 ∷ 66 ∷ 67 ∷ []) (ending.Exit 0)
unfolding fate start operations load store copy_unit owned alignment first_from binary_of compare_of converted wrapped
    value_of reduced kept_of
counts_placed = refl

counts_strict : strict_run counts quiet 3 ≡ out (65 ∷ 66 ∷ 67 ∷ []) (ending.Exit 0)
unfolding fate start operations load store copy_unit owned alignment first_from binary_of compare_of converted wrapped
    value_of reduced kept_of
counts_strict = refl

-- the third turn comes after the third step
counts_turns : placed_run counts map quiet 2 ≡ out (65 ∷ 66 ∷ 67 ∷ []) ending.Turns
unfolding fate start operations load store copy_unit owned alignment first_from binary_of compare_of converted wrapped
    value_of reduced kept_of
counts_turns = refl

-- while(1){}
abbrev forever : Program
forever = main 0 [] (While (at 1) i32 (Number 1) (block []) ∷ [])

forever_placed : placed_run forever map quiet 1000 ≡ out ([]) (ending.Turns)
unfolding fate start operations load store copy_unit owned alignment first_from binary_of compare_of converted wrapped
    value_of reduced kept_of
forever_placed = refl

forever_strict : strict_run forever quiet 1000 ≡ out ([]) (ending.Turns)
unfolding fate start operations load store copy_unit owned alignment first_from binary_of compare_of converted wrapped
    value_of reduced kept_of
forever_strict = refl

-- do { i=i+1; if(i==2)continue; putchar(i); } while(i<3);
abbrev repeats : Program
repeats = main 1 [] (Give 0 (Number 0) ∷ Do_while (at 9) i32
    (block (Do (Assign i32 (Variable (at 2) 0) (sum 13 op.Add (var 0) (Number 1)))
    ∷ If (at 20) i32 (compare cmp.Eq (var 0) (Number 2)) Continue Empty ∷ Do (put (var 0)) ∷ []))
    (compare cmp.Lt (var 0) (Number 3)) ∷ finish ∷ [])

repeats_placed : placed_run repeats map quiet 2 ≡ out (1 ∷ 3 ∷ []) (ending.Exit 0)
unfolding fate start operations load store copy_unit owned alignment first_from binary_of compare_of converted wrapped
    value_of reduced kept_of
repeats_placed = refl

repeats_strict : strict_run repeats quiet 2 ≡ out (1 ∷ 3 ∷ []) (ending.Exit 0)
unfolding fate start operations load store copy_unit owned alignment first_from binary_of compare_of converted wrapped
    value_of reduced kept_of
repeats_strict = refl

-- while((c=getchar())!=-1)putchar(c);
abbrev copies : Program
copies = main 1 [] (While (at 9) i32 (compare cmp.Ne
    (Assign i32 (Variable (at 2) 0) (Library (at 3) Get_char (args []))) (Unary (at 4) Negative i32 (Number 1)))
    (Do (put (var 0))) ∷ finish ∷ [])

copies_placed : placed_run copies map (reading (97 ∷ 98 ∷ 99 ∷ [])) 10
    ≡ record { output = 97 ∷ 98 ∷ 99 ∷ []; taken = 3; ending = ending.Exit 0 }
unfolding fate start operations load store copy_unit owned alignment first_from binary_of compare_of converted wrapped
    value_of reduced kept_of
copies_placed = refl

copies_strict : strict_run copies (reading (97 ∷ 98 ∷ 99 ∷ [])) 10
    ≡ record { output = 97 ∷ 98 ∷ 99 ∷ []; taken = 3; ending = ending.Exit 0 }
unfolding fate start operations load store copy_unit owned alignment first_from binary_of compare_of converted wrapped
    value_of reduced kept_of
copies_strict = refl

abbrev second_read_fails : World
second_read_fails = record { bytes = 97 ∷ 98 ∷ 99 ∷ []; failing_read = Some 2; failing_put = None }

copies_fails : strict_run copies second_read_fails 10
    ≡ record { output = 97 ∷ []; taken = 1; ending = ending.ReadFault }
unfolding fate start operations load store copy_unit owned alignment first_from binary_of compare_of converted wrapped
    value_of reduced kept_of
copies_fails = refl

-- putchar(65)+putchar(66), then an argument list: operands from left to right
abbrev left_first : Program
left_first = of_functions (function 5 [] 0 [] Gives_zero
    (block (Do (sum 9 op.Add (put (Number 65)) (put (Number 66)))
    ∷ Do (Call (at 12) (true ∷ true ∷ []) (Pointer_to (at 10) None (Function (at 10) 1))
    (args (put (Number 67) ∷ put (Number 68) ∷ []))) ∷ finish ∷ []))
    ∷ function 7 (In_variable 0 ∷ In_variable 1 ∷ []) 2 [] Gives_nothing (block (Do (put (var 1)) ∷ [])) ∷ [])

left_first_placed : placed_run left_first map quiet 10 ≡ out (65 ∷ 66 ∷ 67 ∷ 68 ∷ 68 ∷ []) (ending.Exit 0)
unfolding fate start operations load store copy_unit owned alignment first_from binary_of compare_of converted wrapped
    value_of reduced kept_of
left_first_placed = refl

left_first_strict : strict_run left_first quiet 10 ≡ out (65 ∷ 66 ∷ 67 ∷ 68 ∷ 68 ∷ []) (ending.Exit 0)
unfolding fate start operations load store copy_unit owned alignment first_from binary_of compare_of converted wrapped
    value_of reduced kept_of
left_first_strict = refl

-- 0 && putchar(65); 1 || putchar(66); 1 && putchar(67)
abbrev short_cut : Program
short_cut = main 0 [] (Do (And (at 9) i32 i32 (Number 0) (put (Number 65)))
    ∷ Do (Or (at 9) i32 i32 (Number 1) (put (Number 66))) ∷ Do (And (at 9) i32 i32 (Number 1) (put (Number 67)))
    ∷ finish ∷ [])

short_cut_placed : placed_run short_cut map quiet 10 ≡ out (67 ∷ []) (ending.Exit 0)
unfolding fate start operations load store copy_unit owned alignment first_from binary_of compare_of converted wrapped
    value_of reduced kept_of
short_cut_placed = refl

short_cut_strict : strict_run short_cut quiet 10 ≡ out (67 ∷ []) (ending.Exit 0)
unfolding fate start operations load store copy_unit owned alignment first_from binary_of compare_of converted wrapped
    value_of reduced kept_of
short_cut_strict = refl

-- switch(2){case 1:putchar(65);case 2:putchar(66);case 3:putchar(67);break;default:putchar(68);}
abbrev switches : Program
switches = main 0 [] (Switch (at 9) i32 (Number 2) [] (Case 1 0 ∷ Case 2 1 ∷ Case 3 2 ∷ Default 4 ∷ [])
    (seq (putting 65 ∷ putting 66 ∷ putting 67 ∷ Break ∷ putting 68 ∷ []))
    ∷ Switch (at 9) i32 (Number 9) [] (Case 1 0 ∷ Default 1 ∷ []) (seq (putting 65 ∷ putting 68 ∷ [])) ∷ finish ∷ [])

switches_placed : placed_run switches map quiet 10 ≡ out (66 ∷ 67 ∷ 68 ∷ []) (ending.Exit 0)
unfolding fate start operations load store copy_unit owned alignment first_from binary_of compare_of converted wrapped
    value_of reduced kept_of
switches_placed = refl

switches_strict : strict_run switches quiet 10 ≡ out (66 ∷ 67 ∷ 68 ∷ []) (ending.Exit 0)
unfolding fate start operations load store copy_unit owned alignment first_from binary_of compare_of converted wrapped
    value_of reduced kept_of
switches_strict = refl

-- int x;return x; C leaves x open, and the placed meaning takes 0
abbrev unwritten : Program
unwritten = main 1 [] (Return (Some (var 0)) ∷ [])

unwritten_placed : placed_run unwritten map quiet 10 ≡ out ([]) (ending.Exit 0)
unfolding fate start operations load store copy_unit owned alignment first_from binary_of compare_of converted wrapped
    value_of reduced kept_of
unwritten_placed = refl

unwritten_strict : strict_run unwritten quiet 10 ≡ out ([]) (ending.Unspecified reason.Unwritten (at 2))
unfolding fate start operations load store copy_unit owned alignment first_from binary_of compare_of converted wrapped
    value_of reduced kept_of
unwritten_strict = refl

-- int f(int n){putchar(46);return f(n+1);} main calls f(0)
abbrev recursion : Program
recursion = of_functions (function 5 [] 0 [] Gives_zero
    (Return (Some (Call (at 12) (true ∷ true ∷ []) (Pointer_to (at 10) None (Function (at 10) 1))
    (args (Number 0 ∷ []))))) ∷ function 7 (In_variable 0 ∷ []) 1 [] (Lacks i32)
    (block (putting 46 ∷ Return (Some (Call (at 12) (false ∷ true ∷ []) (Pointer_to (at 10) None (Function (at 10) 1))
    (args (sum 9 op.Add (var 0) (Number 1) ∷ [])))) ∷ [])) ∷ [])

recursion_placed : placed_run recursion small_stack quiet 5 ≡ out (46 ∷ 46 ∷ []) (ending.Stack (at 7))
unfolding fate start operations load store copy_unit owned alignment first_from binary_of compare_of converted wrapped
    value_of reduced kept_of
recursion_placed = refl

recursion_strict : strict_run recursion quiet 5 ≡ out (46 ∷ 46 ∷ 46 ∷ 46 ∷ 46 ∷ []) (ending.Turns)
unfolding fate start operations load store copy_unit owned alignment first_from binary_of compare_of converted wrapped
    value_of reduced kept_of
recursion_strict = refl

-- a function that gives an int reaches its end: 0, and undefined
abbrev falls : Program
falls = of_functions (function 5 [] 0 [] Gives_zero
    (Return (Some (Call (at 12) (true ∷ true ∷ []) (Pointer_to (at 10) None (Function (at 10) 1)) (args []))))
    ∷ function 7 [] 0 [] (Lacks i32) (putting 65) ∷ [])

falls_placed : placed_run falls map quiet 10 ≡ out (65 ∷ []) (ending.Exit 0)
unfolding fate start operations load store copy_unit owned alignment first_from binary_of compare_of converted wrapped
    value_of reduced kept_of
falls_placed = refl

falls_strict : strict_run falls quiet 10 ≡ out (65 ∷ []) (ending.Unspecified reason.Undefined (at 7))
unfolding fate start operations load store copy_unit owned alignment first_from binary_of compare_of converted wrapped
    value_of reduced kept_of
falls_strict = refl

-- char c=255; c++ gives 255 and leaves 0
abbrev steps : Program
steps = main 1 [] (Give 0 (Number 255) ∷ Do
    (put (Compound (at 9) (Whole op.Add int.I32 i32) char i32 true (Variable (at 2) 0) (Number 1)))
    ∷ Do (put (Load char (Variable (at 2) 0))) ∷ finish ∷ [])

steps_placed : placed_run steps map quiet 10 ≡ out (255 ∷ 0 ∷ []) (ending.Exit 0)
unfolding fate start operations load store copy_unit owned alignment first_from binary_of compare_of converted wrapped
    value_of reduced kept_of
steps_placed = refl

steps_strict : strict_run steps quiet 10 ≡ out (255 ∷ 0 ∷ []) (ending.Exit 0)
unfolding fate start operations load store copy_unit owned alignment first_from binary_of compare_of converted wrapped
    value_of reduced kept_of
steps_strict = refl
