-- Programs over objects and pointers, computed in both modes.
use Rattle.std.specs.Prelude.{◌≡◌, true, false, [], ◌∷◌, Some, None, refl}
use Rattle.ck_int.specs.declared.kinds.IntKind.TheVariants as int
use Rattle.ck_int.specs.declared.kinds.IntOp.TheVariants as op
use Rattle.ck_int.specs.declared.kinds.CmpOp.TheVariants as cmp
use Rattle.ck_int.specs.Arithmetic.{binary_of, compare_of}
use Rattle.ck_int.specs.Kinds.{wrapped, value_of, reduced, kept_of, converted}
use Rattle.cap_concentrate.specs.Decoding.{exponent, mantissa, whole_top, high, placed, corrected, base_of, top_of}
use Rattle.cap_concentrate.specs.Encoding.{length_exponent, encoded_internal, encoded_t, encoded_b, with_bounds}
use Rattle.cap_concentrate.specs.Packing.{bits_of}
use Rattle.cap_concentrate.specs.Rounding.{first_from, alignment, owned, bounds_exponent, least_base, least_top}
use Rattle.cap_ops.specs.declared.access.Cause.TheVariants as cause
use Rattle.obj_mem.specs.declared.ending.Ending.TheVariants as ending
use Rattle.obj_mem.specs.declared.ending.Reason.TheVariants as reason
use Rattle.obj_mem.specs.Values as value
use Rattle.obj_mem.specs.Values.{capability_of, bits}
use Rattle.obj_mem.specs.Access.{load, store, copy_unit}
use Rattle.obj_mem.specs.Pointers.{keeps}
use Rattle.cheri_c_sem.specs.Kinds.{Plain, Capability}
use Rattle.cheri_c_sem.specs.Operations as work
use Rattle.cheri_c_sem.specs.Tree.{Program, In_variable, In_object, Gives_zero, Lacks, Simple, Objects, Do, Give, Init}
use Rattle.cheri_c_sem.specs.Tree.{Block, If, While, Return, Empty, Number, Load, Aggregate, Pointer_to, Convert}
use Rattle.cheri_c_sem.specs.Tree.{Binary, Derived, Moved, Apart, Compare, Conditional, Assign, Copy, Call, Library}
use Rattle.cheri_c_sem.specs.Tree.{Malloc, Works, Variable, Local, Object, Function, Deref, Member}
use Rattle.cheri_c_sem.specs.Calls.{start, fate}
use Rattle.cheri_c_sem.specs.Modes.{operations}
use Rattle.cheri_c_sem.specs.Runs.{placed_run, strict_run}
use Rattle.cheri_c_sem.proofs.Words.{at, quiet, out, i32, char, pointer, seq, block, args, put, putting, finish, var}
use Rattle.cheri_c_sem.proofs.Words.{ptr, sum, compare, array, element, function, of_functions, main, map}

-- int a[2];for(i=0;i<=2;i=i+1){a[i]=i;putchar(65+i);} the third element is outside
abbrev bounds : Program
bounds = main 1 (8 ∷ []) (Block (Objects 0 ∷ Simple 0 ∷ [])
    (seq (Give 0 (Number 0) ∷ While (at 9) i32 (compare cmp.Le (var 0) (Number 2))
    (block (Do (Assign i32 (element 54 4 (array 0) (var 0)) (var 0))
    ∷ Do (put (sum 14 op.Add (Number 65) (var 0)))
    ∷ Do (Assign i32 (Variable (at 12) 0) (sum 13 op.Add (var 0) (Number 1))) ∷ [])) ∷ finish ∷ [])) ∷ [])

bounds_placed : placed_run bounds map quiet 10 ≡ out (65 ∷ 66 ∷ []) (ending.Trap cause.Bounds (at 54))
unfolding fate start operations load store copy_unit owned alignment first_from binary_of compare_of converted wrapped
    value_of reduced kept_of keeps encoded_internal encoded_t encoded_b length_exponent base_of top_of placed corrected
    exponent mantissa whole_top high bits capability_of bits_of with_bounds least_base least_top bounds_exponent
bounds_placed = refl

bounds_strict : strict_run bounds quiet 10 ≡ out (65 ∷ 66 ∷ []) (ending.Trap cause.Bounds (at 54))
unfolding fate start operations load store copy_unit owned alignment first_from binary_of compare_of converted wrapped
    value_of reduced kept_of keeps encoded_internal encoded_t encoded_b length_exponent base_of top_of placed corrected
    exponent mantissa whole_top high bits capability_of bits_of with_bounds least_base least_top bounds_exponent
bounds_strict = refl

-- struct S{char a[4];int b;}s;char*p=s.a;p[3]=1;p[4]=2; a member array has its own bounds
abbrev member : Program
member = main 1 (8 ∷ []) (Block (Objects 0 ∷ Simple 0 ∷ [])
    (seq (Give 0 (Pointer_to (at 50) (Some (record { own = 4; owned = 4 })) (Member (at 51) 0 (Local (at 52) 0)))
    ∷ Do (Assign char (element 60 1 (ptr 0) (Number 3)) (Number 1)) ∷ putting 65
    ∷ Do (Assign char (element 74 1 (ptr 0) (Number 4)) (Number 2)) ∷ finish ∷ [])) ∷ [])

member_placed : placed_run member map quiet 10 ≡ out (65 ∷ []) (ending.Trap cause.Bounds (at 74))
unfolding fate start operations load store copy_unit owned alignment first_from binary_of compare_of converted wrapped
    value_of reduced kept_of keeps encoded_internal encoded_t encoded_b length_exponent base_of top_of placed corrected
    exponent mantissa whole_top high bits capability_of bits_of with_bounds least_base least_top bounds_exponent
member_placed = refl

member_strict : strict_run member quiet 10 ≡ out (65 ∷ []) (ending.Trap cause.Bounds (at 74))
unfolding fate start operations load store copy_unit owned alignment first_from binary_of compare_of converted wrapped
    value_of reduced kept_of keeps encoded_internal encoded_t encoded_b length_exponent base_of top_of placed corrected
    exponent mantissa whole_top high bits capability_of bits_of with_bounds least_base least_top bounds_exponent
member_strict = refl

-- int x=7;uintptr_t u=(uintptr_t)&x;int*p=(int*)(u+0); p keeps the tag; n=(unsigned long)&x;p=(int*)n; p has none
abbrev provenance : Program
provenance = main 3 (4 ∷ []) (Block (Objects 0 ∷ Simple 0 ∷ Simple 1 ∷ Simple 2 ∷ [])
    (seq (Init (at 1) 0 0 i32 (Number 7) ∷ Give 0 (array 0)
    ∷ Give 1 (Binary (at 9) (Derived op.Add false (Capability false) false true) (ptr 0)
    (Convert (at 9) i32 (Capability false) true (Number 0)))
    ∷ Do (put (sum 9 op.Add (Number 48) (Load i32 (Deref (at 11) (ptr 1)))))
    ∷ Give 2 (Convert (at 20) pointer (Plain int.U64) false (array 0))
    ∷ Give 1 (Convert (at 21) (Plain int.U64) pointer false (Load (Plain int.U64) (Variable (at 22) 2)))
    ∷ Do (put (sum 9 op.Add (Number 48) (Load i32 (Deref (at 139) (ptr 1))))) ∷ finish ∷ [])) ∷ [])

provenance_placed : placed_run provenance map quiet 10 ≡ out (55 ∷ []) (ending.Trap cause.Tag (at 139))
unfolding fate start operations load store copy_unit owned alignment first_from binary_of compare_of converted wrapped
    value_of reduced kept_of keeps encoded_internal encoded_t encoded_b length_exponent base_of top_of placed corrected
    exponent mantissa whole_top high bits capability_of bits_of with_bounds least_base least_top bounds_exponent
provenance_placed = refl

provenance_strict : strict_run provenance quiet 10 ≡ out (55 ∷ []) (ending.Unspecified reason.Address (at 20))
unfolding fate start operations load store copy_unit owned alignment first_from binary_of compare_of converted wrapped
    value_of reduced kept_of keeps encoded_internal encoded_t encoded_b length_exponent base_of top_of placed corrected
    exponent mantissa whole_top high bits capability_of bits_of with_bounds least_base least_top bounds_exponent
provenance_strict = refl

-- int x=5;int*p=&x;unsigned char*c=(unsigned char*)&p;c[0]=c[0];putchar(48+*p); a byte stored over a pointer clears its
-- tag
abbrev byte_of_pointer : Program
byte_of_pointer = main 1 (4 ∷ 16 ∷ []) (Block (Objects 0 ∷ Objects 1 ∷ Simple 0 ∷ [])
    (seq (Init (at 1) 0 0 i32 (Number 5) ∷ Init (at 1) 1 0 pointer (array 0) ∷ Give 0 (array 1)
    ∷ Do (Assign char (element 71 1 (ptr 0) (Number 0)) (Load char (element 76 1 (ptr 0) (Number 0))))
    ∷ Do (put (sum 9 op.Add (Number 48) (Load i32 (Deref (at 91) (Load pointer (Local (at 90) 1)))))) ∷ finish
    ∷ [])) ∷ [])

byte_of_pointer_placed : placed_run byte_of_pointer map quiet 10 ≡ out ([]) (ending.Trap cause.Tag (at 91))
unfolding fate start operations load store copy_unit owned alignment first_from binary_of compare_of converted wrapped
    value_of reduced kept_of keeps encoded_internal encoded_t encoded_b length_exponent base_of top_of placed corrected
    exponent mantissa whole_top high bits capability_of bits_of with_bounds least_base least_top bounds_exponent
byte_of_pointer_placed = refl

byte_of_pointer_strict : strict_run byte_of_pointer quiet 10 ≡ out ([]) (ending.Unspecified reason.Address (at 76))
unfolding fate start operations load store copy_unit owned alignment first_from binary_of compare_of converted wrapped
    value_of reduced kept_of keeps encoded_internal encoded_t encoded_b length_exponent base_of top_of placed corrected
    exponent mantissa whole_top high bits capability_of bits_of with_bounds least_base least_top bounds_exponent
byte_of_pointer_strict = refl

-- int x=6;int*a=&x;int*b;*(uintptr_t*)&b=*(uintptr_t*)&a;putchar(48+*b); 16 bytes carry the tag
abbrev granule : Program
granule = main 0 (4 ∷ 16 ∷ 16 ∷ []) (Block (Objects 0 ∷ Objects 1 ∷ Objects 2 ∷ [])
    (seq (Init (at 1) 0 0 i32 (Number 6) ∷ Init (at 1) 1 0 pointer (array 0)
    ∷ Do (Assign (Capability false) (Deref (at 6) (array 2)) (Load (Capability false) (Deref (at 7) (array 1))))
    ∷ Do (put (sum 9 op.Add (Number 48) (Load i32 (Deref (at 91) (Load pointer (Local (at 90) 2)))))) ∷ finish
    ∷ [])) ∷ [])

granule_placed : placed_run granule map quiet 10 ≡ out (54 ∷ []) (ending.Exit 0)
unfolding fate start operations load store copy_unit owned alignment first_from binary_of compare_of converted wrapped
    value_of reduced kept_of keeps encoded_internal encoded_t encoded_b length_exponent base_of top_of placed corrected
    exponent mantissa whole_top high bits capability_of bits_of with_bounds least_base least_top bounds_exponent
granule_placed = refl

granule_strict : strict_run granule quiet 10 ≡ out (54 ∷ []) (ending.Exit 0)
unfolding fate start operations load store copy_unit owned alignment first_from binary_of compare_of converted wrapped
    value_of reduced kept_of keeps encoded_internal encoded_t encoded_b length_exponent base_of top_of placed corrected
    exponent mantissa whole_top high bits capability_of bits_of with_bounds least_base least_top bounds_exponent
granule_strict = refl

-- char a[40];p=a+400;p=p-400;p[0]=65;putchar(a[0]);p=a+20000;p=p-20000;p[0]=66; near the bounds the tag stays
abbrev excursion : Program
excursion = main 1 (40 ∷ []) (Block (Objects 0 ∷ Simple 0 ∷ [])
    (seq (Give 0 (Binary (at 2) (Moved 1 false false i32) (array 0) (Number 400))
    ∷ Give 0 (Binary (at 3) (Moved 1 true false i32) (ptr 0) (Number 400))
    ∷ Do (Assign char (element 4 1 (ptr 0) (Number 0)) (Number 65))
    ∷ Do (put (Load char (element 5 1 (array 0) (Number 0))))
    ∷ Give 0 (Binary (at 34) (Moved 1 false false i32) (array 0) (Number 20000))
    ∷ Give 0 (Binary (at 35) (Moved 1 true false i32) (ptr 0) (Number 20000))
    ∷ Do (Assign char (element 42 1 (ptr 0) (Number 0)) (Number 66)) ∷ finish ∷ [])) ∷ [])

excursion_placed : placed_run excursion map quiet 10 ≡ out (65 ∷ []) (ending.Trap cause.Tag (at 42))
unfolding fate start operations load store copy_unit owned alignment first_from binary_of compare_of converted wrapped
    value_of reduced kept_of keeps encoded_internal encoded_t encoded_b length_exponent base_of top_of placed corrected
    exponent mantissa whole_top high bits capability_of bits_of with_bounds least_base least_top bounds_exponent
excursion_placed = refl

excursion_strict : strict_run excursion quiet 10 ≡ out (65 ∷ []) (ending.Unspecified reason.Excursion (at 34))
unfolding fate start operations load store copy_unit owned alignment first_from binary_of compare_of converted wrapped
    value_of reduced kept_of keeps encoded_internal encoded_t encoded_b length_exponent base_of top_of placed corrected
    exponent mantissa whole_top high bits capability_of bits_of with_bounds least_base least_top bounds_exponent
excursion_strict = refl

-- char*s="ab";putchar(s[0]);s[1]=65; a literal cannot be written
abbrev literal : Program
literal = record (main 1 [] (Block (Simple 0 ∷ [])
    (seq (Give 0 (Pointer_to (at 3) None (Object (at 3) 0 21))
    ∷ Do (put (Load char (element 5 1 (ptr 0) (Number 0))))
    ∷ Do (Assign char (element 44 1 (ptr 0) (Number 1)) (Number 65)) ∷ finish ∷ [])) ∷ []))
    { literals = (97 ∷ 98 ∷ 0 ∷ []) ∷ [] }

literal_placed : placed_run literal map quiet 10 ≡ out (97 ∷ []) (ending.Trap cause.Store (at 44))
unfolding fate start operations load store copy_unit owned alignment first_from binary_of compare_of converted wrapped
    value_of reduced kept_of keeps encoded_internal encoded_t encoded_b length_exponent base_of top_of placed corrected
    exponent mantissa whole_top high bits capability_of bits_of with_bounds least_base least_top bounds_exponent
literal_placed = refl

literal_strict : strict_run literal quiet 10 ≡ out (97 ∷ []) (ending.Trap cause.Store (at 44))
unfolding fate start operations load store copy_unit owned alignment first_from binary_of compare_of converted wrapped
    value_of reduced kept_of keeps encoded_internal encoded_t encoded_b length_exponent base_of top_of placed corrected
    exponent mantissa whole_top high bits capability_of bits_of with_bounds least_base least_top bounds_exponent
literal_strict = refl

-- int one(int x){return x+1;} called through void*, and then an int* is called
abbrev functions : Program
functions = of_functions (function 5 [] 2 (4 ∷ []) Gives_zero
    (Block (Objects 0 ∷ Simple 0 ∷ Simple 1 ∷ [])
    (seq (Give 0 (Convert (at 2) pointer pointer false (Pointer_to (at 1) None (Function (at 1) 1)))
    ∷ Do (put (Call (at 4) (false ∷ true ∷ []) (ptr 0) (args (Number 64 ∷ []))))
    ∷ Give 1 (Convert (at 6) pointer pointer false (array 0))
    ∷ Return (Some (Call (at 59) (false ∷ true ∷ []) (ptr 1) (args (Number 1 ∷ [])))) ∷ [])))
    ∷ function 7 (In_variable 0 ∷ []) 1 [] (Lacks i32) (Return (Some (sum 8 op.Add (var 0) (Number 1)))) ∷ [])

functions_placed : placed_run functions map quiet 10 ≡ out (65 ∷ []) (ending.Trap cause.Execute (at 59))
unfolding fate start operations load store copy_unit owned alignment first_from binary_of compare_of converted wrapped
    value_of reduced kept_of keeps encoded_internal encoded_t encoded_b length_exponent base_of top_of placed corrected
    exponent mantissa whole_top high bits capability_of bits_of with_bounds least_base least_top bounds_exponent
functions_placed = refl

functions_strict : strict_run functions quiet 10 ≡ out (65 ∷ []) (ending.Trap cause.Execute (at 59))
unfolding fate start operations load store copy_unit owned alignment first_from binary_of compare_of converted wrapped
    value_of reduced kept_of keeps encoded_internal encoded_t encoded_b length_exponent base_of top_of placed corrected
    exponent mantissa whole_top high bits capability_of bits_of with_bounds least_base least_top bounds_exponent
functions_strict = refl

-- a function is called through another type than its own
abbrev other_type : Program
other_type = of_functions (function 5 [] 0 [] Gives_zero
    (Return (Some (Call (at 59) (false ∷ false ∷ []) (Pointer_to (at 1) None (Function (at 1) 1)) (args []))))
    ∷ function 7 [] 0 [] (Lacks i32) finish ∷ [])

other_type_placed : placed_run other_type map quiet 10 ≡ out ([]) (ending.Outside (at 59))
unfolding fate start operations load store copy_unit owned alignment first_from binary_of compare_of converted wrapped
    value_of reduced kept_of
other_type_placed = refl

other_type_strict : strict_run other_type quiet 10 ≡ out ([]) (ending.Outside (at 59))
unfolding fate start operations load store copy_unit owned alignment first_from binary_of compare_of converted wrapped
    value_of reduced kept_of
other_type_strict = refl

-- char*p=malloc(16777217);putchar(p?89:78); more than the heap is null, and has no strict meaning
abbrev heap : Program
heap = main 1 [] (Block (Simple 0 ∷ []) (seq
    (Give 0 (Library (at 30) Malloc (args (Number 16777217 ∷ [])))
    ∷ Do (put (Conditional (at 40) pointer (ptr 0) (Number 89) (Number 78))) ∷ finish ∷ [])) ∷ [])

heap_placed : placed_run heap map quiet 10 ≡ out (78 ∷ []) (ending.Exit 0)
unfolding fate start operations load store copy_unit owned alignment first_from binary_of compare_of converted wrapped
    value_of reduced kept_of keeps encoded_internal encoded_t encoded_b length_exponent base_of top_of placed corrected
    exponent mantissa whole_top high bits capability_of bits_of with_bounds least_base least_top bounds_exponent
heap_placed = refl

heap_strict : strict_run heap quiet 10 ≡ out ([]) (ending.Unspecified reason.Heap (at 30))
unfolding fate start operations load store copy_unit owned alignment first_from binary_of compare_of converted wrapped
    value_of reduced kept_of keeps encoded_internal encoded_t encoded_b length_exponent base_of top_of placed corrected
    exponent mantissa whole_top high bits capability_of bits_of with_bounds least_base least_top bounds_exponent
heap_strict = refl

-- char*p=malloc(8);p[7]=65;putchar(p[7]);putchar(p[6]);p[8]=1; the heap begins as zeros, and is not written
abbrev allocates : Program
allocates = main 1 [] (Block (Simple 0 ∷ [])
    (seq (Give 0 (Library (at 30) Malloc (args (Number 8 ∷ [])))
    ∷ Do (Assign char (element 40 1 (ptr 0) (Number 7)) (Number 65))
    ∷ Do (put (Load char (element 50 1 (ptr 0) (Number 7))))
    ∷ Do (put (Load char (element 60 1 (ptr 0) (Number 6))))
    ∷ Do (Assign char (element 70 1 (ptr 0) (Number 8)) (Number 65)) ∷ finish ∷ [])) ∷ [])

allocates_placed : placed_run allocates map quiet 10 ≡ out (65 ∷ 0 ∷ []) (ending.Trap cause.Bounds (at 70))
unfolding fate start operations load store copy_unit owned alignment first_from binary_of compare_of converted wrapped
    value_of reduced kept_of keeps encoded_internal encoded_t encoded_b length_exponent base_of top_of placed corrected
    exponent mantissa whole_top high bits capability_of bits_of with_bounds least_base least_top bounds_exponent
allocates_placed = refl

allocates_strict : strict_run allocates quiet 10 ≡ out (65 ∷ []) (ending.Unspecified reason.Unwritten (at 60))
unfolding fate start operations load store copy_unit owned alignment first_from binary_of compare_of converted wrapped
    value_of reduced kept_of keeps encoded_internal encoded_t encoded_b length_exponent base_of top_of placed corrected
    exponent mantissa whole_top high bits capability_of bits_of with_bounds least_base least_top bounds_exponent
allocates_strict = refl

-- char*p=malloc(4097);p[4103]=1;p[4104]=1; the padding can be used, and has no strict meaning
abbrev padding : Program
padding = main 1 [] (Block (Simple 0 ∷ [])
    (seq (Give 0 (Library (at 30) Malloc (args (Number 4097 ∷ [])))
    ∷ Do (Assign char (element 40 1 (ptr 0) (Number 4103)) (Number 65))
    ∷ Do (Assign char (element 64 1 (ptr 0) (Number 4104)) (Number 65)) ∷ finish ∷ [])) ∷ [])

padding_placed : placed_run padding map quiet 10 ≡ out ([]) (ending.Trap cause.Bounds (at 64))
unfolding fate start operations load store copy_unit owned alignment first_from binary_of compare_of converted wrapped
    value_of reduced kept_of keeps encoded_internal encoded_t encoded_b length_exponent base_of top_of placed corrected
    exponent mantissa whole_top high bits capability_of bits_of with_bounds least_base least_top bounds_exponent
padding_placed = refl

padding_strict : strict_run padding quiet 10 ≡ out ([]) (ending.Unspecified reason.Padding (at 40))
unfolding fate start operations load store copy_unit owned alignment first_from binary_of compare_of converted wrapped
    value_of reduced kept_of keeps encoded_internal encoded_t encoded_b length_exponent base_of top_of placed corrected
    exponent mantissa whole_top high bits capability_of bits_of with_bounds least_base least_top bounds_exponent
padding_strict = refl

-- int x=8;struct P{int*p;char c;}a,b;a.p=&x;b=a;putchar(48+*b.p); a copy keeps pointers, and carries what was not
-- written
abbrev struct_copy : Program
struct_copy = main 0 (4 ∷ 32 ∷ 32 ∷ []) (Block (Objects 0 ∷ Objects 1 ∷ Objects 2 ∷ [])
    (seq (Init (at 1) 0 0 i32 (Number 8) ∷ Do (Assign pointer (Member (at 6) 0 (Local (at 5) 1)) (array 0))
    ∷ Do (Copy (at 8) 32 16 (Local (at 7) 2) (Aggregate (Local (at 9) 1)))
    ∷ Do (put (sum 9 op.Add (Number 48) (Load i32
    (Deref (at 12) (Load pointer (Member (at 14) 0 (Local (at 13) 2))))))) ∷ finish ∷ [])) ∷ [])

struct_copy_placed : placed_run struct_copy map quiet 10 ≡ out (56 ∷ []) (ending.Exit 0)
unfolding fate start operations load store copy_unit owned alignment first_from binary_of compare_of converted wrapped
    value_of reduced kept_of keeps encoded_internal encoded_t encoded_b length_exponent base_of top_of placed corrected
    exponent mantissa whole_top high bits capability_of bits_of with_bounds least_base least_top bounds_exponent
struct_copy_placed = refl

struct_copy_strict : strict_run struct_copy quiet 10 ≡ out (56 ∷ []) (ending.Exit 0)
unfolding fate start operations load store copy_unit owned alignment first_from binary_of compare_of converted wrapped
    value_of reduced kept_of keeps encoded_internal encoded_t encoded_b length_exponent base_of top_of placed corrected
    exponent mantissa whole_top high bits capability_of bits_of with_bounds least_base least_top bounds_exponent
struct_copy_strict = refl

-- char b[16];*(struct S*)(b+4)=*(struct S*)b; of a struct of two ints, over a part of itself
abbrev overlap : Program
overlap = main 1 (16 ∷ []) (Block (Objects 0 ∷ Simple 0 ∷ [])
    (seq (Do (Assign i32 (element 2 4 (array 0) (Number 0)) (Number 65))
    ∷ Do (Assign i32 (element 3 4 (array 0) (Number 1)) (Number 66))
    ∷ Do (Copy (at 8) 8 4 (Deref (at 5) (Binary (at 6) (Moved 4 false false i32) (array 0) (Number 1)))
    (Aggregate (Deref (at 7) (array 0)))) ∷ Do (put (Load i32 (element 10 4 (array 0) (Number 2)))) ∷ finish
    ∷ [])) ∷ [])

overlap_placed : placed_run overlap map quiet 10 ≡ out (65 ∷ []) (ending.Exit 0)
unfolding fate start operations load store copy_unit owned alignment first_from binary_of compare_of converted wrapped
    value_of reduced kept_of keeps encoded_internal encoded_t encoded_b length_exponent base_of top_of placed corrected
    exponent mantissa whole_top high bits capability_of bits_of with_bounds least_base least_top bounds_exponent
overlap_placed = refl

overlap_strict : strict_run overlap quiet 10 ≡ out ([]) (ending.Unspecified reason.Overlap (at 8))
unfolding fate start operations load store copy_unit owned alignment first_from binary_of compare_of converted wrapped
    value_of reduced kept_of keeps encoded_internal encoded_t encoded_b length_exponent base_of top_of placed corrected
    exponent mantissa whole_top high bits capability_of bits_of with_bounds least_base least_top bounds_exponent
overlap_strict = refl

-- int*f(void){int x=1;return&x;} main: int*p=f();return*p;
abbrev returned : Program
returned = of_functions (function 5 [] 1 [] Gives_zero
    (Block (Simple 0 ∷ []) (seq (Give 0 (Call (at 60) (true ∷ true ∷ []) (Pointer_to (at 1) None (Function (at 1) 1))
    (args [])) ∷ Return (Some (Load i32 (Deref (at 66) (ptr 0)))) ∷ [])))
    ∷ function 7 [] 0 (4 ∷ []) (Lacks pointer)
    (Block (Objects 0 ∷ []) (seq (Init (at 1) 0 0 i32 (Number 1) ∷ Return (Some (array 0)) ∷ []))) ∷ [])

returned_placed : placed_run returned map quiet 10 ≡ out ([]) (ending.Outside (at 66))
unfolding fate start operations load store copy_unit owned alignment first_from binary_of compare_of converted wrapped
    value_of reduced kept_of keeps encoded_internal encoded_t encoded_b length_exponent base_of top_of placed corrected
    exponent mantissa whole_top high bits capability_of bits_of with_bounds least_base least_top bounds_exponent
returned_placed = refl

returned_strict : strict_run returned quiet 10 ≡ out ([]) (ending.Outside (at 66))
unfolding fate start operations load store copy_unit owned alignment first_from binary_of compare_of converted wrapped
    value_of reduced kept_of keeps encoded_internal encoded_t encoded_b length_exponent base_of top_of placed corrected
    exponent mantissa whole_top high bits capability_of bits_of with_bounds least_base least_top bounds_exponent
returned_strict = refl

-- int*p;{int x=1;p=&x;}putchar(*p); the block was left
abbrev inactive : Program
inactive = main 1 (4 ∷ []) (Block (Objects 0 ∷ []) (seq (Init (at 1) 0 0 i32 (Number 65) ∷ Give 0 (array 0) ∷ []))
    ∷ Do (put (Load i32 (Deref (at 9) (ptr 0)))) ∷ finish ∷ [])

inactive_placed : placed_run inactive map quiet 10 ≡ out (65 ∷ []) (ending.Exit 0)
unfolding fate start operations load store copy_unit owned alignment first_from binary_of compare_of converted wrapped
    value_of reduced kept_of keeps encoded_internal encoded_t encoded_b length_exponent base_of top_of placed corrected
    exponent mantissa whole_top high bits capability_of bits_of with_bounds least_base least_top bounds_exponent
inactive_placed = refl

inactive_strict : strict_run inactive quiet 10 ≡ out ([]) (ending.Outside (at 9))
unfolding fate start operations load store copy_unit owned alignment first_from binary_of compare_of converted wrapped
    value_of reduced kept_of keeps encoded_internal encoded_t encoded_b length_exponent base_of top_of placed corrected
    exponent mantissa whole_top high bits capability_of bits_of with_bounds least_base least_top bounds_exponent
inactive_strict = refl

-- for(i=0;i<2;i=i+1){int x;if(i==0)x=65;putchar(x);} on each entry x is 0 and not written
abbrev entered_again : Program
entered_again = main 2 [] (Give 0 (Number 0)
    ∷ While (at 9) i32 (compare cmp.Lt (var 0) (Number 2))
    (Block (Simple 1 ∷ []) (seq (If (at 20) i32 (compare cmp.Eq (var 0) (Number 0))
    (Do (Assign i32 (Variable (at 2) 1) (Number 65))) Empty ∷ Do (put (var 1))
    ∷ Do (Assign i32 (Variable (at 12) 0) (sum 13 op.Add (var 0) (Number 1))) ∷ []))) ∷ finish ∷ [])

entered_again_placed : placed_run entered_again map quiet 10 ≡ out (65 ∷ 0 ∷ []) (ending.Exit 0)
unfolding fate start operations load store copy_unit owned alignment first_from binary_of compare_of converted wrapped
    value_of reduced kept_of
entered_again_placed = refl

entered_again_strict : strict_run entered_again quiet 10 ≡ out (65 ∷ []) (ending.Unspecified reason.Unwritten (at 2))
unfolding fate start operations load store copy_unit owned alignment first_from binary_of compare_of converted wrapped
    value_of reduced kept_of
entered_again_strict = refl

-- char a[40];putchar(48+cheri_tag_get(a));putchar(cheri_length_get(a));putchar(48+cheri_tag_get(cheri_tag_clear(a)));
abbrev intrinsics : Program
intrinsics = main 0 (40 ∷ []) (Block (Objects 0 ∷ [])
    (seq (Do (put (sum 9 op.Add (Number 48) (Library (at 3) (Works work.Tag) (args ((array 0) ∷ [])))))
    ∷ Do (put (Library (at 4) (Works work.Length) (args ((array 0) ∷ []))))
    ∷ Do (put (sum 9 op.Add (Number 48) (Library (at 5) (Works work.Tag)
    (args (Library (at 6) (Works work.Clear) (args ((array 0) ∷ [])) ∷ []))))) ∷ finish ∷ [])) ∷ [])

intrinsics_placed : placed_run intrinsics map quiet 10 ≡ out (49 ∷ 40 ∷ 48 ∷ []) (ending.Exit 0)
unfolding fate start operations load store copy_unit owned alignment first_from binary_of compare_of converted wrapped
    value_of reduced kept_of keeps encoded_internal encoded_t encoded_b length_exponent base_of top_of placed corrected
    exponent mantissa whole_top high bits capability_of bits_of with_bounds least_base least_top bounds_exponent
intrinsics_placed = refl

intrinsics_strict : strict_run intrinsics quiet 10 ≡ out (49 ∷ 40 ∷ []) (ending.Unspecified reason.Address (at 6))
unfolding fate start operations load store copy_unit owned alignment first_from binary_of compare_of converted wrapped
    value_of reduced kept_of keeps encoded_internal encoded_t encoded_b length_exponent base_of top_of placed corrected
    exponent mantissa whole_top high bits capability_of bits_of with_bounds least_base least_top bounds_exponent
intrinsics_strict = refl

-- int x,y; &x==&y is 0, and &x<&y needs their addresses
abbrev comparisons : Program
comparisons = main 0 (4 ∷ 4 ∷ []) (Block (Objects 0 ∷ Objects 1 ∷ [])
    (seq (Do (put (sum 9 op.Add (Number 48) (Compare (at 3) cmp.Eq pointer (array 0) (array 1))))
    ∷ Do (put (sum 9 op.Add (Number 48) (Compare (at 5) cmp.Lt pointer (array 0) (array 1)))) ∷ finish ∷ []))
    ∷ [])

comparisons_placed : placed_run comparisons map quiet 10 ≡ out (48 ∷ 49 ∷ []) (ending.Exit 0)
unfolding fate start operations load store copy_unit owned alignment first_from binary_of compare_of converted wrapped
    value_of reduced kept_of keeps encoded_internal encoded_t encoded_b length_exponent base_of top_of placed corrected
    exponent mantissa whole_top high bits capability_of bits_of with_bounds least_base least_top bounds_exponent
comparisons_placed = refl

comparisons_strict : strict_run comparisons quiet 10 ≡ out (48 ∷ []) (ending.Unspecified reason.Address (at 5))
unfolding fate start operations load store copy_unit owned alignment first_from binary_of compare_of converted wrapped
    value_of reduced kept_of keeps encoded_internal encoded_t encoded_b length_exponent base_of top_of placed corrected
    exponent mantissa whole_top high bits capability_of bits_of with_bounds least_base least_top bounds_exponent
comparisons_strict = refl

-- int a[4]; &a[3]-&a[1] is 2, and &a[1]-&a[3] is -2
abbrev differences : Program
differences = main 0 (16 ∷ []) (Block (Objects 0 ∷ [])
    (seq (Do (put (sum 9 op.Add (Number 48) (Binary (at 3) (Apart 4)
    (Pointer_to (at 4) None (element 5 4 (array 0) (Number 3)))
    (Pointer_to (at 6) None (element 7 4 (array 0) (Number 1))))))
    ∷ Do (put (sum 9 op.Add (Number 48) (Binary (at 3) (Apart 4)
    (Pointer_to (at 4) None (element 5 4 (array 0) (Number 1)))
    (Pointer_to (at 6) None (element 7 4 (array 0) (Number 3)))))) ∷ finish ∷ [])) ∷ [])

differences_placed : placed_run differences map quiet 10 ≡ out (50 ∷ 46 ∷ []) (ending.Exit 0)
unfolding fate start operations load store copy_unit owned alignment first_from binary_of compare_of converted wrapped
    value_of reduced kept_of keeps encoded_internal encoded_t encoded_b length_exponent base_of top_of placed corrected
    exponent mantissa whole_top high bits capability_of bits_of with_bounds least_base least_top bounds_exponent
differences_placed = refl

differences_strict : strict_run differences quiet 10 ≡ out (50 ∷ 46 ∷ []) (ending.Exit 0)
unfolding fate start operations load store copy_unit owned alignment first_from binary_of compare_of converted wrapped
    value_of reduced kept_of keeps encoded_internal encoded_t encoded_b length_exponent base_of top_of placed corrected
    exponent mantissa whole_top high bits capability_of bits_of with_bounds least_base least_top bounds_exponent
differences_strict = refl

-- int f(int x){int*p=&x;return*p;} a parameter whose address is taken is an object
abbrev parameter : Program
parameter = of_functions (function 5 [] 0 [] Gives_zero
    (Return (Some (Call (at 60) (true ∷ true ∷ []) (Pointer_to (at 1) None (Function (at 1) 1))
    (args (Number 7 ∷ []))))) ∷ function 7 (In_object 0 i32 ∷ []) 1 (4 ∷ []) (Lacks i32)
    (Block (Simple 0 ∷ []) (seq (Give 0 (array 0) ∷ Return (Some (Load i32 (Deref (at 66) (ptr 0)))) ∷ []))) ∷ [])

parameter_placed : placed_run parameter map quiet 10 ≡ out ([]) (ending.Exit 7)
unfolding fate start operations load store copy_unit owned alignment first_from binary_of compare_of converted wrapped
    value_of reduced kept_of keeps encoded_internal encoded_t encoded_b length_exponent base_of top_of placed corrected
    exponent mantissa whole_top high bits capability_of bits_of with_bounds least_base least_top bounds_exponent
parameter_placed = refl

parameter_strict : strict_run parameter quiet 10 ≡ out ([]) (ending.Exit 7)
unfolding fate start operations load store copy_unit owned alignment first_from binary_of compare_of converted wrapped
    value_of reduced kept_of keeps encoded_internal encoded_t encoded_b length_exponent base_of top_of placed corrected
    exponent mantissa whole_top high bits capability_of bits_of with_bounds least_base least_top bounds_exponent
parameter_strict = refl

-- int g=65;int*q=&g;putchar(*q);g=66;putchar(*q);
abbrev globals : Program
globals = record (main 0 [] (Do (put (Load i32 (Deref (at 3) (Load pointer (Object (at 4) 1 125)))))
    ∷ Do (Assign i32 (Object (at 5) 0 125) (Number 66))
    ∷ Do (put (Load i32 (Deref (at 3) (Load pointer (Object (at 4) 1 125))))) ∷ finish ∷ [])) {
      globals = record { length = 4; bytes = 65 ∷ []; links = [] }
          ∷ record { length = 16; bytes = []; links = record { at = 0; value = value.Live 0 0 4 0 125 } ∷ [] } ∷ [];
    }

globals_placed : placed_run globals map quiet 10 ≡ out (65 ∷ 66 ∷ []) (ending.Exit 0)
unfolding fate start operations load store copy_unit owned alignment first_from binary_of compare_of converted wrapped
    value_of reduced kept_of keeps encoded_internal encoded_t encoded_b length_exponent base_of top_of placed corrected
    exponent mantissa whole_top high bits capability_of bits_of with_bounds least_base least_top bounds_exponent
globals_placed = refl

globals_strict : strict_run globals quiet 10 ≡ out (65 ∷ 66 ∷ []) (ending.Exit 0)
unfolding fate start operations load store copy_unit owned alignment first_from binary_of compare_of converted wrapped
    value_of reduced kept_of keeps encoded_internal encoded_t encoded_b length_exponent base_of top_of placed corrected
    exponent mantissa whole_top high bits capability_of bits_of with_bounds least_base least_top bounds_exponent
globals_strict = refl

-- int x;if(&x)putchar(65);putchar((_Bool)&x); a pointer to an object is not null
abbrev truth : Program
truth = main 0 (4 ∷ []) (Block (Objects 0 ∷ [])
    (seq (If (at 2) pointer (array 0) (putting 65) Empty
    ∷ Do (put (Convert (at 3) pointer (Plain int.Bool) false (array 0))) ∷ finish ∷ [])) ∷ [])

truth_placed : placed_run truth map quiet 10 ≡ out (65 ∷ 1 ∷ []) (ending.Exit 0)
unfolding fate start operations load store copy_unit owned alignment first_from binary_of compare_of converted wrapped
    value_of reduced kept_of keeps encoded_internal encoded_t encoded_b length_exponent base_of top_of placed corrected
    exponent mantissa whole_top high bits capability_of bits_of with_bounds least_base least_top bounds_exponent
truth_placed = refl

truth_strict : strict_run truth quiet 10 ≡ out (65 ∷ 1 ∷ []) (ending.Exit 0)
unfolding fate start operations load store copy_unit owned alignment first_from binary_of compare_of converted wrapped
    value_of reduced kept_of keeps encoded_internal encoded_t encoded_b length_exponent base_of top_of placed corrected
    exponent mantissa whole_top high bits capability_of bits_of with_bounds least_base least_top bounds_exponent
truth_strict = refl
