-- Why the law asks that the input is of bytes: for numbers that are none the strict meaning and the placed one can
-- differ, since the first compares the numbers and the second the bits that they have room for.
use Rattle.std.specs.Prelude.{◌≡◌, ◌+◌, ◌^◌, true, false, [], ◌∷◌, Some, None, refl}
use Rattle.ck_base.specs.World.{World}
use Rattle.ck_int.specs.declared.kinds.IntKind.TheVariants as int
use Rattle.cap_concentrate.specs.Packing.{bits_of, fields_of}
use Rattle.obj_mem.specs.Values.{capability_of, bits}
use Rattle.obj_mem.specs.declared.ending.Ending.TheVariants as ending
use Rattle.cheri_c_sem.specs.Kinds.{Plain, Capability}
use Rattle.cheri_c_sem.specs.Operations as work
use Rattle.cheri_c_sem.specs.Tree.{Program, Return, Null, Convert, Library, Get_char, Works}
use Rattle.cheri_c_sem.specs.Calls.{start, fate}
use Rattle.cheri_c_sem.specs.Modes.{operations}
use Rattle.cheri_c_sem.specs.Runs.{placed_run, strict_run}
use Rattle.cheri_c_sem.proofs.Words.{at, args, main, map}

-- uintptr_t u=getchar();return cheri_is_equal_exact(u,(uintptr_t)5);
abbrev compared : Program
compared = main 0 [] (Return
    (Some (Library (at 9) (Works work.Equal_exact)
    (args (Convert (at 5) (Plain int.I32) (Capability false) true (Library (at 6) Get_char (args [])) ∷ Null 5 ∷
    [])))) ∷ [])

-- an input that is not of bytes
abbrev no_bytes : World
no_bytes = record { bytes = (2 ^ 128 + 5) ∷ []; failing_read = None; failing_put = None }

strictly : (strict_run compared no_bytes 1).ending ≡ ending.Exit 0
unfolding fate start operations
strictly = refl

placed_differs : (placed_run compared map no_bytes 1).ending ≡ ending.Exit 1
unfolding fate start operations capability_of bits bits_of fields_of
placed_differs = refl
