-- Stores into the padding of an object, and past it. An object of n bytes owns more where its bounds are rounded: a
-- pointer to it reaches all that it owns, so that under a map a store up to there is one like any other, and one past
-- it traps. The strict meaning ends where n is passed. This holds of each store of a byte in any code.
use Rattle.std.proofs.Common.{◌≡◌, ℕ, ◌+◌, ◌%◌, ◌<◌, ◌≤◌, true, List, ◌∷◌, Some, Ok, refl, ap, ◌∙◌, arith}
use Rattle.std.specs.Prelude.{slice_get, slice_set, ◌==◌}
use Rattle.std.proofs.lemmas.Bool.{le-ltb, lt-ltb}
use Rattle.std.proofs.lemmas.Bool.Decides.{nat_tests}
use Rattle.ck_base.specs.World.{World}
use Rattle.ck_base.specs.declared.positions.Pos.{Pos}
use Rattle.ck_int.specs.declared.kinds.IntKind.TheVariants as int
use Rattle.cap_concentrate.specs.Rounding.{owned, alignment, first_from}
use Rattle.cap_ops.specs.Capability.{permits}
use Rattle.cap_ops.specs.declared.access.Access.TheVariants as A
use Rattle.cap_ops.specs.declared.access.Cause.TheVariants as cause
use Rattle.cap_ops.specs.declared.capability.TheConstants.{LOAD_CAPABILITY}
use Rattle.c_tree.specs.declared.typed.Typed.{Typed}
use Rattle.obj_mem.specs.Access.{reach, store, with_piece, stored_piece, trap, unspecified}
use Rattle.obj_mem.specs.Objects.{Active, Content, Memory, Mode, Placed, Strict, Shape}
use Rattle.obj_mem.specs.Values.{Live, Int, Addresses}
use Rattle.obj_mem.specs.declared.ending.Ending.TheVariants as ending
use Rattle.obj_mem.specs.declared.ending.Reason.TheVariants as reason
use Rattle.obj_mem.specs.declared.map.Map.{Map}
use Rattle.cheri_c_sem.specs.Modes.{Store, Plan, operations, placed_plan, strict_plan, stored}
use Rattle.cheri_c_sem.specs.Steps.{State, Fate, answer, over}
use Rattle.tac_ir.specs.Effects.{temp_in}
use Rattle.tac_ir.specs.Meaning.{Running, Runs, turns}
use Rattle.tac_ir.specs.declared.code.Tac.{Tac}
use Rattle.tac_ir.specs.declared.code.TacInstr.{TacInstr}
use Rattle.tac_ir.specs.declared.code.TacInstr.TheVariants as instr
use Rattle.tac_ir.specs.declared.code.TacKind.TheVariants as kind

-- memory has an object of n bytes, which may be accessed
pub record HasObject (m : Memory) (o n : ℕ) : Type 0 where
  pub shape : Shape
  pub content : Content
  pub there : slice_get m.shapes o ≡ Some shape
  pub holds : slice_get m.contents o ≡ Some content
  pub long : shape.length ≡ n
  pub active : shape.life ≡ Active

whole_multiple : (k : ℕ) → (k % 1 == 0) ≡ true
whole_multiple k = grind (arith, nat_tests)

-- ---- one byte at offset k of an object whose pointer has bounds from 0 to `high`

reached : (o high k : ℕ) → k < high →
    reach (A.Store 1) (Live o 0 high k 125) ≡ Ok
    (record { object = o; low = 0; high = high; at = k; carries = permits 125 LOAD_CAPABILITY })
reached o high k lt = rw (le-ltb k 0 (omega arith), le-ltb high (k + 1) (omega arith), whole_multiple k) refl

missed : (o high k : ℕ) → high ≤ k → reach (A.Store 1) (Live o 0 high k 125) ≡ trap cause.Bounds
missed o high k le = rw (le-ltb k 0 (omega arith), lt-ltb high (k + 1) (omega arith)) refl

-- past the bounds it traps, in both modes
past_bounds : (d : Mode) (m : Memory) (o high k x : ℕ) → high ≤ k →
    store d m (Live o 0 high k 125) 1 (Int x) ≡ trap cause.Bounds
unfolding store
past_bounds d m o high k x le = rw (missed o high k le) refl

-- within them it is done where there are addresses, in the padding too
in_bounds : (a : Addresses) (m : Memory) (o n high k x : ℕ) (h : HasObject m o n) → k < high
    → store (Placed a) m (Live o 0 high k 125) 1 (Int x)
    ≡ Ok (record m {
      contents = slice_set m.contents o
          (with_piece (Placed a) m.shapes h.content k (stored_piece 1 (Int x)));
    })
unfolding store
in_bounds a m o n high k x h lt = rw (reached o high k lt, h.there, h.holds, h.active) refl

-- and in the padding the strict mode ends
in_padding : (m : Memory) (o n high k x : ℕ) → HasObject m o n → n ≤ k → k < high →
    store Strict m (Live o 0 high k 125) 1 (Int x) ≡ unspecified reason.Padding
unfolding store
in_padding m o n high k x h le lt =
    rw (reached o high k lt, h.there, h.holds, h.active, lt-ltb h.shape.length (k + 1) (let q = h.long in omega arith))
    refl

-- ---- a store in some code

module _ (w : World) (t : Tac) (p : Typed) (objects : ℕ → List ℕ) (left a v : ℕ) (place : Pos) (rest : List TacInstr)
    (r : Running) (s : State Store) (o n k x : ℕ)
    (object : HasObject s.mem.memory o n) (pointer : temp_in s a ≡ Live o 0 (owned n) k 125)
    (byte : temp_in s v ≡ Int x) where
  abbrev code : List TacInstr
  code = instr.Store a v (kind.Int int.U8) place ∷ rest

  abbrev run : Plan → List TacInstr → State Store → Fate
  run d is u = turns (operations d) w t p objects left is Runs r u

  -- the run asks memory to store, and goes on with what it answers
  asks : (d : Plan) → run d code s ≡ answer place
      (stored s.mem (store d.mode s.mem.memory (Live o 0 (owned n) k 125) 1 (Int x))) s
      (λ m u. run d rest (record u { mem = m }))
  unfolding operations
  asks d = rw (pointer, byte) refl

  -- up to the owned length a run under a map goes on, also where n is passed
  pub goes_on : (map : Map) → k < owned n →
      (m : Store) × (run (placed_plan map) code s ≡ run (placed_plan map) rest (record s { mem = m }))
  goes_on map lt = (
    _,
    asks (placed_plan map)
        ∙ ap (λ q. answer place (stored s.mem q) s (λ m u. run (placed_plan map) rest (record u { mem = m })))
        (in_bounds _ s.mem.memory o n (owned n) k x object lt),
  )

  -- behind it the run ends there, with each map and without one
  pub traps : (d : Plan) → owned n ≤ k → run d code s ≡ over (ending.Trap cause.Bounds place) s
  traps d le = asks d ∙ ap (λ q. answer place (stored s.mem q) s (λ m u. run d rest (record u { mem = m })))
      (past_bounds d.mode s.mem.memory o (owned n) k x le)

  -- the strict run ends in the padding
  pub padded : n ≤ k → k < owned n → run strict_plan code s ≡ over (ending.Unspecified reason.Padding place) s
  padded le lt = asks strict_plan
      ∙ ap (λ q. answer place (stored s.mem q) s (λ m u. run strict_plan rest (record u { mem = m })))
      (in_padding s.mem.memory o n (owned n) k x object le lt)

-- ---- an object of 100,000 bytes, which owns 100,096

owns : owned 100000 ≡ 100096
unfolding owned alignment first_from
owns = refl

-- its last byte of padding, and the byte behind it: p[100095]=1 goes on under a map and is padding without one, and
-- p[100096]=1 traps in both
module _ (w : World) (t : Tac) (p : Typed) (objects : ℕ → List ℕ) (left a v : ℕ) (place : Pos) (rest : List TacInstr)
    (r : Running) (s : State Store) (o x : ℕ)
    (object : HasObject s.mem.memory o 100000) (byte : temp_in s v ≡ Int x) where
  last_of_padding : (map : Map) → temp_in s a ≡ Live o 0 (owned 100000) 100095 125
      → (m : Store) × (turns (operations (placed_plan map)) w t p objects left
      (instr.Store a v (kind.Int int.U8) place ∷ rest) Runs r s
      ≡ turns (operations (placed_plan map)) w t p objects left rest Runs r (record s { mem = m }))
  last_of_padding map pointer =
      goes_on w t p objects left a v place rest r s o 100000 100095 x object pointer byte map (omega (arith, owns))

  padding_is_unspecified : temp_in s a ≡ Live o 0 (owned 100000) 100095 125 →
      turns (operations strict_plan) w t p objects left (instr.Store a v (kind.Int int.U8) place ∷ rest) Runs r s
      ≡ over (ending.Unspecified reason.Padding place) s
  padding_is_unspecified pointer =
      padded w t p objects left a v place rest r s o 100000 100095 x object pointer byte (omega arith)
      (omega (arith, owns))

  behind_it : (d : Plan) → temp_in s a ≡ Live o 0 (owned 100000) 100096 125 →
      turns (operations d) w t p objects left (instr.Store a v (kind.Int int.U8) place ∷ rest) Runs r s
      ≡ over (ending.Trap cause.Bounds place) s
  behind_it d pointer = traps w t p objects left a v place rest r s o 100000 100096 x object pointer byte d
      (omega (arith, owns))
