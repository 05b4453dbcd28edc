-- Operations that change memories keep them standing for one another.
use Rattle.std.proofs.Common.{◌≡◌, ℕ, ◌+◌, ◌-◌, ◌<◌, List, [], ◌∷◌, Option, Some, None, Result, Ok, Err, refl, sym}
use Rattle.std.proofs.Common.{subst}
use Rattle.std.specs.Prelude.{slice_get}
use Rattle.obj_mem.specs.declared.ending.Fault.{Fault}
use Rattle.obj_mem.specs.declared.ending.Fault.TheVariants as F
use Rattle.obj_mem.specs.declared.ending.UnitFault.{UnitFault}
use Rattle.obj_mem.specs.declared.ending.UnitFault.TheVariants as U
use Rattle.obj_mem.specs.Values.{Value, Int, Live, Fun, Raw, Addresses}
use Rattle.obj_mem.specs.Objects.{Life, Active, Inactive, Returned, Shape, Content, Memory, Mode, Placed, Strict}
use Rattle.obj_mem.specs.Objects.{with_life_by, leave, zero_object, note_member}
use Rattle.obj_mem.specs.Access.{store, copy_unit}
use Rattle.obj_mem.specs.Agreement.{Paired, IsNotReturned, SameLife, SameShape, SameMemory, Answers, CopyAnswers}
use Rattle.obj_mem.specs.Standing.{IsGood}
use Rattle.obj_mem.proofs.Pairs.{Both, neither, both, get_both}
use Rattle.obj_mem.proofs.Units.{memory_agrees_law}
use Rattle.cheri_c_sem.specs.Modes.{Store, with_memory, stored, copied}
use Rattle.placement.specs.Relations.{Moved}
use Rattle.placement.specs.Memories.{KeepsShapes, IsAlive, ValuesGood, ContentsGood, Stand, memories}
use Rattle.placement.proofs.Lists.{some_same}
use Rattle.placement.proofs.Shapes.{Alters, alters_same, alters_life, KeepsOwned, owned_kept, good_owned, there_later}
use Rattle.placement.proofs.Shapes.{alive_later, clear_same, spread_same, stack_altered}
use Rattle.placement.proofs.Good.{WhereOk}
use Rattle.placement.proofs.Stored.{WhereUnitOk, blank_content, content_set, store_good, copy_good, store_shapes}
use Rattle.placement.proofs.Stored.{copy_shapes}

-- ---- goodness as a run goes on

values_later : (s t : List Shape) (functions : ℕ) → KeepsOwned s t → (vs : List (Option Value))
    → ValuesGood s functions vs → ValuesGood t functions vs
values_later s t functions l [] g = tt
values_later s t functions l (None ∷ vs) g = values_later s t functions l vs g
values_later s t functions l (Some v ∷ vs) g = (good_owned s t functions l v g.0, values_later s t functions l vs g.1)

pub contents_owned : (s t : List Shape) (functions : ℕ) → KeepsOwned s t → (cs : List Content)
    → ContentsGood s functions cs → ContentsGood t functions cs
contents_owned s t functions l [] g = tt
contents_owned s t functions l (c ∷ cs) g = let h =
    g.0 in (
      record { cells = h.cells; values = values_later s t functions l c.values h.values },
      contents_owned s t functions l cs g.1,
    )

pub contents_later : (s t : List Shape) (functions : ℕ) → KeepsShapes s t → (cs : List Content)
    → ContentsGood s functions cs → ContentsGood t functions cs
contents_later s t functions l cs g = contents_owned s t functions (owned_kept s t l) cs g

-- ---- lives in both runs

not_returned : (l l' : Life) → SameLife l l' → IsNotReturned l → IsNotReturned l'
not_returned Active l' e x = subst IsNotReturned (sym e) tt
not_returned Inactive l' e x = e
not_returned Returned l' e x = absurd x

placed_life : (o o' : Option Shape) → Both SameShape o o' → (h : Shape) → o ≡ Some h → IsNotReturned h.life
    → (g : Shape) → o' ≡ Some g → IsNotReturned g.life
placed_life o o' neither h e x g f = absurd cc
placed_life o o' (both u v r) h e x g f =
    let p : u ≡ h = cc in
    let q : v ≡ g = cc in
    subst (λ z. IsNotReturned z.life) q
    (not_returned u.life v.life r.life (subst (λ z. IsNotReturned z.life) (sym p) x))

-- an object that has not returned in the strict run has not in the placed one
pub stands_placed : (s t : List Shape) → Paired SameShape s t → (k : ℕ) → IsAlive s k → (g : Shape)
    → slice_get t k ≡ Some g → IsNotReturned g.life
stands_placed s t e k a g f = placed_life (slice_get s k) (slice_get t k) (get_both SameShape k s t e) a.0 a.1 a.2 g f

stands_strict : (s : List Shape) (k : ℕ) → IsAlive s k → (g : Shape) → slice_get s k ≡ Some g → IsNotReturned g.life
stands_strict s k a g f = subst (λ z. IsNotReturned z.life) (some_same (slice_get s k) a.0 g a.1 f) a.2

note_shapes : (d : Mode) (m : Memory) (v : Value) (own : ℕ) → (note_member d m v own).shapes ≡ m.shapes
note_shapes (Placed a) m (Int x) own = refl
note_shapes (Placed a) m (Raw x u) own = refl
note_shapes (Placed a) m (Fun f) own = refl
note_shapes (Placed a) m (Live o low high at p) own = refl
note_shapes Strict m (Int x) own = refl
note_shapes Strict m (Raw x u) own = refl
note_shapes Strict m (Fun f) own = refl
note_shapes Strict m (Live o low high at p) own = refl

note_contents : (m : Memory) (v : Value) (own : ℕ) → (note_member Strict m v own).contents ≡ m.contents
note_contents m (Int x) own = refl
note_contents m (Raw x u) own = refl
note_contents m (Fun f) own = refl
note_contents m (Live o low high at p) own = refl

module _ (globals functions : ℕ) (a : Addresses) (stack size : ℕ) (objects first frame : ℕ) (s p : Store)
    (e : Stand globals functions a stack size objects first frame s p) where
  -- the same objects, perhaps with other lives and contents
  abbrev Becomes : Memory → Memory → Type 0
  Becomes m n = Moved (memories globals functions a stack size) objects first frame s p (with_memory s m)
      (with_memory p n)

  altered : (m n : Memory) → SameMemory m n → Alters s.memory.shapes m.shapes → Alters p.memory.shapes n.shapes
      → ContentsGood m.shapes functions m.contents → Becomes m n
  altered m n same x y g = (
    record {
      same = same;
      spread = spread_same p.memory.shapes n.shapes functions a y.back e.spread;
      contents = g;
      globals_there = λ i l. there_later s.memory.shapes m.shapes x.forward i (e.globals_there i l);
      locals_alive = λ i l. alive_later s.memory.shapes m.shapes x.forward (first + i) (e.locals_alive i l);
      heap_from = e.heap_from;
      heap_least = e.heap_least;
      heap_to = e.heap_to;
      heap_clear = clear_same p.memory.shapes n.shapes y.back p.heap (a.heap_end - p.heap) e.heap_clear;
      frame_to = e.frame_to;
      stack_clear = clear_same p.memory.shapes n.shapes y.back stack (frame - stack) e.stack_clear;
    },
    record {
      strict = x.forward;
      placed = y.forward;
      kept_stack =
          stack_altered stack size p.memory.shapes n.shapes y.back;
    },
  )

  -- where no object changes but in its contents
  written : (m n : Memory) → SameMemory m n → m.shapes ≡ s.memory.shapes → n.shapes ≡ p.memory.shapes
      → ContentsGood s.memory.shapes functions m.contents → Becomes m n
  written m n same x y g = altered m n same (alters_same _ _ x) (alters_same _ _ y)
      (subst (λ t. ContentsGood t functions m.contents) (sym x) g)

  answers_written : (x y : Result Memory Fault) → Answers SameMemory x y
      → WhereOk (λ m. ContentsGood s.memory.shapes functions m.contents) x
      → WhereOk (λ m. m.shapes ≡ s.memory.shapes) x → WhereOk (λ m. m.shapes ≡ p.memory.shapes) y
      → Answers (Moved (memories globals functions a stack size) objects first frame s p) (stored s x) (stored p y)
  answers_written (Ok m) (Ok n) h g q r = written m n h q r g
  answers_written (Ok m) (Err f) h g q r = absurd h
  answers_written (Err (F.Cause c)) y h g q r = subst (λ z. stored p z ≡ Err (F.Cause c)) (sym h) refl
  answers_written (Err F.Outside) y h g q r = tt
  answers_written (Err (F.Unspecified u)) y h g q r = tt

  pub stores : (v x : Value) (k : ℕ) → IsGood s.memory.shapes functions x
      → Answers (Moved (memories globals functions a stack size) objects first frame s p)
      (stored s (store Strict s.memory v k x)) (stored p (store (Placed a) p.memory v k x))
  stores v x k g = answers_written _ _ ((memory_agrees_law a).stores s.memory p.memory e.same v k x)
      (store_good s.memory.shapes functions s.memory e.contents v k x g) (store_shapes Strict s.memory v k x)
      (store_shapes (Placed a) p.memory v k x)

  answers_copied : (x y : Result Memory UnitFault) → CopyAnswers SameMemory x y
      → WhereUnitOk (λ m. ContentsGood s.memory.shapes functions m.contents) x
      → WhereUnitOk (λ m. m.shapes ≡ s.memory.shapes) x → WhereUnitOk (λ m. m.shapes ≡ p.memory.shapes) y
      → CopyAnswers (Moved (memories globals functions a stack size) objects first frame s p) (copied s x) (copied p y)
  answers_copied (Ok m) (Ok n) h g q r = written m n h q r g
  answers_copied (Ok m) (Err f) h g q r = absurd h
  answers_copied (Err (U.Load (F.Cause c))) y h g q r = subst (λ z. copied p z ≡ Err (U.Load (F.Cause c))) (sym h) refl
  answers_copied (Err (U.Store (F.Cause c))) y h g q r = subst (λ z. copied p z ≡ Err (U.Store (F.Cause c)))
      (sym h) refl
  answers_copied (Err (U.Load F.Outside)) y h g q r = tt
  answers_copied (Err (U.Store F.Outside)) y h g q r = tt
  answers_copied (Err (U.Load (F.Unspecified u))) y h g q r = tt
  answers_copied (Err (U.Store (F.Unspecified u))) y h g q r = tt

  pub copies : (v w : Value) (k : ℕ)
      → CopyAnswers (Moved (memories globals functions a stack size) objects first frame s p)
      (copied s (copy_unit Strict s.memory v w k)) (copied p (copy_unit (Placed a) p.memory v w k))
  copies v w k = answers_copied _ _ ((memory_agrees_law a).copies s.memory p.memory e.same v w k)
      (copy_good s.memory.shapes functions s.memory e.contents v w k) (copy_shapes Strict s.memory v w k)
      (copy_shapes (Placed a) p.memory v w k)

  pub notes : (v : Value) (own : ℕ) → Becomes (note_member Strict s.memory v own)
      (note_member (Placed a) p.memory v own)
  notes v own = written _ _ ((memory_agrees_law a).notes s.memory p.memory e.same v own)
      (note_shapes Strict s.memory v own) (note_shapes (Placed a) p.memory v own)
      (subst (λ cs. ContentsGood s.memory.shapes functions cs) (sym (note_contents s.memory v own)) e.contents)

  -- the call's own objects
  strict_alters : (l : Life) → IsNotReturned l → (i : ℕ) → i < objects
      → Alters s.memory.shapes (with_life_by l s.memory.shapes (first + i) (slice_get s.memory.shapes (first + i)))
  strict_alters l x i h = alters_life l x s.memory.shapes (first + i) (slice_get s.memory.shapes (first + i)) refl
      (stands_strict s.memory.shapes (first + i) (e.locals_alive i h))

  placed_alters : (l : Life) → IsNotReturned l → (i : ℕ) → i < objects
      → Alters p.memory.shapes (with_life_by l p.memory.shapes (first + i) (slice_get p.memory.shapes (first + i)))
  placed_alters l x i h = alters_life l x p.memory.shapes (first + i) (slice_get p.memory.shapes (first + i)) refl
      (stands_placed s.memory.shapes p.memory.shapes e.same.shapes (first + i) (e.locals_alive i h))

  pub zeros : (i : ℕ) → i < objects → Becomes (zero_object Strict s.memory (first + i))
      (zero_object (Placed a) p.memory (first + i))
  zeros i h =
      let x = strict_alters Active tt i h in
      let t : List Shape = with_life_by Active s.memory.shapes (first + i) (slice_get s.memory.shapes (first + i)) in
      altered _ _ ((memory_agrees_law a).zeros s.memory p.memory e.same (first + i)) x (placed_alters Active tt i h)
      (content_set t functions s.memory.contents (first + i) _ (blank_content t functions _)
      (contents_later s.memory.shapes t functions x.forward s.memory.contents e.contents))

  pub leaves : (i : ℕ) → i < objects → Becomes (leave Strict s.memory (first + i))
      (leave (Placed a) p.memory (first + i))
  leaves i h =
      let x = strict_alters Inactive tt i h in
      altered _ _ ((memory_agrees_law a).leaves s.memory p.memory e.same (first + i)
      (stands_placed s.memory.shapes p.memory.shapes e.same.shapes (first + i) (e.locals_alive i h))) x
      (alters_same _ _ refl)
      (contents_later s.memory.shapes _ functions x.forward s.memory.contents e.contents)
