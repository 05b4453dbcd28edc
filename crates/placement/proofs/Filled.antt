-- What stands in the objects with which a program begins.
use Rattle.std.proofs.Common.{◌≡◌, ℕ, zero, suc, ◌+◌, ◌-◌, ◌%◌, ◌^◌, ◌<◌, ◌≤◌, Bool, false, ◌||◌, nat_lt, List, [], ◌∷◌}
use Rattle.std.proofs.Common.{◌++◌, length, replicate, Option, Some, None, Result, Ok, Err, refl, sym, ap, ◌∙◌, subst}
use Rattle.std.proofs.Common.{arith}
use Rattle.std.specs.Prelude.{slice_get, slice_set, find}
use Rattle.std.proofs.lemmas.Bool.Decides.{nat_tests}
use Rattle.std.proofs.Common.{length-append}
use Rattle.std.proofs.lemmas.List.{length-replicate}
use Rattle.cap_ops.specs.declared.access.Cause.{Cause}
use Rattle.cap_ops.specs.Access.{in_order}
use Rattle.obj_mem.specs.declared.map.Map.{Map}
use Rattle.obj_mem.specs.declared.ending.Fault.{Fault}
use Rattle.obj_mem.specs.declared.ending.Fault.TheVariants as F
use Rattle.obj_mem.specs.Values.{Value, Int, Live, Addresses}
use Rattle.obj_mem.specs.Objects.{Life, Active, Shape, Content, Note, Memory, Mode, Placed, Strict, owned_of_shape}
use Rattle.obj_mem.specs.Access.{Spot, misses, unless, reach, onward, outside_unless_active, takes_padding}
use Rattle.obj_mem.specs.Access.{padding_where, at_place, at_spot, Piece, store_access, put, stored_piece, store}
use Rattle.obj_mem.specs.Table.{addresses_of}
use Rattle.obj_mem.specs.Agreement.{SameShape, SameMemory, Answers}
use Rattle.obj_mem.proofs.Pairs.{Both, neither, both, get_both}
use Rattle.obj_mem.proofs.Units.{memory_agrees_law}
use Rattle.cheri_c_sem.specs.Modes.{Store, stored, operations, placed_plan, strict_plan}
use Rattle.cheri_c_sem.specs.Tree.{Global, Starting}
use Rattle.cheri_c_sem.specs.Calls.{memory_or, written, with_bytes, with_links, all_bytes, fill_globals, link_globals}
use Rattle.cheri_c_sem.specs.Calls.{fill_literals}
use Rattle.obj_mem.specs.Standing.{IsGood}
use Rattle.placement.specs.Memories.{ContentsGood}
use Rattle.placement.proofs.Good.{WhereOk}
use Rattle.placement.proofs.Stored.{PieceGood, padded, living, put_piece_good, stored_good, bytes_good}

-- ---- a store at the start succeeds, or fails by a cause that does not depend on the mode

abbrev IsFine : {A : Type 0} → Result A Fault → Type 0
IsFine (Ok x) = Unit {0}
IsFine (Err (F.Cause c)) = Unit {0}
IsFine (Err F.Outside) = ⊥
IsFine (Err (F.Unspecified r)) = ⊥

active_fine : {A : Type 0} (l : Life) (b : Bool) (x : A) → l ≡ Active → b ≡ false
    → IsFine {A = A} (outside_unless_active l (padding_where b (Ok x)))
active_fine l b x e f = subst (λ z. IsFine (outside_unless_active z (padding_where b (Ok x)))) (sym e)
    (subst (λ z. IsFine (padding_where z (Ok x))) (sym f) tt)

no_padding : (notes : List Note) (h : Shape) (s : Spot) (n : ℕ) → notes ≡ [] → s.at + n ≤ h.length
    → takes_padding notes h s n ≡ false
no_padding notes h s n e f = subst (λ z. takes_padding z h s n ≡ false) (sym e) (not_past (s.at + n) h.length f)
  where
    not_past : (x y : ℕ) → x ≤ y → (nat_lt y x || false) ≡ false
    not_past x y l = grind (arith, nat_tests)

spot_fine : {A : Type 0} (m : Memory) (s : Spot) (n : ℕ) (f : Content → A) (h : Shape) (c : Content)
    → slice_get m.shapes s.object ≡ Some h → slice_get m.contents s.object ≡ Some c → h.life ≡ Active → m.notes ≡ []
    → s.at + n ≤ h.length
    → IsFine {A = A} (at_spot Strict m s n (λ x. Ok (f x)))
spot_fine m s n f h c is there live notes fits =
    subst (λ o. IsFine (at_place Strict m s n o (slice_get m.contents s.object) (λ x. Ok (f x)))) (sym is)
    (subst (λ o. IsFine (at_place Strict m s n (Some h) o (λ x. Ok (f x)))) (sym there)
    (active_fine h.life (takes_padding m.notes h s n) (f c) live (no_padding m.notes h s n notes fits)))

unless_fine : {A B : Type 0} (o : Option Cause) (x : A) (f : A → Result B Fault) → IsFine (f x)
    → IsFine (onward (unless o (Ok x)) f)
unless_fine None x f h = h
unless_fine (Some c) x f h = tt

put_fine : (m : Memory) (k high at permissions n : ℕ) (u : Piece) (h : Shape) (c : Content)
    → slice_get m.shapes k ≡ Some h → slice_get m.contents k ≡ Some c → h.life ≡ Active → m.notes ≡ []
    → at + n ≤ h.length
    → IsFine (put Strict m (Live k 0 high at permissions) n u)
put_fine m k high at permissions n u h c is there live notes fits =
    unless_fine (find (misses 0 high at permissions (store_access n u)) in_order) _ _
    (spot_fine m _ n _ h c is there live notes fits)

store_fine : (m : Memory) (k high at permissions n : ℕ) (v : Value) (h : Shape) (c : Content)
    → slice_get m.shapes k ≡ Some h → slice_get m.contents k ≡ Some c → h.life ≡ Active → m.notes ≡ []
    → at + n ≤ h.length
    → IsFine (store Strict m (Live k 0 high at permissions) n v)
unfolding store
store_fine m k high at permissions n v h c is there live notes fits =
    put_fine m k high at permissions n (stored_piece n v) h c is there live notes fits

-- ---- what a store leaves

-- a store leaves the notes and the number of contents
record Leaves (m x : Memory) : Type 0 where
  shapes : x.shapes ≡ m.shapes
  notes : x.notes ≡ m.notes
  as_many : length x.contents ≡ length m.contents

set_length : {A : Type 0} (xs : List A) (i : ℕ) (x : A) → length (slice_set xs i x) ≡ length xs
set_length [] i x = refl
set_length (y ∷ xs) zero x = refl
set_length (y ∷ xs) (suc i) x = ap suc (set_length xs i x)

placed_ok : {A : Type 0} (Q : A → Type 0) (d : Mode) (m : Memory) (p : Spot) (n : ℕ) (a : Option Shape)
    (b : Option Content) (f : Content → Result A Fault) → ((c : Content) → WhereOk Q (f c))
    → WhereOk Q (at_place d m p n a b f)
placed_ok Q d m p n None b f h = tt
placed_ok Q d m p n (Some x) None f h = tt
placed_ok Q d m p n (Some x) (Some c) f h = living Q x.life _ (padded Q _ _ (h c))

reached_ok : {A B : Type 0} (Q : B → Type 0) (x : Result A Fault) (f : A → Result B Fault)
    → ((v : A) → WhereOk Q (f v)) → WhereOk Q (onward x f)
reached_ok Q (Ok v) f h = h v
reached_ok Q (Err e) f h = tt

store_leaves : (d : Mode) (m : Memory) (p : Value) (n : ℕ) (v : Value) → WhereOk (Leaves m) (store d m p n v)
unfolding store
store_leaves d m p n v = reached_ok (Leaves m) (reach (store_access n (stored_piece n v)) p) _ (λ s.
    placed_ok (Leaves m) d m s n _ _ _
    (λ c. record { shapes = refl; notes = refl; as_many = set_length m.contents s.object _ }))

-- ---- the start

there_too : {A B : Type 0} (xs : List A) (ys : List B) (k : ℕ) (x : A) → length ys ≡ length xs
    → slice_get xs k ≡ Some x → (y : B) × (slice_get ys k ≡ Some y)
there_too [] ys k x e f = absurd cc
there_too (a ∷ xs) [] k x e f = absurd (omega arith)
there_too (a ∷ xs) (b ∷ ys) zero x e f = (b, refl)
there_too (a ∷ xs) (b ∷ ys) (suc k) x e f = let d : length ys ≡ length xs = omega arith in there_too xs ys k x d f

module _ (functions : ℕ) (m : Map) (t u : List Shape) (active : (k : ℕ) (h : Shape) → slice_get t k ≡ Some h
    → h.life ≡ Active) where
  abbrev a : Addresses
  a = addresses_of m

  -- memories at the start, with these objects
  pub record Ready (s p : Store) : Type 0 where
    pub same : SameMemory s.memory p.memory
    pub strict : s.memory.shapes ≡ t
    pub placed : p.memory.shapes ≡ u
    pub notes : s.memory.notes ≡ []
    pub strict_heap : s.heap ≡ 0
    pub placed_heap : p.heap ≡ a.heap
    pub as_many : length s.memory.contents ≡ length t
    pub contents : ContentsGood t functions s.memory.contents

  -- what a store answers, in both modes
  after : (s p : Store) → Ready s p → (x y : Result Memory Fault) → Answers SameMemory x y → IsFine x
      → WhereOk (Leaves s.memory) x → WhereOk (Leaves p.memory) y → WhereOk (λ z. ContentsGood t functions z.contents) x
      → Ready (memory_or (operations strict_plan) s (stored s x))
      (memory_or (operations (placed_plan m)) p (stored p y))
  after s p r (Ok x) (Ok y) h f l l' g = record {
    same = h;
    strict = l.shapes ∙ r.strict;
    placed = l'.shapes ∙ r.placed;
    notes = l.notes ∙ r.notes;
    strict_heap = r.strict_heap;
    placed_heap = r.placed_heap;
    as_many = l.as_many ∙ r.as_many;
    contents = g;
  }
  after s p r (Ok x) (Err e) h f l l' g = absurd h
  after s p r (Err (F.Cause c)) y h f l l' g =
      subst (λ z. Ready s (memory_or (operations (placed_plan m)) p (stored p z))) (sym h) r
  after s p r (Err F.Outside) y h f l l' g = absurd f
  after s p r (Err (F.Unspecified z)) y h f l l' g = absurd f

  owned_same : (o o' : Option Shape) → Both SameShape o o' → owned_of_shape o ≡ owned_of_shape o'
  owned_same o o' neither = refl
  owned_same o o' (both g h r) = r.owned

  store_good_piece : (s : Store) → ContentsGood t functions s.memory.contents → (p : Value) (n : ℕ) (v : Value)
      → PieceGood t functions (stored_piece n v) → WhereOk (λ z. ContentsGood t functions z.contents)
      (store Strict s.memory p n v)
  unfolding store
  store_good_piece s g p n v h = put_piece_good t functions s.memory g p n (stored_piece n v) h

  pub one_written : (s p : Store) → Ready s p → (k at n : ℕ) (v : Value) (h : Shape) → slice_get t k ≡ Some h
      → at + n ≤ h.length → at < 2 ^ 64 → PieceGood t functions (stored_piece n v)
      → Ready (written (operations strict_plan) s k at n v) (written (operations (placed_plan m)) p k at n v)
  unfolding operations
  one_written s p r k at n v h is fits small good =
      let is_s : slice_get s.memory.shapes k ≡ Some h = subst (λ z. slice_get z k ≡ Some h) (sym r.strict) is in
      let c = there_too s.memory.shapes s.memory.contents k h (r.as_many ∙ ap length (sym r.strict)) is_s in
      let off : (0 + at) % 2 ^ 64 ≡ at = omega arith in
      let same_owned : owned_of_shape (slice_get s.memory.shapes k) ≡ owned_of_shape (slice_get p.memory.shapes k) =
      owned_same _ _ (get_both SameShape k s.memory.shapes p.memory.shapes r.same.shapes) in
      let v0 : Value = Live k 0 (owned_of_shape (slice_get s.memory.shapes k)) ((0 + at) % 2 ^ 64) 125 in
      subst (λ w. Ready (memory_or (operations strict_plan) s (stored s (store Strict s.memory v0 n v)))
      (memory_or (operations (placed_plan m)) p
      (stored p (store (Placed a) p.memory (Live k 0 w ((0 + at) % 2 ^ 64) 125) n v)))) same_owned
      (after s p r (store Strict s.memory v0 n v) (store (Placed a) p.memory v0 n v)
      ((memory_agrees_law a).stores s.memory p.memory r.same v0 n v)
      (store_fine s.memory k _ ((0 + at) % 2 ^ 64) 125 n v h c.0 is_s c.1 (active k h is) r.notes
      (omega (arith, off, fits)))
      (store_leaves Strict s.memory v0 n v) (store_leaves (Placed a) p.memory v0 n v)
      (store_good_piece s r.contents v0 n v good))

  -- ---- objects that are filled

  -- an object of this number and length
  pub record IsOf (k n : ℕ) : Type 0 where
    pub shape : Shape
    pub there : slice_get t k ≡ Some shape
    pub length : shape.length ≡ n
    pub small : n ≤ 2 ^ 40

  pub bytes_written : (bs : List ℕ) (s p : Store) → Ready s p → (k n at : ℕ) → IsOf k n → at + length bs ≤ n
      → Ready (with_bytes (operations strict_plan) s k at bs) (with_bytes (operations (placed_plan m)) p k at bs)
  bytes_written [] s p r k n at o l = r
  bytes_written (b ∷ bs) s p r k n at o l =
      let e = o.length in
      let small = o.small in
      bytes_written bs _ _ (one_written s p r k at 1 (Int b) o.shape o.there (omega (arith, e, l))
      (omega (arith, e, l, small)) (bytes_good 1 b)) k n (suc at) o (omega (arith, l))

  abbrev pub LinksFit : ℕ → List Starting → Type 0
  LinksFit n [] = Unit {0}
  LinksFit n (l ∷ ls) = (l.at + 16 ≤ n) × IsGood t functions l.value × LinksFit n ls

  pub links_written : (ls : List Starting) (s p : Store) → Ready s p → (k n : ℕ) → IsOf k n → LinksFit n ls
      → Ready (with_links (operations strict_plan) s k ls) (with_links (operations (placed_plan m)) p k ls)
  links_written [] s p r k n o f = r
  links_written (l ∷ ls) s p r k n o f =
      let e = o.length in
      let small = o.small in
      let x = f.0 in
      links_written ls _ _ (one_written s p r k l.at 16 l.value o.shape o.there (omega (arith, e, x))
      (omega (arith, x, small)) (stored_good t functions 16 l.value f.1)) k n o f.2

  -- the globals from an object on, and the literals
  abbrev pub GlobalsFit : ℕ → List Global → Type 0
  GlobalsFit k [] = Unit {0}
  GlobalsFit k (g ∷ gs) = IsOf k g.length × (length g.bytes ≤ g.length) × LinksFit g.length g.links × GlobalsFit
      (suc k) gs

  abbrev pub LiteralsFit : ℕ → List (List ℕ) → Type 0
  LiteralsFit k [] = Unit {0}
  LiteralsFit k (bs ∷ ls) = IsOf k (length bs) × LiteralsFit (suc k) ls

  filled_length : (bs : List ℕ) (n : ℕ) → length bs ≤ n → length (bs ++ replicate (n - length bs) 0) ≡ n
  filled_length bs n l = omega
      (arith, length-append bs (replicate (n - length bs) 0), length-replicate {A = ℕ} (n - length bs) 0)

  pub globals_filled : (gs : List Global) (s p : Store) → Ready s p → (k : ℕ) → GlobalsFit k gs
      → Ready (fill_globals (operations strict_plan) s k gs) (fill_globals (operations (placed_plan m)) p k gs)
  globals_filled [] s p r k f = r
  globals_filled (g ∷ gs) s p r k f =
      let e = filled_length g.bytes g.length f.1 in
      globals_filled gs _ _ (bytes_written (all_bytes (operations strict_plan) g) s p r k g.length 0 f.0
      (omega (arith, e))) (suc k) f.3

  pub literals_filled : (ls : List (List ℕ)) (s p : Store) → Ready s p → (k : ℕ) → LiteralsFit k ls
      → Ready (fill_literals (operations strict_plan) s k ls) (fill_literals (operations (placed_plan m)) p k ls)
  literals_filled [] s p r k f = r
  literals_filled (bs ∷ ls) s p r k f =
      literals_filled ls _ _ (bytes_written bs s p r k (length bs) 0 f.0 (omega arith)) (suc k) f.1

  pub globals_linked : (gs : List Global) (s p : Store) → Ready s p → (k : ℕ) → GlobalsFit k gs
      → Ready (link_globals (operations strict_plan) s k gs) (link_globals (operations (placed_plan m)) p k gs)
  globals_linked [] s p r k f = r
  globals_linked (g ∷ gs) s p r k f = globals_linked gs _ _ (links_written g.links s p r k g.length f.0 f.2) (suc k) f.3
