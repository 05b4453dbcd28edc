-- What an initializer of an object of static storage duration gives: its bytes and pointers lie in the object, and what
-- a pointer reaches is within its target, or waits for the end of the file.
use Rattle.std.proofs.Common.{arith, ◌≡◌, ℕ, zero, suc, ◌+◌, ◌≤◌, max, true, List, [], ◌∷◌, ◌++◌, length, Option, Some}
use Rattle.std.proofs.Common.{None, Ok, ⊎_elim, inl, inr, refl, sym, ap, subst, ◌∙◌}
use Rattle.std.specs.Prelude.{◌⊎◌, ℤ, pos, slice_get, fold, ◌==◌, ◌/◌, if◌then◌else◌}
use Rattle.std.proofs.lemmas.Option.{none-some, same_Some}
use Rattle.ck_base.specs.declared.positions.Pos.{Pos}
use Rattle.c_tree.specs.Layout.{Extent, fitting, size_of}
use Rattle.c_tree.proofs.Sizes.{fitting_most}
use Rattle.c_tree.specs.Types.{Ty}
use Rattle.c_tree.specs.Terms.{type_of, Aim, To_global, To_literal, To_function, Text}
use Rattle.c_tree.specs.Scopes.{Reach, All, Aiming, StaticState, RoutineState, Pending, State, give, ◌>>=◌, size}
use Rattle.c_tree.specs.Scopes.{type_extent, has_extent}
use Rattle.c_tree.specs.Readings.{Slot}
use Rattle.c_tree.specs.Statics.{Start, Number, There, Entry, aim_length, static_length, text_length, known_value}
use Rattle.c_tree.specs.Statics.{Placed, significant, end_of, bytes_from, initial_length, initial_bytes, Found}
use Rattle.c_tree.specs.Statics.{nothing_found, ask_for, start_slot, start_slots}
use Rattle.typing_laws.proofs.Facts.{IsUsed, TagsGrow, StaticGrows, RoutineGrows, Refers}
use Rattle.typing_laws.proofs.Agreeing.{refines}
use Rattle.typing_laws.proofs.Growing.{extent_kept, refined_extent}
use Rattle.cap_concentrate.specs.Rounding.{owned}
use Rattle.typing_laws.proofs.Steps.{given, found, first_then}
use Rattle.typing_laws.proofs.Scalars.{branched}
use Rattle.typing_laws.proofs.Divides.{Multiple}
use Rattle.typing_laws.proofs.Filled.{SlotOk, AllSlots}
use Rattle.typing_laws.proofs.Started.{Callable, IsThere, IsAsked, Asks, Reached, reached_on, InTarget, StartOk, wide}
use Rattle.typing_laws.proofs.Started.{IsWide, known_wide}

-- ---- what waits

abbrev pub IsWaiting : List Pending → ℕ → ℤ → Type 0
IsWaiting [] k z = ⊥
IsWaiting (p ∷ ps) k z = ((p.static ≡ k) × (p.least ≡ z)) ⊎ IsWaiting ps k z

abbrev pub Awaits : List Pending → Aim → ℤ → Type 0
Awaits ps (To_global k) z = IsWaiting ps k z
Awaits ps a z = ⊥

abbrev pub More : List Pending → List Pending → Type 0
More ps qs = (k : ℕ) (z : ℤ) → IsWaiting ps k z → IsWaiting qs k z

pub waiting_front : (ps qs : List Pending) → More ps (ps ++ qs)
waiting_front [] qs k z h = absurd h
waiting_front (p ∷ ps) qs k z h = ⊎_elim inl (λ w. inr (waiting_front ps qs k z w)) h

waiting_last : (ps : List Pending) (p : Pending) → IsWaiting (ps ++ p ∷ []) p.static p.least
waiting_last [] p = inl (refl, refl)
waiting_last (q ∷ ps) p = inr (waiting_last ps p)

abbrev pub waiting : State → List Pending → State
waiting s ps = record s { pending = ps }

-- a state that waits for more
abbrev pub WaitsMore : State → State → Type 0
WaitsMore s r = (ps : List Pending) × (r ≡ waiting s ps) × More s.pending ps

more_self : (s : State) → WaitsMore s s
more_self s = (s.pending, refl, λ k z h. h)

more_on : (s r q : State) → WaitsMore s r → WaitsMore r q → WaitsMore s q
more_on s r q h k = (
  k.0,
  k.1 ∙ ap (λ t. waiting t k.0) h.1,
  λ j z w. k.2 j z (subst (λ (t : State). IsWaiting t.pending j z) (sym h.1) (h.2 j z w)),
)

ask_more : (p : Pos) (k : ℕ) (zs : List ℤ) (s : State) (x : Unit × State) → ask_for p (To_global k) zs s ≡ Ok x →
    WaitsMore s x.1 × ((z : ℤ) → IsAsked zs z → IsWaiting x.1.pending k z)
ask_more p k [] s x e = given (λ (y : Unit × State). WaitsMore s y.1 ×
    ((z : ℤ) → IsAsked [] z → IsWaiting y.1.pending k z)) tt s x e (more_self s, λ z h. absurd h)
ask_more p k (z ∷ zs) s x e =
    let w : Pending = record { place = p; static = k; least = z } in
    let r : State = record s { pending = s.pending ++ w ∷ [] } in
    let a = ask_more p k zs r x e in (
      more_on s r x.1 (r.pending, refl, waiting_front s.pending (w ∷ [])) a.0,
      λ y h. ⊎_elim (λ q. subst (IsWaiting x.1.pending k) q
          (subst (λ (t : State). IsWaiting t.pending k z) (sym a.0.1) (a.0.2 k z (waiting_last s.pending w))))
          (a.1 y) h,
    )

asked_more : (p : Pos) (a : Aim) (zs : List ℤ) (s : State) (x : Unit × State) → ask_for p a zs s ≡ Ok x →
    WaitsMore s x.1 × ((z : ℤ) → Asks a zs z → Awaits x.1.pending a z)
asked_more p (To_global k) zs s x e = ask_more p k zs s x e
asked_more p (To_literal k) zs s x e =
    given (λ (y : Unit × State). WaitsMore s y.1 ×
    ((z : ℤ) → Asks (To_literal k) zs z → Awaits y.1.pending (To_literal k) z)) tt s x e
    (more_self s, λ z h. absurd h)
asked_more p (To_function k) zs s x e =
    given (λ (y : Unit × State). WaitsMore s y.1 ×
    ((z : ℤ) → Asks (To_function k) zs z → Awaits y.1.pending (To_function k) z)) tt s x e
    (more_self s, λ z h. absurd h)

-- ---- a pointer and a number that are placed

abbrev pub Reaches : State → Aim → Reach → ℤ → Type 0
Reaches s a r z = Reached s (Awaits s.pending a) a r z

abbrev pub Aims : State → Aim → Reach → ℤ → Type 0
Aims s (To_function k) r z =
    (r ≡ All) × (z ≡ pos 0) × (f : RoutineState) × (slice_get s.routines k ≡ Some f) × IsUsed f.used
Aims s a r z = IsThere s a × Reaches s a r z

pub record AimingOk (s : State) (size : ℕ) (a : Aiming) : Type 0 where
  pub inside : a.at + 16 ≤ size
  pub aligned : Multiple a.at 16
  pub aims : Aims s a.aim a.reach a.offset

abbrev pub AllAim : State → ℕ → List Aiming → Type 0
AllAim s n [] = Unit {0}
AllAim s n (a ∷ ls) = AimingOk s n a × AllAim s n ls

abbrev pub AllPlaced : ℕ → List Placed → Type 0
AllPlaced n [] = Unit {0}
AllPlaced n (x ∷ xs) = (x.at + x.width ≤ n) × AllPlaced n xs

awaits_more : (ps qs : List Pending) → More ps qs → (a : Aim) (z : ℤ) → Awaits ps a z → Awaits qs a z
awaits_more ps qs m (To_global k) z h = m k z h
awaits_more ps qs m (To_literal k) z h = absurd h
awaits_more ps qs m (To_function k) z h = absurd h

-- what waits changes no length
length_waiting : (s : State) (ps : List Pending) (a : Aim) → aim_length (waiting s ps) a ≡ aim_length s a
length_waiting s ps (To_global k) = refl
length_waiting s ps (To_literal k) = refl
length_waiting s ps (To_function k) = refl

reaches_more : (s r : State) → WaitsMore s r → (a : Aim) (w : Reach) (z : ℤ) → Reaches s a w z → Reaches r a w z
reaches_more s r m a w z h =
    subst (λ t. Reaches t a w z) (sym m.1) (reached_on s (waiting s m.0) (Awaits s.pending a) (Awaits m.0 a) a w z
    (λ n e. length_waiting s m.0 a ∙ e) (awaits_more s.pending m.0 m.2 a) h)

aims_more : (s r : State) → WaitsMore s r → (a : Aim) (w : Reach) (z : ℤ) → Aims s a w z → Aims r a w z
aims_more s r m (To_global k) w z h =
    (subst (λ t. IsThere t (To_global k)) (sym m.1) h.0, reaches_more s r m (To_global k) w z h.1)
aims_more s r m (To_literal k) w z h =
    (subst (λ t. IsThere t (To_literal k)) (sym m.1) h.0, reaches_more s r m (To_literal k) w z h.1)
aims_more s r m (To_function k) w z h = subst (λ t. Aims t (To_function k) w z) (sym m.1) h

all_more : (s r : State) → WaitsMore s r → (n : ℕ) (ls : List Aiming) → AllAim s n ls → AllAim r n ls
all_more s r m n [] h = tt
all_more s r m n (a ∷ ls) h = (
  record { inside = h.0.inside; aligned = h.0.aligned; aims = aims_more s r m a.aim a.reach a.offset h.0.aims },
  all_more s r m n ls h.1,
)

-- ---- the slots

abbrev pub FoundOk : State → ℕ → Found → Type 0
FoundOk s n f = AllPlaced n f.0 × AllAim s n f.1

wide_slot : (s : State) (z : Extent) (y : Slot) → Multiple 0 z.align → SlotOk s 0 z y →
    type_extent s.tags (type_of y.value) ≡ Some wide → (y.at + 16 ≤ z.size) × Multiple y.at 16
wide_slot s z y m h e =
    let w : h.extent ≡ wide = same_Some h.extent wide (sym h.is ∙ ap (type_extent s.tags) (sym h.type) ∙ e) in
    let l : y.at + h.extent.size ≤ z.size = let q = h.inside in omega (arith, q) in
    (subst (λ (x : Extent). y.at + x.size ≤ z.size) w l, subst (λ (x : Extent). Multiple y.at x.align) w (h.aligned m))

slot_found : (q : State) (y : Slot) (v : Start × List ℤ) (f : Found) (z : Extent) (s : State) → WaitsMore q s →
    SlotOk q 0 z y → StartOk q v.0 v.1 → IsWide q.tags (type_of y.value) v.0 → FoundOk s z.size f →
    (x : Found × State) → start_slot q y v f s ≡ Ok x → WaitsMore s x.1 × FoundOk x.1 z.size x.0
slot_found q y (Number n, asks) f z s m h o w k x e =
    given (λ (r : Found × State). WaitsMore s r.1 × FoundOk r.1 z.size r.0)
    (record { at = y.at; width = size q y.of; number = n } ∷ f.0, f.1) s x e (
      more_self s,
      (
        (
          subst (λ u. y.at + size_of u ≤ z.size) (sym h.is)
              (let f = fitting_most h.extent.size in omega (arith, f, h.inside)),
          k.0,
        ),
        k.1,
      ),
    )
slot_found q y (There a r i, asks) f z s m h o w k x e =
    let c : Aiming = record { at = y.at; aim = a; reach = r; offset = i } in
    let g = first_then (ask_for y.first a asks s) (λ _. give (f.0, c ∷ f.1)) x e in
    let b = asked_more y.first a asks s g.0 g.1 in
    let p = wide_slot q z y (0, omega arith) h w in
    given (λ (r : Found × State). WaitsMore s r.1 × FoundOk r.1 z.size r.0) (f.0, c ∷ f.1) g.0.1 x g.2 (
      b.0,
      (
        k.0,
        (
          record { inside = p.0; aligned = p.1; aims = aims a g.0.1 o (more_on q s g.0.1 m b.0) b.1 },
          all_more s g.0.1 b.0 z.size f.1 k.1,
        ),
      ),
    )
  where
    reaching : (a : Aim) (t : State) → WaitsMore q t → InTarget q a r i asks →
        ((z : ℤ) → Asks a asks z → Awaits t.pending a z) → Reaches t a r i
    reaching a t m k d = reached_on q t (Asks a asks) (Awaits t.pending a) a r i
        (λ n e. subst (λ t. aim_length t a ≡ Some n) (sym m.1) (length_waiting q m.0 a ∙ e)) d k

    aims : (a : Aim) (u : State) → IsThere q a × InTarget q a r i asks → (t : WaitsMore q u) →
        ((z : ℤ) → Asks a asks z → Awaits u.pending a z) → Aims u a r i
    aims (To_global k) u o t d = (subst (λ t. IsThere t (To_global k)) (sym t.1) o.0, reaching (To_global k) u t o.1 d)
    aims (To_literal k) u o t d =
        (subst (λ t. IsThere t (To_literal k)) (sym t.1) o.0, reaching (To_literal k) u t o.1 d)
    aims (To_function k) u o t d = absurd o.0
slot_found q y (Entry j, asks) f z s m h o w k x e =
    let p = wide_slot q z y (0, omega arith) h w in
    given (λ (r : Found × State). WaitsMore s r.1 × FoundOk r.1 z.size r.0)
    (f.0, record { at = y.at; aim = To_function j; reach = All; offset = pos 0 } ∷ f.1) s x e (
      more_self s,
      (
        k.0,
        (
          record {
            inside = p.0;
            aligned = p.1;
            aims = (let w = subst
                (λ (t : State). (f : RoutineState) × (slice_get t.routines j ≡ Some f) × IsUsed f.used) (sym m.1) o in
                (refl, refl, w.0, w.1, w.2));
          },
          k.1,
        ),
      ),
    )

pub slots_found : (ys : List Slot) (s : State) (z : Extent) → Callable s → AllSlots s 0 z ys → (x : Found × State) →
    start_slots ys s ≡ Ok x → WaitsMore s x.1 × FoundOk x.1 z.size x.0
slots_found [] s z i h x e =
    given (λ (r : Found × State). WaitsMore s r.1 × FoundOk r.1 z.size r.0) nothing_found s x e (more_self s, (tt, tt))
slots_found (y ∷ ys) s z i h x e =
    let v = found (known_value s y.value) 134 y.first (λ v. start_slots ys >>= λ f. start_slot s y v f) s x e in
    let g = first_then (start_slots ys s) (λ f. start_slot s y v.0 f) x v.2 in
    let a = slots_found ys s z i h.1 g.0 g.1 in
    let k = known_wide s i y.value h.0.value h.0.read v.0 v.1 in
    let b = slot_found s y v.0 g.0.0 z g.0.1 a.0 h.0 k.0 k.1 a.1 x g.2 in
    (more_on s g.0.1 x.1 a.0 b.0, b.1)

-- ---- the bytes

significant_most : (n v : ℕ) → significant n v ≤ n
significant_most zero v = omega arith
significant_most (suc n) v =
    branched (λ m. m ≤ suc n) (v == 0) 0 (significant n (v / 256) + 1) (λ _. omega arith)
    (λ _. let h = significant_most n (v / 256) in omega (arith, h))

end_most : (n : ℕ) (x : Placed) → x.at + x.width ≤ n → end_of x ≤ n
end_most n x h = branched (λ m. m ≤ n) (x.number == 0) 0 (x.at + significant x.width x.number) (λ _. omega arith)
    (λ _. let s = significant_most x.width x.number in omega (arith, s, h))

max_most : (a b n : ℕ) → a ≤ n → b ≤ n → max a b ≤ n
max_most a b n h k = omega (arith, h, k)

ends_most : (n : ℕ) (xs : List Placed) (m : ℕ) → m ≤ n → AllPlaced n xs → fold (λ n x. max n (end_of x)) m xs ≤ n
ends_most n [] m l h = l
ends_most n (x ∷ xs) m l h = ends_most n xs (max m (end_of x)) (max_most m (end_of x) n l (end_most n x h.0)) h.1

aims_most : (s : State) (n : ℕ) (ls : List Aiming) (m : ℕ) → m ≤ n → AllAim s n ls →
    fold (λ n (l : Aiming). max n (l.at + 16)) m ls ≤ n
aims_most s n [] m l h = l
aims_most s n (a ∷ ls) m l h = aims_most s n ls (max m (a.at + 16)) (max_most m (a.at + 16) n l h.0.inside) h.1

bytes_count : (xs : List Placed) (k n : ℕ) → length (bytes_from xs k n) ≡ n
bytes_count xs k zero = refl
bytes_count xs k (suc n) = ap suc (bytes_count xs (k + 1) n)

-- an initializer's bytes and pointers lie in the object
pub record InitialOk (s : State) (size : ℕ) (i : List ℕ × List Aiming) : Type 0 where
  pub bytes : length i.0 ≤ size
  pub links : AllAim s size i.1

pub initial_ok : (s : State) (n : ℕ) (f : Found) → FoundOk s n f → InitialOk s n (initial_bytes f.0 f.1, f.1)
initial_ok s n f h = record {
  bytes = subst (λ m. m ≤ n) (sym (bytes_count f.0 0 (initial_length f.0 f.1)))
      (max_most _ _ n (ends_most n f.0 0 (omega arith) h.0) (aims_most s n f.1 0 (omega arith) h.1));
  links = h.1;
}

-- ---- along the steps

abbrev pub TextsStay : State → State → Type 0
TextsStay s r = (k : ℕ) (x : Text) → slice_get s.texts k ≡ Some x → slice_get r.texts k ≡ Some x

abbrev pub StaticsGrow : State → State → Type 0
StaticsGrow s r = (k : ℕ) (g : StaticState) → slice_get s.statics k ≡ Some g →
    (h : StaticState) × (slice_get r.statics k ≡ Some h) × StaticGrows g h

abbrev pub RoutinesGrow : State → State → Type 0
RoutinesGrow s r = (k : ℕ) (g : RoutineState) → slice_get s.routines k ≡ Some g →
    (h : RoutineState) × (slice_get r.routines k ≡ Some h) × RoutineGrows g h

-- what initial pointers speak of
pub record Follows (s r : State) : Type 0 where
  pub tags : TagsGrow s.tags r.tags
  pub statics : StaticsGrow s r
  pub routines : RoutinesGrow s r
  pub texts : TextsStay s r
  pub more : More s.pending r.pending

pub follows : (s r : State) → Refers s r → More s.pending r.pending → Follows s r
follows s r g m = record { tags = g.tags; statics = g.statics; routines = g.routines; texts = g.texts; more = m }

pub length_of_static : (s : State) (g : StaticState) (x : Extent) → type_extent s.tags g.of ≡ Some x →
    static_length s (Some g) ≡ Some (owned (fitting x.size))
length_of_static s g x e =
    ap (λ (o : Option Extent). if has_extent o then Some (owned (size_of o)) else None) e

static_from : (s : State) (g : StaticState) (n : ℕ) → static_length s (Some g) ≡ Some n →
    (x : Extent) × (type_extent s.tags g.of ≡ Some x)
static_from s g n e = by (type_extent s.tags g.of) e
  where
    by : (o : Option Extent) → (if has_extent o then Some (owned (size_of o)) else None) ≡ Some n →
        (x : Extent) × (o ≡ Some x)
    by None e = absurd (none-some n e)
    by (Some x) e = (x, refl)

aim_kept : (s r : State) → Follows s r → (a : Aim) (n : ℕ) → IsThere s a → aim_length s a ≡ Some n →
    aim_length r a ≡ Some n
aim_kept s r f (To_global k) n h e =
    let e' : static_length s (Some h.0) ≡ Some n = ap (static_length s) (sym h.1) ∙ e in
    let x = static_from s h.0 n e' in
    let g = f.statics k h.0 h.1 in
    ap (static_length r) g.1 ∙ length_of_static r g.0 x.0
    (refined_extent r.tags h.0.of g.0.of x.0 g.2.type (extent_kept s.tags r.tags f.tags h.0.of x.0 x.1))
    ∙ sym (length_of_static s h.0 x.0 x.1) ∙ e'
aim_kept s r f (To_literal k) n h e = ap text_length (f.texts k h.0 h.1) ∙ ap text_length (sym h.1) ∙ e
aim_kept s r f (To_function k) n h e = absurd h

there_kept : (s r : State) → Follows s r → (a : Aim) → IsThere s a → IsThere r a
there_kept s r f (To_global k) h = let g = f.statics k h.0 h.1 in (g.0, g.1, g.2.used h.2)
there_kept s r f (To_literal k) h = (h.0, f.texts k h.0 h.1, h.2)
there_kept s r f (To_function k) h = absurd h

reaches_kept : (s r : State) → Follows s r → (a : Aim) (w : Reach) (z : ℤ) → IsThere s a → Reaches s a w z →
    Reaches r a w z
reaches_kept s r f a w z t h =
    reached_on s r (Awaits s.pending a) (Awaits r.pending a) a w z (λ n e. aim_kept s r f a n t e)
    (awaits_more s.pending r.pending f.more a) h

aims_kept : (s r : State) → Follows s r → (a : Aim) (w : Reach) (z : ℤ) → Aims s a w z → Aims r a w z
aims_kept s r f (To_global k) w z h = (there_kept s r f (To_global k) h.0, reaches_kept s r f (To_global k) w z h.0 h.1)
aims_kept s r f (To_literal k) w z h =
    (there_kept s r f (To_literal k) h.0, reaches_kept s r f (To_literal k) w z h.0 h.1)
aims_kept s r f (To_function k) w z h = let g = f.routines k h.2 h.3 in (h.0, h.1, g.0, g.1, g.2.used h.4)

all_aim_kept : (s r : State) → Follows s r → (n : ℕ) (ls : List Aiming) → AllAim s n ls → AllAim r n ls
all_aim_kept s r f n [] h = tt
all_aim_kept s r f n (a ∷ ls) h = (
  record { inside = h.0.inside; aligned = h.0.aligned; aims = aims_kept s r f a.aim a.reach a.offset h.0.aims },
  all_aim_kept s r f n ls h.1,
)

-- what an object begins with fits its type
abbrev pub Begun : State → Ty → List ℕ × List Aiming → Type 0
Begun s t i = (x : Extent) × (type_extent s.tags t ≡ Some x) × InitialOk s x.size i

pub begun_kept : (s r : State) → Follows s r → (t u : Ty) (i : List ℕ × List Aiming) → refines t u ≡ true →
    Begun s t i → Begun r u i
begun_kept s r f t u i e h = (
  h.0,
  refined_extent r.tags t u h.0 e (extent_kept s.tags r.tags f.tags t h.0 h.1),
  record { bytes = h.2.bytes; links = all_aim_kept s r f h.0.size i.1 h.2.links },
)

abbrev pub Begins : State → Type 0
Begins s = (k : ℕ) (g : StaticState) (i : List ℕ × List Aiming) → slice_get s.statics k ≡ Some g → g.initial ≡ Some i →
    Begun s g.of i

abbrev pub InitialsFrom : State → State → Type 0
InitialsFrom s r = (k : ℕ) (h : StaticState) (i : List ℕ × List Aiming) → slice_get r.statics k ≡ Some h →
    h.initial ≡ Some i → (g : StaticState) × (slice_get s.statics k ≡ Some g) × (g.initial ≡ Some i)

pub begins_on : (s r : State) → Follows s r → InitialsFrom s r → Begins s → Begins r
begins_on s r f from b k h i e m =
    let g = from k h i e m in
    let w = f.statics k g.0 g.1 in
    begun_kept s r f g.0.of h.of i (ap (λ (v : StaticState). refines g.0.of v.of) (same_Some h w.0 (sym e ∙ w.1))
    ∙ w.2.type) (b k g.0 i g.1 g.2)

pub initials_self : (s r : State) → r.statics ≡ s.statics → InitialsFrom s r
initials_self s r e k h i q m = (h, ap (λ xs. slice_get xs k) (sym e) ∙ q, m)

pub more_same : (ps qs : List Pending) → qs ≡ ps → More ps qs
more_same ps qs e k z h = subst (λ xs. IsWaiting xs k z) (sym e) h
