-- The types of a list that grows at its end.
use Rattle.std.proofs.Common.{◌≡◌, ℕ, zero, suc, ◌+◌, ◌<◌, ◌≤◌, true, ltb, List, [], ◌∷◌, ◌++◌, length, get_or, take}
use Rattle.std.proofs.Common.{drop, map, Some, refl, sym, ap, ◌∙◌, arith, length-append, append_assoc}
use Rattle.std.specs.Prelude.{slice_get, slice_index_or}
use Rattle.std.proofs.Math.Seq.{get_or-append_seam}
use Rattle.std.proofs.Math.ListN.{get_or-append}
use Rattle.std.proofs.lemmas.Bool.{ltb-true}
use Rattle.std.proofs.lemmas.Option.{slice_get-get_or, slice_get_within}
use Rattle.std.proofs.lemmas.List.{length-take-le, take-append-drop, get_or_past, append-nil}
use Rattle.c_tree.specs.declared.typed.CType.{CType}
use Rattle.c_tree.specs.declared.typed.Typed.{Typed}
use Rattle.c_tree.specs.Types.{Ty, Void, Tys}
use Rattle.c_tree.specs.Types as types
use Rattle.c_tree.specs.Views.{grow, type_from, type_at, types_of, tys}
use Rattle.c_tree.proofs.Forest.{forest_reads}
use Rattle.c_type_levels.specs.declared.heads.Head.{Head}
use Rattle.c_type_levels.specs.declared.heads.Head.TheVariants as heads
use Rattle.c_type_levels.specs.Heads.{built, PartStandsBefore, AllBefore}
use Rattle.c_interner.specs.Numbers.{type_after, IsAt, IsNumberOf, SeesBefore}

-- a type that a number within the list reads
pub there : (types : List CType) (t : ℕ) (c : CType) → true ≡ ltb t (length types) → c ≡ get_or types t c →
    slice_get types t ≡ Some c
there types t c lt e = slice_get-get_or types t c (ltb-true t (length types) (sym lt)) ∙ ap Some (sym e)

pub grow-append : {N T : Type 0} (make : N → (ℕ → T) → T) (bad : T) (ns ms : List N) (ts : List T) →
    grow make bad (ns ++ ms) ts ≡ grow make bad ms (grow make bad ns ts)
unfolding grow
grow-append make bad [] ms ts = refl
grow-append make bad (n ∷ ns) ms ts = grow-append make bad ns ms (ts ++ make n (λ k. slice_index_or ts k bad) ∷ [])

pub length-grow : {N T : Type 0} (make : N → (ℕ → T) → T) (bad : T) (ns : List N) (ts : List T) →
    length (grow make bad ns ts) ≡ length ts + length ns
unfolding grow
length-grow make bad [] ts = omega arith
length-grow make bad (n ∷ ns) ts =
    let v = make n (λ k. slice_index_or ts k bad) in
    length-grow make bad ns (ts ++ v ∷ []) ∙ omega (arith, length-append ts (v ∷ []))

pub grow-front : {N T : Type 0} (make : N → (ℕ → T) → T) (bad : T) (ns : List N) (ts : List T) (k : ℕ) → k < length ts →
    get_or (grow make bad ns ts) k bad ≡ get_or ts k bad
unfolding grow
grow-front make bad [] ts k lt = refl
grow-front make bad (n ∷ ns) ts k lt =
    let v = make n (λ j. slice_index_or ts j bad) in
    let longer : k < length (ts ++ v ∷ []) = omega (arith, length-append ts (v ∷ [])) in
    grow-front make bad ns (ts ++ v ∷ []) k longer ∙ get_or-append ts (v ∷ []) bad k lt

pub length-types_of : (cs : List CType) → length (types_of cs) ≡ length cs
length-types_of cs = length-grow type_from Void cs [] ∙ omega arith

one_more : (c : CType) (ts : List Ty) → grow type_from Void (c ∷ []) ts ≡ ts ++ type_from c (type_at ts) ∷ []
unfolding grow
one_more c ts = refl

pub types_of-push : (cs : List CType) (c : CType) → types_of (cs ++ c ∷ []) ≡ types_of cs ++ type_after cs c ∷ []
types_of-push cs c = grow-append type_from Void cs (c ∷ []) [] ∙ one_more c (types_of cs)

-- what was there stays
pub type_at-longer : (cs more : List CType) (k : ℕ) → k < length cs →
    type_at (types_of (cs ++ more)) k ≡ type_at (types_of cs) k
type_at-longer cs more k lt =
    let within : k < length (types_of cs) = omega (arith, length-types_of cs) in
    ap (λ ts. get_or ts k Void) (grow-append type_from Void cs more [])
    ∙ grow-front type_from Void more (types_of cs) k within

-- the type at the end
pub type_at-push : (cs : List CType) (c : CType) → type_at (types_of (cs ++ c ∷ [])) (length cs) ≡ type_after cs c
type_at-push cs c = rw (types_of-push cs c, ← length-types_of cs)
    (get_or-append_seam (types_of cs) (type_after cs c) [] Void)

map_same : (f g : ℕ → Ty) (ps : List ℕ) (k : ℕ) → AllBefore ps k → ((j : ℕ) → j < k → f j ≡ g j) →
    tys (map f ps) ≡ tys (map g ps)
map_same f g [] k h e = refl
map_same f g (p ∷ ps) k h e =
    let a = e p (h 0 p refl) in
    let b = map_same f g ps k (λ j q i. h (suc j) q i) e in
    cc

-- a level is the same over types that are the same
pub built_same : (h : Head) (ps : List ℕ) (f g : ℕ → Ty) (k : ℕ) → PartStandsBefore h k → AllBefore ps k →
    ((j : ℕ) → j < k → f j ≡ g j) → built h ps f ≡ built h ps g
built_same heads.Void ps f g k p a e = refl
built_same (heads.Int i n) ps f g k p a e = refl
built_same (heads.Cap s) ps f g k p a e = refl
built_same (heads.Pointer t) ps f g k p a e = ap types.Pointer (e t p)
built_same (heads.Array t n) ps f g k p a e = ap (λ x. types.Array x n) (e t p)
built_same (heads.Tagged n) ps f g k p a e = refl
built_same (heads.Function t) ps f g k p a e = let x = e t p in let y = map_same f g ps k a e in cc
built_same (heads.Const t) ps f g k p a e = ap types.Const (e t p)

-- a type of the list with the same level
pub level_is_at : (cs : List CType) (k : ℕ) (there c : CType) (h : Head) (ps : List ℕ) → slice_get cs k ≡ Some there →
    ((go : ℕ → Ty) → type_from there go ≡ built h ps go) → ((go : ℕ → Ty) → type_from c go ≡ built h ps go) →
    PartStandsBefore h k → AllBefore ps k → IsAt cs k c
level_is_at cs k there c h ps e t u p a =
    let r = forest_reads type_from Void cs k there e in
    record {
      there = slice_get_within cs k there e;
      is = r.is ∙ t (λ j. get_or r.seen j Void)
          ∙ built_same h ps (λ j. get_or r.seen j Void) (type_at (types_of cs)) k p a r.before
          ∙ sym (u (type_at (types_of cs)));
    }

-- a new type stands at the end of the list
pub is_number_of : (old new : Typed) (k : ℕ) (c : CType) → new.types ≡ old.types ++ c ∷ [] → k ≡ length old.types →
    IsNumberOf old new k c
is_number_of old new k c e n =
    record {
      there = rw (e, n) (omega (arith, length-append old.types (c ∷ [])));
      is = rw (e, n) (type_at-push old.types c);
    }

-- ---- a type over those before it

split_at : (cs : List CType) (k : ℕ) (c : CType) → slice_get cs k ≡ Some c → cs ≡ take k cs ++ c ∷ drop (suc k) cs
split_at [] k c e = absurd cc
split_at (x ∷ cs) zero c e = let i : x ≡ c = cc in rw i refl
split_at (x ∷ cs) (suc k) c e = ap (λ ds. x ∷ ds) (split_at cs k c e)

pub type_at-level : (cs : List CType) (k : ℕ) (c : CType) → slice_get cs k ≡ Some c →
    type_at (types_of cs) k ≡ type_from c (type_at (types_of (take k cs)))
type_at-level cs k c e =
    let lt = slice_get_within cs k c e in
    let l : length (take k cs) ≡ k = length-take-le k cs (omega arith) in
    let longer : k < length (take k cs ++ c ∷ []) = omega (arith, length-append (take k cs) (c ∷ [])) in
    let g : take k cs ++ c ∷ drop (suc k) cs ≡ (take k cs ++ c ∷ []) ++ drop (suc k) cs =
    sym (append_assoc (take k cs) (c ∷ []) (drop (suc k) cs)) in
    ap (λ ds. type_at (types_of ds) k) (split_at cs k c e ∙ g)
    ∙ type_at-longer (take k cs ++ c ∷ []) (drop (suc k) cs) k longer
    ∙ ap (λ n. type_at (types_of (take k cs ++ c ∷ [])) n) (sym l)
    ∙ type_at-push (take k cs) c

pub sees_before : (cs : List CType) (k : ℕ) → k ≤ length cs → SeesBefore cs k (type_at (types_of (take k cs)))
sees_before cs k le =
    let l : length (take k cs) ≡ k = length-take-le k cs le in
    record {
      below = λ j lt. let w : j < length (take k cs) = omega arith in
          sym (ap (λ ds. type_at (types_of ds) j) (sym (take-append-drop k cs))
          ∙ type_at-longer (take k cs) (drop k cs) j w);
      past = λ j le. get_or_past (types_of (take k cs)) j Void (omega (arith, length-types_of (take k cs)));
    }

pub type_at-past : (cs : List CType) (k : ℕ) → length cs ≤ k → type_at (types_of cs) k ≡ Void
type_at-past cs k le = get_or_past (types_of cs) k Void (omega (arith, length-types_of cs))

-- the types of a longer list are longer
pub types_longer : (cs new : List CType) → (more : List Ty) × (types_of (cs ++ new) ≡ types_of cs ++ more)
types_longer cs [] = ([], ap types_of (append-nil cs) ∙ sym (append-nil (types_of cs)))
types_longer cs (c ∷ new) =
    let l = types_longer (cs ++ c ∷ []) new in (
      type_after cs c ∷ l.0,
      ap types_of (sym (append_assoc cs (c ∷ []) new)) ∙ l.1 ∙ ap (λ ts. ts ++ l.0) (types_of-push cs c)
          ∙ append_assoc (types_of cs) (type_after cs c ∷ []) l.0,
    )
