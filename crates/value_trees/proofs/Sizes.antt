-- No expression has a type that is larger than an object may be.
use Rattle.std.proofs.Common.{◌≡◌, ℕ, zero, suc, ◌+◌, ◌*◌, ◌<◌, ◌≤◌, Bool, true, false, List, [], ◌∷◌, Option, Some}
use Rattle.std.proofs.Common.{None, refl, sym, ap, subst, ◌∙◌, arith, if◌then◌else◌, tests}
use Rattle.std.specs.Prelude.{slice_get, ◌||◌, ◌&&◌, ◌==◌}
use Rattle.std.proofs.lemmas.Bool.{false≢true, eqb-true}
use Rattle.std.proofs.lemmas.Option.{same_Some}
use Rattle.ck_base.specs.declared.positions.Span.{Span}
use Rattle.ck_int.specs.declared.kinds.IntKind.{IntKind}
use Rattle.ck_int.specs.declared.kinds.IntKind.TheVariants as int
use Rattle.c_tree.specs.Expressions.{as_qualified}
use Rattle.c_tree.specs.Layout.{Extent, with_extent, times, scalar, behind, beside, no_members, whole, size_limit}
use Rattle.c_tree.specs.Layout.{member_align, bytes_of}
use Rattle.c_tree.specs.Terms.{Tag}
use Rattle.c_tree.specs.TreeLayout.{tree_members, record_level, members_level, tag_level, tree_extent}
use Rattle.c_tree.specs.Types as ty
use Rattle.c_tree.specs.Types.{Ty, Tagged, Const, Array, Function, compatible}
use Rattle.c_tree.specs.declared.syntax.RecordKind.{RecordKind}
use Rattle.c_tree.specs.declared.syntax.RecordKind.TheVariants as kinds
use Rattle.c_tree.proofs.Aligned.{alignment_is_power}
use Rattle.typing_laws.proofs.Divides.{power_pos}
use Rattle.typing_laws.proofs.Extents.{tree_up}
use Rattle.typing_laws.specs.Valued.{is_plain}
use Rattle.cap_concentrate.specs.Rounding.{alignment}
use Rattle.cap_concentrate.proofs.Laws.{owned_ge}
use Rattle.cap_concentrate.proofs.Least.{rounded_up_ge}

-- ---- members lie in their struct or union

-- what is placed lies in the whole with what was placed before
record Grows (place : Extent → Extent → Extent) : Type 0 where
  before : (y w : Extent) → 0 < w.align → w.size ≤ (place y w).size
  own : (y w : Extent) → 0 < w.align → y.size ≤ (place y w).size
  aligned : (y w : Extent) → 0 < w.align → 0 < (place y w).align

alignment_positive : (n : ℕ) → 0 < alignment n
alignment_positive n = power_pos (alignment n) (alignment_is_power n)

member_positive : (y : Extent) → 0 < member_align y
member_positive y = let g = alignment_positive y.size in omega (arith, g)

behind_grows : Grows behind
behind_grows = record {
  before = λ y w h. let g = rounded_up_ge w.size (member_align y) (member_positive y) in omega (arith, g);
  own = λ y w h. let g = owned_ge y.size in omega (arith, g);
  aligned = λ y w h. omega (arith, h);
}

beside_grows : Grows beside
beside_grows = record {
  before = λ y w h. omega arith;
  own = λ y w h. let g = owned_ge y.size in omega (arith, g);
  aligned = λ y w h. omega (arith, h);
}

abbrev Member : Type 0
Member = Span × Ty

-- a member has an extent that is no larger
pub record Lies (go : Ty → Option Extent) (z : Extent) (t : Ty) : Type 0 where
  pub extent : Extent
  pub is : go t ≡ Some extent
  pub within : extent.size ≤ z.size

record Ends (go : Ty → Option Extent) (ls : List Member) (w z : Extent) : Type 0 where
  least : w.size ≤ z.size
  lies : (j : ℕ) (l : Member) → slice_get ls j ≡ Some l → Lies go z l.1

members_end : (place : Extent → Extent → Extent) → Grows place → (go : Ty → Option Extent) (ls : List Member)
    (w z : Extent) → 0 < w.align → with_extent (tree_members place go ls w) whole ≡ Some z → Ends go ls w z
members_end place g go [] w z h e = record {
  least = subst (λ (v : Extent). w.size ≤ v.size) (same_Some _ z e) (rounded_up_ge w.size w.align h);
  lies = λ j l i. absurd cc;
}
members_end place g go (l ∷ ls) w z h e =
    by (go l.1) refl e (λ y. members_end place g go ls (place y w) z (g.aligned y w h))
  where
    by : (o : Option Extent) → go l.1 ≡ o →
        with_extent (with_extent o (λ y. tree_members place go ls (place y w))) whole ≡ Some z →
        ((y : Extent) → with_extent (tree_members place go ls (place y w)) whole ≡ Some z → Ends go ls (place y w) z) →
        Ends go (l ∷ ls) w z
    by None i e r = absurd cc
    by (Some y) i e r =
        let k = r y e in
        let a = g.before y w h in
        let b = g.own y w h in
        let n = k.least in
        let first : Lies go z l.1 = record { extent = y; is = i; within = omega (arith, b, n) } in
        record { least = omega (arith, a, n); lies = λ j m q. one j m q first k.lies }
      where
        one : (j : ℕ) (m : Member) → slice_get (l ∷ ls) j ≡ Some m → Lies go z l.1 →
            ((j : ℕ) (m : Member) → slice_get ls j ≡ Some m → Lies go z m.1) → Lies go z m.1
        one zero m q f r = subst (λ (m : Member). Lies go z m.1) (same_Some l m q) f
        one (suc j) m q f r = r j m q

-- ---- types

left_of : (a b : Bool) → (a && b) ≡ true → a ≡ true
left_of true b e = refl
left_of false b e = absurd (false≢true e)

right_of : (a b : Bool) → (a && b) ≡ true → b ≡ true
right_of true b e = e
right_of false b e = absurd (false≢true e)

lengths : (m n j k : ℕ) → m ≡ suc j → n ≡ suc k → (m == n || m == 0 || n == 0) ≡ true → m ≡ n
lengths m n j k a b c = grind (arith, tests, a, b, c)

bytes_small : (k : IntKind) → bytes_of k ≤ size_limit
bytes_small int.Bool = omega arith
bytes_small int.I8 = omega arith
bytes_small int.U8 = omega arith
bytes_small int.I16 = omega arith
bytes_small int.U16 = omega arith
bytes_small int.I32 = omega arith
bytes_small int.U32 = omega arith
bytes_small int.I64 = omega arith
bytes_small int.U64 = omega arith

same_bytes : (j k : IntKind) → ty.same_kind j k ≡ true → bytes_of j ≡ bytes_of k
same_bytes int.Bool int.Bool h = refl
same_bytes int.I8 int.I8 h = refl
same_bytes int.U8 int.U8 h = refl
same_bytes int.I16 int.I16 h = refl
same_bytes int.U16 int.U16 h = refl
same_bytes int.I32 int.I32 h = refl
same_bytes int.U32 int.U32 h = refl
same_bytes int.I64 int.I64 h = refl
same_bytes int.U64 int.U64 h = refl
same_bytes j k h = absurd (false≢true h)

-- an array's elements have an extent, and there are some
record IsArray (o : Option Extent) (n : ℕ) (x : Extent) : Type 0 where
  of : Extent
  there : o ≡ Some of
  count : ℕ
  is : n ≡ suc count
  whole_is : record { size = n * of.size; align = of.align } ≡ x

array_is : (o : Option Extent) (n : ℕ) (x : Extent) → with_extent o (times n) ≡ Some x → IsArray o n x
array_is None n x e = absurd cc
array_is (Some y) zero x e = absurd cc
array_is (Some y) (suc k) x e = record { of = y; there = refl; count = k; is = refl; whole_is = same_Some _ x e }

module _ (tags : List Tag) where
  -- the extent of a type is within the limit, if it has one
  abbrev pub Small : Ty → Type 0
  Small t = (d : ℕ) (x : Extent) → tree_extent d tags t ≡ Some x → x.size ≤ size_limit

  same_sum : (d e : ℕ) → d + e ≡ e + d
  same_sum d e = omega arith

  tree_same : (t : Ty) (d e : ℕ) (x y : Extent) → tree_extent d tags t ≡ Some x → tree_extent e tags t ≡ Some y → x ≡ y
  tree_same t d e x y a b = same_Some x y
      (sym (tree_up d e tags t x a) ∙ ap (λ n. tree_extent n tags t) (same_sum d e) ∙ tree_up e d tags t y b)

  pub known_small : (t : Ty) (e : ℕ) (y : Extent) → tree_extent e tags t ≡ Some y → y.size ≤ size_limit → Small t
  known_small t e y b l d x a = subst (λ (x : Extent). x.size ≤ size_limit) (tree_same t e d y x b a) l

  pub plain_small : (t : Ty) → is_plain t ≡ true → Small t
  unfolding tree_extent
  plain_small t g zero x e = absurd cc
  plain_small ty.Void g (suc d) x e = absurd cc
  plain_small (ty.Int k n) g (suc d) x e =
      subst (λ (x : Extent). x.size ≤ size_limit) (same_Some _ x e) (bytes_small k)
  plain_small (ty.Cap s) g (suc d) x e = subst (λ (x : Extent). x.size ≤ size_limit) (same_Some _ x e) (omega arith)
  plain_small (ty.Pointer t) g (suc d) x e =
      subst (λ (x : Extent). x.size ≤ size_limit) (same_Some _ x e) (omega arith)
  plain_small t g (suc d) x e = absurd (false≢true g)

  pub function_small : (t : Ty) → ty.is_function t ≡ true → Small t
  unfolding tree_extent
  function_small t g zero x e = absurd cc
  function_small (Function r ps) g (suc d) x e = absurd cc
  function_small t g (suc d) x e = absurd (false≢true g)

  pub text_small : (n : ℕ) → n ≤ size_limit → Small (Array ty.char n)
  unfolding tree_extent
  text_small n l zero x e = absurd cc
  text_small n l (suc zero) x e = absurd cc
  text_small n l (suc (suc d)) x e =
      let a = array_is (Some (scalar 1)) n x e in
      let z = same_Some (scalar 1) a.of a.there in
      let g : n * a.of.size ≡ x.size = ap (λ (y : Extent). y.size) a.whole_is in
      let i : 1 ≡ a.of.size = ap (λ (y : Extent). y.size) z in
      let j : n * 1 ≤ size_limit = omega (arith, l) in
      subst (λ m. m ≤ size_limit) (ap (λ m. n * m) i ∙ g) j

  -- qualifiers change no extent
  qualified_extent : (t : Ty) (d : ℕ) (x : Extent) → tree_extent d tags (ty.qualified t) ≡ Some x →
      (e : ℕ) × (tree_extent e tags t ≡ Some x)
  unfolding tree_extent
  qualified_extent t zero x e = absurd cc
  qualified_extent (Array t n) (suc d) x e =
      let a = array_is (tree_extent d tags (ty.qualified t)) n x e in
      let r = qualified_extent t d a.of a.there in
      (suc r.0, ap (λ o. with_extent o (times n)) (r.1 ∙ sym a.there) ∙ e)
  qualified_extent (Const t) (suc d) x e = (suc d, e)
  qualified_extent (Function r ps) (suc d) x e = (suc d, e)
  qualified_extent ty.Void (suc d) x e = (d, e)
  qualified_extent (ty.Int k n) (suc d) x e = (d, e)
  qualified_extent (ty.Cap s) (suc d) x e = (d, e)
  qualified_extent (ty.Pointer t) (suc d) x e = (d, e)
  qualified_extent (Tagged n) (suc d) x e = (d, e)

  pub as_qualified_small : (s t : Ty) → Small t → Small (as_qualified s t)
  as_qualified_small s t h = by (ty.is_const s)
    where
      by : (b : Bool) → Small (if b then ty.qualified t else t)
      by true = λ d x e. let r = qualified_extent t d x e in h r.0 x r.1
      by false = h

  -- compatible types that are complete have one extent
  compatible_extent : (s t : Ty) (d e : ℕ) (x y : Extent) → compatible s t ≡ true → tree_extent d tags s ≡ Some x →
      tree_extent e tags t ≡ Some y → x ≡ y
  unfolding tree_extent
  compatible_extent s t zero e x y c a b = absurd cc
  compatible_extent s t (suc d) zero x y c a b = absurd cc
  compatible_extent ty.Void t (suc d) (suc e) x y c a b = absurd cc
  compatible_extent (Function r ps) t (suc d) (suc e) x y c a b = absurd cc
  compatible_extent (ty.Int j m) (ty.Int k n) (suc d) (suc e) x y c a b =
      sym (same_Some _ x a) ∙ ap scalar (same_bytes j k (left_of _ _ c)) ∙ same_Some _ y b
  compatible_extent (ty.Cap s) (ty.Cap t) (suc d) (suc e) x y c a b = sym (same_Some _ x a) ∙ same_Some _ y b
  compatible_extent (ty.Pointer s) (ty.Pointer t) (suc d) (suc e) x y c a b = sym (same_Some _ x a) ∙ same_Some _ y b
  compatible_extent (Array s m) (Array t n) (suc d) (suc e) x y c a b =
      let i = array_is (tree_extent d tags s) m x a in
      let j = array_is (tree_extent e tags t) n y b in
      let z = compatible_extent s t d e i.of j.of (left_of _ _ c) i.there j.there in
      let l : m ≡ n = lengths m n i.count j.count i.is j.is (right_of (compatible s t) _ c) in
      sym i.whole_is ∙ ap (λ k. record { size = k * i.of.size; align = i.of.align }) l
      ∙ ap (λ (o : Extent). record { size = n * o.size; align = o.align }) z ∙ j.whole_is
  compatible_extent (Tagged m) (Tagged n) (suc d) (suc e) x y c a b =
      tree_same (Tagged n) (suc d) (suc e) x y
      (ap (λ k. tree_extent (suc d) tags (Tagged k)) (sym (eqb-true m n c)) ∙ a) b
  compatible_extent (Const s) (Const t) (suc d) (suc e) x y c a b = compatible_extent s t d e x y c a b
  compatible_extent s t (suc d) (suc e) x y c a b = absurd (false≢true c)

  pub compatible_small : (s t : Ty) (e : ℕ) (y : Extent) → compatible s t ≡ true → tree_extent e tags t ≡ Some y →
      y.size ≤ size_limit → Small s
  compatible_small s t e y c b l d x a =
      subst (λ (x : Extent). x.size ≤ size_limit) (sym (compatible_extent s t d e x y c a b)) l

  record_members : (g : Tag) (ls : List Member) (go : Ty → Option Extent) (z : Extent) → g.members ≡ Some ls →
      tag_level (Some g) go ≡ Some z → (j : ℕ) (l : Member) → slice_get ls j ≡ Some l → Lies go z l.1
  record_members g ls go z m e = by g.kind (sym (ap (λ o. members_level o g.kind go) m) ∙ e)
    where
      by : (k : RecordKind) → record_level k go ls ≡ Some z → (j : ℕ) (l : Member) → slice_get ls j ≡ Some l →
          Lies go z l.1
      by kinds.Struct i = (members_end behind behind_grows go ls no_members z (omega arith) i).lies
      by kinds.Union i = (members_end beside beside_grows go ls no_members z (omega arith) i).lies

  -- the members of a struct or union that is complete
  pub member_small : (tag : ℕ) (g : Tag) (ls : List Member) → slice_get tags tag ≡ Some g → g.members ≡ Some ls →
      (d : ℕ) (z : Extent) → tree_extent d tags (Tagged tag) ≡ Some z → z.size ≤ size_limit → (j : ℕ) (l : Member) →
      slice_get ls j ≡ Some l → Small l.1
  unfolding tree_extent
  member_small tag g ls h m zero z e small j l i = absurd cc
  member_small tag g ls h m (suc d) z e small j l i =
      let r = record_members g ls (tree_extent d tags) z m
      (sym (ap (λ o. tag_level o (tree_extent d tags)) h) ∙ e) j l i in
      let w = r.within in
      known_small l.1 d r.extent r.is (omega (arith, w, small))
