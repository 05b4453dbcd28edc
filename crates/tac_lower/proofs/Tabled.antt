-- The table of a program's types, entry by entry.
use Rattle.std.proofs.Common.{◌≡◌, ℕ, zero, suc, ◌+◌, ◌%◌, ◌^◌, ◌<◌, ◌≤◌, Bool, true, false, List, [], ◌∷◌, ◌++◌}
use Rattle.std.proofs.Common.{length, Option, Some, None, refl, sym, ap, subst, ◌∙◌, arith, length-append, min, drop}
use Rattle.std.proofs.Common.{◌-◌, get_or, drop-cons, add-one}
use Rattle.std.proofs.Math.ListN.{drop_of_length-le}
use Rattle.std.specs.Prelude.{not, slice_get, unwrap_or, nat_le, if◌then◌else◌}
use Rattle.std.proofs.lemmas.Bool.{leb-true, and_parts, and_from, eq-eqb}
use Rattle.std.proofs.lemmas.Option.{slice_get_past}
use Rattle.c_tree.specs.Counts.{parts, copied, is_record}
use Rattle.c_tree.specs.Layout.{Extent, bare, extent, extent_of, extent_within, size_limit, with_extent, no_members}
use Rattle.c_tree.specs.Layout.{behind, member_align, member_offset, struct_offset, union_offset, offset_of_member}
use Rattle.c_tree.specs.Layout.{size_of}
use Rattle.c_tree.proofs.Sizes.{fitting_same}
use Rattle.c_tree.specs.declared.typed.Member.{Member}
use Rattle.c_tree.specs.declared.typed.CType.{CType}
use Rattle.c_tree.specs.declared.typed.CType.TheVariants as types
use Rattle.cheri_c_sem.specs.Types as meant
use Rattle.cheri_c_sem.specs.Types.{size_in, align_in, size_of_extent, align_of_extent, unit_of, offset_or_zero}
use Rattle.cheri_c_sem.specs.Types.{is_pointer, pointee_of, narrowing_to}
use Rattle.cheri_c_sem.specs.Expressions.{type_of, narrowing_by, narrowing_of}
use Rattle.c_tree.specs.declared.typed.Expr.{Expr}
use Rattle.c_tree.specs.declared.typed.ExprKind.{ExprKind}
use Rattle.c_tree.specs.declared.typed.ExprKind.TheVariants as exprs
use Rattle.c_tree.specs.declared.typed.Typed.{Typed}
use Rattle.c_tree.specs.declared.typed.VarDef.{VarDef}
use Rattle.cap_concentrate.specs.Rounding.{owned, rounded_up}
use Rattle.cap_layout.specs.Answers.{Fits}
use Rattle.cap_layout.specs.declared.answers.Layout.{Layout}
use Rattle.cap_layout.proofs.Places.{offset_later}
use Rattle.lower_runs.proofs.Units.{copies_fit}
use Rattle.tac_ir.specs.WellFormed.{is_unit, units_fit}
use Rattle.tac_lower.specs.declared.types.TypeFacts.{TypeFacts}
use Rattle.tac_lower.specs.Tables.{kept_by, target_by, given_by, record_size, HasLayout, LaidOut, IsSmall}
use Rattle.tac_lower.specs.Tables.{AreOwn}
use Rattle.tac_lower.specs.Tables.{FactsFit, TableFits, IsPointed, type_at}
use Rattle.tac_lower.proofs.Typings.{bare_past}

-- the facts of the first types
pub record TableTo (all : List CType) (table : List TypeFacts) (count : ℕ) : Type 0 where
  pub many : length table ≡ count
  pub entries : (t : ℕ) (f : TypeFacts) → slice_get table t ≡ Some f → FactsFit all t f

abbrev pub no_facts : TypeFacts
no_facts = record {
  kind = None;
  target = None;
  gives = None;
  «record» = false;
  complete = false;
  size = 0;
  align = 1;
}

get_pushed : (xs : List TypeFacts) (y : TypeFacts) (P : ℕ → TypeFacts → Type 0) →
    ((t : ℕ) (f : TypeFacts) → slice_get xs t ≡ Some f → P t f) → P (length xs) y → (t : ℕ) (f : TypeFacts) →
    slice_get (xs ++ y ∷ []) t ≡ Some f → P t f
get_pushed [] y P h q zero f e = let z : y ≡ f = cc in subst (λ v. P zero v) z q
get_pushed [] y P h q (suc t) f e = absurd cc
get_pushed (x ∷ xs) y P h q zero f e = h zero f e
get_pushed (x ∷ xs) y P h q (suc t) f e = get_pushed xs y (λ n. P (suc n)) (λ n. h (suc n)) q t f e

pub table_more : (all : List CType) (table : List TypeFacts) (n : ℕ) (f : TypeFacts) → TableTo all table n →
    FactsFit all n f → TableTo all (table ++ f ∷ []) (n + 1)
table_more all table n f h q = record {
  many = omega (arith, length-append table (f ∷ []), h.many);
  entries = get_pushed table f (FactsFit all) h.entries (subst (λ z. FactsFit all z f) (sym h.many) q);
}

pub table_all : (all : List CType) (table : List TypeFacts) → TableTo all table (min (length all) 4294967296) →
    TableFits all table
table_all all table h = record {
  entries = h.entries;
  past = λ t lt le. omega (arith, h.many);
}

-- a type past the table has no facts
past_from : (fs : List TypeFacts) (t : ℕ) → slice_get fs t ≡ None → length fs ≤ t
past_from [] t h = omega arith
past_from (f ∷ fs) zero h = absurd cc
past_from (f ∷ fs) (suc t) h = let q = past_from fs t h in omega arith

none_by : (all : List CType) (d t : ℕ) → slice_get all t ≡ None → extent_within d all t ≡ None
unfolding extent_within
none_by all zero t h = refl
none_by all (suc d) t h = ap (λ z. extent_of z (extent_within d all)) h

extent_past : (all : List CType) (t : ℕ) → length all ≤ t → extent all t ≡ None
extent_past all t h = none_by all (length all) t (slice_get_past all t h)

pub past_facts : (all : List CType) (table : List TypeFacts) (t : ℕ) → TableFits all table → t < 2 ^ 32 →
    slice_get table t ≡ None → FactsFit all t no_facts
past_facts all table t h lt e =
    let le = h.past t lt (past_from table t e) in
    let n : bare all t ≡ None = bare_past all t le in
    record {
      kept = sym (ap kept_by n);
      points = sym (ap target_by n);
      given = sym (ap given_by n);
      copied = ap (λ z. if is_record z then parts (size_of (extent all t)) else 0) n;
      is_record = sym (ap meant.is_record n);
      laid = (refl, refl, λ q. extent_past all t le);
    }

-- ---- the size and the alignment of a type

record_same : (o : Option CType) → is_record o ≡ meant.is_record o
record_same (Some (types.Struct tag ms)) = refl
record_same (Some (types.Union tag ms)) = refl
record_same None = refl
record_same (Some c) = refl

size_laid : (b : Bool) (o : Option Extent) (f : TypeFacts) → LaidOut b o f → size_of o ≡ f.size
size_laid true o f h = ap size_of h.is ∙ fitting_same f.size h.size
size_laid false None f h = sym h.0
size_laid false (Some x) f h = by (nat_le x.size size_limit) refl
  where
    by : (b : Bool) → nat_le x.size size_limit ≡ b → size_of (Some x) ≡ f.size
    by true e = absurd (let n : Some x ≡ None = h.2 (leb-true x.size size_limit e) in cc)
    by false e = rw e (sym h.0)

copied_laid : (all : List CType) (t : ℕ) (f : TypeFacts) → f.«record» ≡ meant.is_record (bare all t) →
    LaidOut f.complete (extent all t) f → copied all t ≡ parts (record_size f)
copied_laid all t f e h = rw (record_same (bare all t), size_laid f.complete (extent all t) f h, sym e) (by f.«record»)
  where
    by : (b : Bool) → ◌≡◌ {A = ℕ} (if b then parts f.size else 0) (parts (if b then f.size else 0))
    by true = refl
    by false = refl

pub layout_at : (o : Option Extent) (l m : Option Layout) → l ≡ m → HasLayout o l → HasLayout o m
layout_at o l m e h = subst (λ z. HasLayout o z) e h

pub facts_fit : (all : List CType) (t : ℕ) (f : TypeFacts) → AreOwn (bare all t) f →
    LaidOut f.complete (extent all t) f → FactsFit all t f
facts_fit all t f own h = record {
  kept = own.kept;
  points = own.points;
  given = own.given;
  copied = copied_laid all t f own.is_record h;
  is_record = own.is_record;
  laid = h;
}

pub size_by : (b : Bool) (o : Option Extent) (f : TypeFacts) → LaidOut b o f → size_of_extent o ≤ size_limit →
    (f.size ≡ size_of_extent o) × (f.align ≡ align_of_extent o)
size_by true o f h small = (sym (ap size_of_extent h.is), sym (ap align_of_extent h.is))
size_by false o f h small = let n = h.2 small in
    (h.0 ∙ sym (ap size_of_extent n), h.1 ∙ sym (ap align_of_extent n))

pub size_is : {all : List CType} {t : ℕ} {f : TypeFacts} → FactsFit all t f → IsSmall all t → f.size ≡ size_in all t
size_is {t = t} {f = f} h small = (size_by f.complete _ f h.laid small).0

pub align_is : {all : List CType} {t : ℕ} {f : TypeFacts} → FactsFit all t f → IsSmall all t → f.align ≡ align_in all t
align_is {t = t} {f = f} h small = (size_by f.complete _ f h.laid small).1

-- a struct or union is copied in whole units
no_units : (bytes unit : ℕ) → units_fit bytes unit ≡ true → units_fit 0 unit ≡ true
no_units bytes zero h = absurd cc
no_units bytes (suc u) h = let p = and_parts (is_unit (suc u)) _ h in
    and_from (is_unit (suc u)) _ p.0 (eq-eqb (0 % suc u) 0 (omega arith))

units_by : (all : List CType) (t : ℕ) (b : Bool) (f : TypeFacts) → LaidOut b (extent all t) f →
    units_fit f.size (unit_of f.align) ≡ true
units_by all t true f h = copies_fit all t _ h.is
units_by all t false f h = rw (h.0, h.1) refl

pub units_are : {all : List CType} {t : ℕ} {f : TypeFacts} → FactsFit all t f →
    units_fit (record_size f) (unit_of f.align) ≡ true
units_are {all = all} {t = t} {f = f} h = by f.«record» (units_by all t f.complete f h.laid)
  where
    by : (b : Bool) → units_fit f.size (unit_of f.align) ≡ true →
        units_fit (if b then f.size else 0) (unit_of f.align) ≡ true
    by true u = u
    by false u = no_units f.size (unit_of f.align) u

-- ---- where members begin

next : (ms : List Member) (i : ℕ) (m : Member) → i < length ms → m ≡ get_or ms i m → drop i ms ≡ m ∷ drop (i + 1) ms
next ms i m lt e = rw (add-one, drop-cons ms i m lt) (ap (λ n. n ∷ drop (suc i) ms) (sym e))

pub none_before : (go : ℕ → Option Extent) (k : ℕ) (x : Extent) → struct_offset go [] k x ≡ None
unfolding struct_offset
none_before go k x = refl

-- what is no struct has no member behind its begin
pub begins_none : (c : CType) → ((tag : ℕ) (ms : List Member) → c ≡ types.Struct tag ms → ⊥) →
    (go : ℕ → Option Extent) (k : ℕ) →
    offset_or_zero (offset_of_member (Some c) go k) ≡ offset_or_zero (struct_offset go [] k no_members)
begins_none c h go k = by c h ∙ sym (ap offset_or_zero (none_before go k no_members))
  where
    shared : (m : Option Member) → offset_or_zero (union_offset m) ≡ 0
    shared None = refl
    shared (Some m) = refl

    by : (c : CType) → ((tag : ℕ) (ms : List Member) → c ≡ types.Struct tag ms → ⊥) →
        offset_or_zero (offset_of_member (Some c) go k) ≡ 0
    by (types.Struct tag ms) h = absurd (h tag ms refl)
    by (types.Union tag ms) h = shared (slice_get ms k)
    by c h = refl

-- only the end of the members before counts for where a member begins
ends_at : (go : ℕ → Option Extent) (ms : List Member) (k : ℕ) (x y : Extent) → x.size ≡ y.size →
    struct_offset go ms k x ≡ struct_offset go ms k y
unfolding struct_offset
ends_at go [] k x y e = refl
ends_at go (m ∷ ms) zero x y e =
    ap (λ n. with_extent (go m.of) (λ z. Some (rounded_up n (member_align z)))) e
ends_at go (m ∷ ms) (suc k) x y e = by (λ z. ends_at go ms k (behind z x) (behind z y)
    (ap (λ n. rounded_up n (member_align z) + owned z.size) e)) (go m.of)
  where
    by : ((z : Extent) → struct_offset go ms k (behind z x) ≡ struct_offset go ms k (behind z y)) →
        (o : Option Extent) → with_extent o (λ z. struct_offset go ms k (behind z x))
        ≡ with_extent o (λ z. struct_offset go ms k (behind z y))
    by h None = refl
    by h (Some z) = h z

abbrev pub end_at : ℕ → Extent
end_at n = record { size = n; align = 1 }

pub offset_missing : (go : ℕ → Option Extent) (ms : List Member) (i k n : ℕ) (m : Member) → i < length ms →
    m ≡ get_or ms i m → go m.of ≡ None → struct_offset go (drop i ms) k (end_at n) ≡ None
unfolding struct_offset
offset_missing go ms i k n m lt e f = rw (next ms i m lt e) (by k)
  where
    by : (k : ℕ) → struct_offset go (m ∷ drop (i + 1) ms) k (end_at n) ≡ None
    by zero = rw f refl
    by (suc k) = rw f refl

pub offset_past : (go : ℕ → Option Extent) (ms : List Member) (i k n : ℕ) → length ms ≤ i →
    struct_offset go (drop i ms) k (end_at n) ≡ None
offset_past go ms i k n le = rw (drop_of_length-le ms le) (none_before go k (end_at n))

-- behind one member more
pub offset_on : (go : ℕ → Option Extent) (ms : List Member) (i k n q : ℕ) (m : Member) (x : Extent) → i < length ms →
    m ≡ get_or ms i m → go m.of ≡ Some x → 0 < k → q ≡ member_offset x (end_at n) + owned x.size →
    struct_offset go (drop i ms) k (end_at n) ≡ struct_offset go (drop (i + 1) ms) (k - 1) (end_at q)
offset_on go ms i k n q m x lt e f p h = offset_later go ms i k m (end_at n) x lt e f p
    ∙ ends_at go (drop (i + 1) ms) (k - 1) (behind x (end_at n)) (end_at q) (sym h)

-- the extent of a type that is laid out, or not
pub laid_by : {all : List CType} {t : ℕ} (f : TypeFacts) → FactsFit all t f → not f.complete ≡ false →
    Fits (extent all t) (record { size = f.size; align = f.align })
laid_by {all = all} {t = t} f h e = by f.complete e h.laid
  where
    by : (b : Bool) → not b ≡ false → LaidOut b (extent all t) f →
        Fits (extent all t) (record { size = f.size; align = f.align })
    by true e l = l
    by false e l = absurd cc

pub missing_by : {all : List CType} {t : ℕ} (f : TypeFacts) → FactsFit all t f → not f.complete ≡ true →
    IsSmall all t → extent all t ≡ None
missing_by {all = all} {t = t} f h e small = by f.complete e h.laid
  where
    by : (b : Bool) → not b ≡ true → LaidOut b (extent all t) f → extent all t ≡ None
    by true e l = absurd cc
    by false e l = l.2 small

-- ---- pointers and members

pointee_by : (c : Option CType) (of : ℕ) → target_by c ≡ Some of → (is_pointer c ≡ true) × (pointee_of c ≡ of)
pointee_by (Some (types.Pointer t)) of h = (refl, let e : Some t ≡ Some of = h in cc)
pointee_by None of h = absurd cc
pointee_by (Some c) of h = absurd cc

target_pointee : (c : Option CType) → unwrap_or (target_by c) 0 ≡ pointee_of c
target_pointee (Some (types.Pointer t)) = refl
target_pointee None = refl
target_pointee (Some c) = refl

pub target_is : {all : List CType} {t : ℕ} {f : TypeFacts} → FactsFit all t f →
    unwrap_or f.target 0 ≡ pointee_of (bare all t)
target_is {all = all} {t = t} h = ap (λ z. unwrap_or z 0) h.points ∙ target_pointee (bare all t)

pub pointed_is : {all : List CType} {t of : ℕ} {f g : TypeFacts} → FactsFit all t f → f.target ≡ Some of →
    FactsFit all of g → IsPointed all t g.size
pointed_is {all = all} {t = t} {of = of} h e i =
    let p = pointee_by (bare all t) of (sym h.points ∙ e) in
    record { pointer = p.0; size = λ small. size_is i (subst (IsSmall all) p.1 small) ∙ ap (size_in all) (sym p.1) }

pub narrowed_not : (p : Typed) (vars : List VarDef) (of : ExprKind) (t : ℕ) →
    ((a m : ℕ) → of ≡ exprs.Member a m → ⊥) → narrowing_by p vars of t ≡ None
narrowed_not p vars (exprs.Member a m) t h = absurd (h a m refl)
narrowed_not p vars of t h = refl

pub narrowed_is : (p : Typed) (vars : List VarDef) (k a m : ℕ) (e : Expr) (f : TypeFacts) →
    slice_get p.exprs k ≡ Some e → e.kind ≡ exprs.Member a m → FactsFit p.types e.of f →
    IsSmall p.types (type_at p k) → narrowing_of p vars (slice_get p.exprs k) ≡ Some (narrowing_to f.size)
narrowed_is p vars k a m e f h is i small = ap (narrowing_of p vars) h ∙ ap (λ z. narrowing_by p vars z e.of) is
    ∙ ap (λ n. Some (narrowing_to n)) (sym (size_is i (subst (IsSmall p.types) (ap type_of h) small)))

pub node_there : (o : Option Expr) → (o ≡ None → ⊥) → (e : Expr) × (o ≡ Some e)
node_there None h = absurd (h refl)
node_there (Some e) h = (e, refl)

fits_at : (p : Typed) (e d : Expr) (f : TypeFacts) → ◌≡◌ {A = Option Expr} (Some d) (Some e) →
    FactsFit p.types d.of f → FactsFit p.types e.of f
fits_at p e d f h i = let same : d ≡ e = cc in subst (λ (z : Expr). FactsFit p.types z.of f) same i

pub fits_node : (p : Typed) (k : ℕ) (e d : Expr) (f : TypeFacts) → slice_get p.exprs k ≡ Some d →
    FactsFit p.types d.of f → slice_get p.exprs k ≡ Some e → FactsFit p.types e.of f
fits_node p k e d f n h i = fits_at p e d f (sym n ∙ i) h
