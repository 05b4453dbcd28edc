-- What was said first, from the last to the first. Of definitions and initial values the last one counts, so these go
-- from the first to the last.
use Rattle.std.proofs.Common.{◌≡◌, ℕ, zero, suc, ◌+◌, ◌-◌, ◌<◌, ◌≤◌, Bool, true, false, List, [], ◌∷◌, ◌++◌, length}
use Rattle.std.proofs.Common.{drop, Option, Some, None, refl, sym, ap, subst, ◌∙◌, ◌⊎◌, inl, inr, ⊎_elim, rules, tests}
use Rattle.std.proofs.Common.{arith}
use Rattle.std.specs.Global.{Vec}
use Rattle.std.specs.Prelude.{fold, slice_get, slice_set, ◌==◌, if◌then◌else◌}
use Rattle.std.proofs.lemmas.Option.{none-some}
use Rattle.std.proofs.lemmas.Bool.{eqb-true}
use Rattle.std.proofs.lemmas.List.Sums.{fold-append}
use Rattle.ck_base.specs.declared.positions.Pos.{Pos}
use Rattle.c_elaborator.specs.declared.work.Use.{Use}
use Rattle.c_elaborator.specs.declared.work.Used.TheVariants as used
use Rattle.c_elaborator.specs.declared.work.Definition.{Definition}
use Rattle.c_elaborator.specs.declared.work.Filling.{Filling}
use Rattle.c_elaborator.specs.declared.work.Used.{Used}
use Rattle.c_elaborator.specs.declared.work.Work.{Work}
use Rattle.c_tree.specs.Scopes.{State}
use Rattle.c_elaborator.specs.Work.{Shows, UseIsThere, first_place, is_object, is_function, definition_of}
use Rattle.c_plain_rules.specs.Uses.{Uses}
use Rattle.c_plain_rules.specs.Tables.{HasUses, item_at, LastDefinitions}
use Rattle.c_plain_rules.proofs.Backwards.{drop_step, drop_past}
use Rattle.c_plain_rules.proofs.Shown.{statics_count, routines_count}
use Rattle.c_finish.specs.Tables.{IsBlank, LastFillings, last_filling}

pub eqb-same : (n : ℕ) → (n == n) ≡ true
eqb-same n = search (rules, tests)

pub eqb-apart : (a k : ℕ) → (a ≡ k → ⊥) → (a == k) ≡ false
eqb-apart a k h = apart (a == k) refl
  where
    apart : (b : Bool) → (a == k) ≡ b → (a == k) ≡ false
    apart true e = absurd (h (eqb-true a k e))
    apart false e = e

-- an entry after one is set
pub get-set : {A : Type 0} (t : List A) (a k : ℕ) (v b : A) → slice_get (slice_set t a v) k ≡ Some b →
    ((k ≡ a) × (b ≡ v)) ⊎ ((slice_get t k ≡ Some b) × (a ≡ k → ⊥))
get-set [] a k v b e = absurd cc
get-set (x ∷ t) zero zero v b e = inl (refl, cc)
get-set (x ∷ t) zero (suc k) v b e = inr (e, λ h. let z : 0 ≡ suc k = h in absurd (omega arith))
get-set (x ∷ t) (suc a) zero v b e = inr (e, λ h. let z : suc a ≡ 0 = h in absurd (omega arith))
get-set (x ∷ t) (suc a) (suc k) v b e =
    ⊎_elim (λ h. inl (let i : k ≡ a = h.0 in omega arith, h.1))
    (λ h. inr (h.0, λ q. h.1 (let z : suc a ≡ suc k = q in omega arith))) (get-set t a k v b e)

-- ---- uses

same_test : {A : Type 0} (k a : ℕ) (x y : A) → k ≡ a → x ≡ (if a == k then x else y)
same_test k a x y e = rw (e, eqb-same a) refl

apart_test : {A : Type 0} (k a : ℕ) (x y : A) → (a ≡ k → ⊥) → y ≡ (if a == k then x else y)
apart_test k a x y h = rw (eqb-apart a k h) refl

pub object_set : (old : Uses) (new : Uses) (k : ℕ) (p : Pos) (us : List Use) →
    new.objects.items ≡ slice_set old.objects.items k (Some p) → new.functions ≡ old.functions → HasUses us old →
    HasUses (record { what = used.Object k; pos = p } ∷ us) new
object_set old new k p us e f h = record {
  objects = λ j o g.
      ⊎_elim (λ a. a.1 ∙ same_test j k (Some p) (first_place (is_object j) us) a.0)
      (λ a. h.objects j o a.0 ∙ apart_test j k (Some p) (first_place (is_object j) us) a.1)
      (get-set old.objects.items k j (Some p) o (ap (λ xs. slice_get xs j) (sym e) ∙ g));
  functions = λ j o g. h.functions j o (ap (λ (v : Vec (Option Pos)). slice_get v.items j) (sym f) ∙ g);
}

pub function_set : (old : Uses) (new : Uses) (k : ℕ) (p : Pos) (us : List Use) →
    new.functions.items ≡ slice_set old.functions.items k (Some p) → new.objects ≡ old.objects → HasUses us old →
    HasUses (record { what = used.Function k; pos = p } ∷ us) new
function_set old new k p us e f h = record {
  functions = λ j o g.
      ⊎_elim (λ a. a.1 ∙ same_test j k (Some p) (first_place (is_function j) us) a.0)
      (λ a. h.functions j o a.0 ∙ apart_test j k (Some p) (first_place (is_function j) us) a.1)
      (get-set old.functions.items k j (Some p) o (ap (λ xs. slice_get xs j) (sym e) ∙ g));
  objects = λ j o g. h.objects j o (ap (λ (v : Vec (Option Pos)). slice_get v.items j) (sym f) ∙ g);
}

pub no_uses : (t : Uses) → IsBlank t.objects.items → IsBlank t.functions.items → HasUses [] t
no_uses t a b = record { objects = a; functions = b }

-- ---- definitions and initial values

some-none : (i : ℕ) → Some i ≡ None → ⊥
some-none i e = cc

one_there : {A : Type 0} (xs : List A) (i : ℕ) (x : A) → slice_get xs i ≡ Some x → i < length xs
one_there [] i x e = absurd cc
one_there (y ∷ xs) zero x e = omega arith
one_there (y ∷ xs) (suc i) x e = let h : i < length xs = one_there xs i x e in omega arith

same_some : (i j : ℕ) → Some j ≡ Some i → j ≡ i
same_some i j e = cc

-- each entry is there still
set_there : {A : Type 0} (ds : List A) (t : List (Option ℕ)) (a i k j : ℕ) (d : A) → slice_get ds i ≡ Some d →
    ((k i : ℕ) → slice_get t k ≡ Some (Some i) → i < length ds) → slice_get (slice_set t a (Some i)) k ≡ Some (Some j) →
    j < length ds
set_there ds t a i k j d e h g =
    ⊎_elim (λ x. let b : i < length ds = one_there ds i d e in let q : j ≡ i = same_some i j x.1 in omega arith)
    (λ x. h k j x.0) (get-set t a k (Some i) (Some j) g)

pub length-set : {A : Type 0} (t : List A) (a : ℕ) (v : A) → length (slice_set t a v) ≡ length t
length-set [] a v = refl
length-set (x ∷ t) zero v = refl
length-set (x ∷ t) (suc a) v = let h = length-set t a v in cc

pub definition_set : (ds first : List Definition) (t : List (Option ℕ)) (i : ℕ) (d : Definition) →
    slice_get ds i ≡ Some d → LastDefinitions ds first t →
    LastDefinitions ds (first ++ d ∷ []) (slice_set t d.function (Some i))
definition_set ds first t i d e h = record {
  last = λ k o g.
      ⊎_elim (λ a. ap (item_at ds) a.1 ∙ e ∙ same_test k d.function (Some d) (definition_of k first) a.0)
      (λ a. h.last k o a.0 ∙ apart_test k d.function (Some d) (definition_of k first) a.1)
      (get-set t d.function k (Some i) o g)
      ∙ sym (fold-append _ None first (d ∷ []));
  there = λ k j g. set_there ds t d.function i k j d e h.there g;
}

pub filling_set : (ds first : List Filling) (t : List (Option ℕ)) (i : ℕ) (d : Filling) → slice_get ds i ≡ Some d →
    LastFillings ds first t → LastFillings ds (first ++ d ∷ []) (slice_set t d.object (Some i))
filling_set ds first t i d e h = record {
  last = λ k o g.
      ⊎_elim (λ a. ap (item_at ds) a.1 ∙ e ∙ same_test k d.object (Some d) (last_filling k first) a.0)
      (λ a. h.last k o a.0 ∙ apart_test k d.object (Some d) (last_filling k first) a.1)
      (get-set t d.object k (Some i) o g)
      ∙ sym (fold-append _ None first (d ∷ []));
  there = λ k j g. set_there ds t d.object i k j d e h.there g;
}

pub no_definitions : (ds : List Definition) (t : List (Option ℕ)) → IsBlank t → LastDefinitions ds [] t
no_definitions ds t h = record {
  last = λ k o e. ap (item_at ds) (h k o e);
  there = λ k i e. absurd (some-none i (h k (Some i) e));
}

pub no_fillings : (ds : List Filling) (t : List (Option ℕ)) → IsBlank t → LastFillings ds [] t
no_fillings ds t h = record {
  last = λ k o e. ap (item_at ds) (h k o e);
  there = λ k i e. absurd (some-none i (h k (Some i) e));
}

-- ---- from the end

pub at_end : {A : Type 0} (P : List A → Type 0) (xs : List A) (n : ℕ) → n ≡ length xs → P [] → P (drop (n - 0) xs)
at_end P xs n e h = subst P (sym (drop_past xs (n - 0) (omega arith))) h

pub one_back : {A : Type 0} (P : List A → Type 0) (xs : List A) (n i : ℕ) (x : A) → i < n →
    slice_get xs (n - 1 - i) ≡ Some x → P (x ∷ drop (n - i) xs) → P (drop (n - (i + 1)) xs)
one_back P xs n i x lt e h =
    let a : n - 1 - i ≡ n - (i + 1) = omega arith in
    let b : suc (n - (i + 1)) ≡ n - i = omega arith in
    subst P (sym (drop_step xs (n - (i + 1)) x (ap (slice_get xs) (sym a) ∙ e) ∙ ap (λ k. x ∷ drop k xs) b)) h

pub at_begin : {A : Type 0} (P : List A → Type 0) (xs : List A) (n i : ℕ) → n ≤ i → P (drop (n - i) xs) → P xs
at_begin P xs n i le h = let z : n - i ≡ 0 = omega arith in subst (λ k. P (drop k xs)) z h

-- ---- what is there

-- a use names what the tables have an entry for
pub use_fits : (w : Work) (s : State) (m n : ℕ) (u : Used) → Shows w s → m ≡ length w.nodes.p.globals →
    n ≡ length w.nodes.p.funs → UseIsThere (length s.statics) (length s.routines) u → UseIsThere m n u
use_fits w s m n (used.Object k) h e f a =
    let c : length w.nodes.p.globals ≡ length s.statics = statics_count w s h in let b : k < length s.statics = a in
    omega arith
use_fits w s m n (used.Function k) h e f a =
    let c : length w.nodes.p.funs ≡ length s.routines = routines_count w s h in let b : k < length s.routines = a in
    omega arith

last_met : (k : ℕ) (ds : List Definition) (o : Option Definition) (d : Definition) →
    fold (λ p (x : Definition). if x.function == k then Some x else p) o ds ≡ Some d →
    (o ≡ Some d) ⊎ ((i : ℕ) × (slice_get ds i ≡ Some d))
last_met k [] o d e = inl e
last_met k (x ∷ ds) o d e =
    ⊎_elim (λ h. here (x.function == k) h) (λ h. inr (suc h.0, h.1))
    (last_met k ds (if x.function == k then Some x else o) d e)
  where
    here : (b : Bool) → (if b then Some x else o) ≡ Some d → (o ≡ Some d) ⊎ ((i : ℕ) × (slice_get (x ∷ ds) i ≡ Some d))
    here true h = inr (0, h)
    here false h = inl h

-- the definition of a function is one of those that were met
pub definition_met : (k : ℕ) (ds : List Definition) (d : Definition) → definition_of k ds ≡ Some d →
    (i : ℕ) × (slice_get ds i ≡ Some d)
definition_met k ds d e = ⊎_elim (λ h. absurd (none-some d h)) (λ h. h) (last_met k ds None d e)
