-- Sums: of parts, and of what is counted once for each local.
use Rattle.std.proofs.Common.{◌≡◌, ◌≢◌, ◌⊎◌, inl, inr, ℕ, zero, suc, ◌+◌, ◌<◌, ◌≤◌, Bool, true, false, List, []}
use Rattle.std.proofs.Common.{◌∷◌, length, Option, Some, None, refl, sym, ap, ◌∙◌, subst, arith, map, if◌then◌else◌}
use Rattle.std.specs.Prelude.{cond, not, nat_le, slice_get}
use Rattle.std.specs.List.{filter, sum_by}
use Rattle.std.proofs.lemmas.Bool.{cases_lt, eq-eqb, ne_eqb}
use Rattle.std.proofs.lemmas.List.Sums.{sum_by-cons}
use Rattle.cap_ops.specs.Permissions.{data_permissions}
use Rattle.cap_concentrate.specs.Rounding.{owned}
use Rattle.c_tree.specs.Counts.{parts, var_granules}
use Rattle.c_tree.specs.Layout.{Extent, extent, size_limit, size_of}
use Rattle.c_tree.specs.declared.typed.CType.{CType}
use Rattle.c_tree.specs.declared.typed.Typed.{Typed}
use Rattle.c_tree.specs.declared.typed.VarDef.{VarDef}
use Rattle.obj_mem.specs.Legal.{ObjectNeed}
use Rattle.obj_mem.specs.Needs.{is_object, local_need, need_by, nothing_of}
use Rattle.obj_mem.specs.declared.map.Frame.{Frame}
use Rattle.cheri_c_sem.specs.Programs.{lengths_of}
use Rattle.tac_ir.specs.Within.{zeroes}
use Rattle.tac_ir.specs.declared.code.TacInstr.{TacInstr}
use Rattle.tac_ir.specs.declared.code.TacInstr.TheVariants as instr
use Rattle.image_runs.specs.Made.{zeroed, zeroed_in}

pub part_of_sum : {A : Type 0} (f : A → ℕ) (xs : List A) (k : ℕ) (x : A) → slice_get xs k ≡ Some x → f x ≤ sum_by f xs
part_of_sum f [] k x e = cc
part_of_sum f (y ∷ ys) zero x e = let s : y ≡ x = cc in omega (arith, sum_by-cons f y ys, ap f s)
part_of_sum f (y ∷ ys) (suc k) x e = omega (arith, sum_by-cons f y ys, part_of_sum f ys k x e)

-- ---- one number for each need, which are numbered from one on

total : List ObjectNeed → (from : ℕ) → (ℕ → ℕ) → ℕ
total [] v f = 0
total (n ∷ ns) v f = f v + total ns (suc v) f

total_same : (ns : List ObjectNeed) (v : ℕ) (f g : ℕ → ℕ) → ((y : ℕ) → v ≤ y → f y ≡ g y) → total ns v f ≡ total ns v g
unfolding total
total_same [] v f g h = refl
total_same (n ∷ ns) v f g h =
    let here = h v (omega arith) in
    let rest = total_same ns (suc v) f g (λ y le. h y (omega arith)) in
    omega (arith, here, rest)

-- two that differ at one of them
differ : (ns : List ObjectNeed) (v x a : ℕ) (f g : ℕ → ℕ) → v ≤ x → x < v + length ns → f x ≡ a + g x
    → ((y : ℕ) → y ≢ x → f y ≡ g y) → total ns v f ≡ a + total ns v g
unfolding total
differ [] v x a f g lo hi e h = absurd (omega arith)
differ (n ∷ ns) v x a f g lo hi e h =
    by (λ lt. differ ns (suc v) x a f g (omega arith) (omega arith) e h) (cases_lt v x)
  where
    by : (v < x → total ns (suc v) f ≡ a + total ns (suc v) g) → (v < x) ⊎ (x ≤ v)
        → f v + total ns (suc v) f ≡ a + (g v + total ns (suc v) g)
    by later (inr le) =
        let same : v ≡ x = omega (arith, lo) in
        let here : f v ≡ a + g v = ap f same ∙ e ∙ ap (λ y. a + g y) (sym same) in
        let rest = total_same ns (suc v) f g (λ y more. h y (λ z. omega (arith, z, same, more))) in
        omega (arith, here, rest)
    by later (inl lt) =
        let here = h v (λ z. omega (arith, z, lt)) in
        let rest = later lt in
        omega (arith, here, rest)

total_below : (ns : List ObjectNeed) (v : ℕ) (f : ℕ → ℕ) (k : ObjectNeed → ℕ)
    → ((j : ℕ) (n : ObjectNeed) → slice_get ns j ≡ Some n → f (v + j) ≤ k n) → total ns v f ≤ sum_by k ns
unfolding total
total_below [] v f k h = omega arith
total_below (n ∷ ns) v f k h =
    let here = h 0 n refl in
    let same : v + 0 ≡ v = omega arith in
    let first = subst (λ y. f y ≤ k n) same here in
    let rest = total_below ns (suc v) f k (λ j x e.
    let next : v + suc j ≡ suc v + j = omega arith in subst (λ y. f y ≤ k x) next (h (suc j) x e)) in
    omega (arith, first, rest, sum_by-cons k n ns)

-- ---- what is made zero, each local once

-- a number that is counted where there are some
mask : ℕ → ℕ → ℕ
mask zero x = 0
mask (suc n) x = x

mask_below : (n x : ℕ) → mask n x ≤ x
unfolding mask
mask_below zero x = omega arith
mask_below (suc n) x = omega arith

module _ (frame : Option Frame) where
  abbrev masked : List TacInstr → ℕ → ℕ
  masked code y = mask (sum_by (zeroes y) code) (zeroed_in frame y)

  abbrev Once : List TacInstr → Type 0
  Once code = (y : ℕ) → sum_by (zeroes y) code ≤ 1

  abbrev AreBelow : ℕ → List TacInstr → Type 0
  AreBelow n code = (k x : ℕ) → slice_get code k ≡ Some (instr.Zero x) → x < n

  once_rest : (i : TacInstr) (code : List TacInstr) → Once (i ∷ code) → Once code
  once_rest i code once y = let le = once y in omega (arith, sum_by-cons (zeroes y) i code)

  -- an instruction that makes nothing zero
  passes : (ns : List ObjectNeed) (i : TacInstr) (code : List TacInstr) → ((y : ℕ) → zeroes y i ≡ 0)
      → zeroed frame i ≡ 0 → sum_by (zeroed frame) code ≤ total ns 0 (masked code)
      → sum_by (zeroed frame) (i ∷ code) ≤ total ns 0 (masked (i ∷ code))
  passes ns i code none zero_i h =
      let same = total_same ns 0 (masked (i ∷ code)) (masked code) (λ y le.
      let sum = sum_by-cons (zeroes y) i code in
      let no = none y in
      let count : sum_by (zeroes y) (i ∷ code) ≡ sum_by (zeroes y) code = omega (arith, sum, no) in
      ap (λ n. mask n (zeroed_in frame y)) count) in
      omega (arith, sum_by-cons (zeroed frame) i code, zero_i, same, h)

  makes : (ns : List ObjectNeed) (x : ℕ) (code : List TacInstr) → x < length ns → Once (instr.Zero x ∷ code)
      → sum_by (zeroed frame) code ≤ total ns 0 (masked code)
      → sum_by (zeroed frame) (instr.Zero x ∷ code) ≤ total ns 0 (masked (instr.Zero x ∷ code))
  unfolding mask
  makes ns x code lt once h =
      let i = instr.Zero x in
      let one : zeroes x i ≡ 1 = ap (λ b. if b then 1 else 0) (eq-eqb x x refl) in
      let sum = sum_by-cons (zeroes x) i code in
      let le = once x in
      let gone : sum_by (zeroes x) code ≡ 0 = omega (arith, sum, one, le) in
      let here : sum_by (zeroes x) (i ∷ code) ≡ 1 = omega (arith, sum, one, gone) in
      let at : masked (i ∷ code) x ≡ zeroed_in frame x + masked code x =
      ap (λ n. mask n (zeroed_in frame x)) here ∙ omega arith
      ∙ ap (λ n. zeroed_in frame x + mask n (zeroed_in frame x)) (sym gone) in
      let more = differ ns 0 x (zeroed_in frame x) (masked (i ∷ code)) (masked code) (omega arith)
      (omega arith) at
      (λ y other.
      let sum' = sum_by-cons (zeroes y) i code in
      let no : zeroes y i ≡ 0 = ap (λ b. if b then 1 else 0) (ne_eqb x y (λ z. other (sym z))) in
      let count : sum_by (zeroes y) (i ∷ code) ≡ sum_by (zeroes y) code = omega (arith, sum', no) in
      ap (λ n. mask n (zeroed_in frame y)) count) in
      omega (arith, sum_by-cons (zeroed frame) i code, more, h)

  zeros_sum : (ns : List ObjectNeed) (code : List TacInstr) → AreBelow (length ns) code → Once code
      → sum_by (zeroed frame) code ≤ total ns 0 (masked code)
  zeros_sum ns [] below once = omega arith
  zeros_sum ns (instr.Zero x ∷ code) below once =
      makes ns x code (below 0 x refl) once
      (zeros_sum ns code (λ k y e. below (suc k) y e) (once_rest (instr.Zero x) code once))
  zeros_sum ns (i ∷ code) below once =
      passes ns i code (λ y. refl) refl (zeros_sum ns code (λ k y e. below (suc k) y e) (once_rest i code once))

  pub zeros_below : (ns : List ObjectNeed) (code : List TacInstr) (k : ObjectNeed → ℕ) → AreBelow (length ns) code
      → Once code → ((j : ℕ) (n : ObjectNeed) → slice_get ns j ≡ Some n → zeroed_in frame j ≤ k n)
      → sum_by (zeroed frame) code ≤ sum_by k ns
  zeros_below ns code k below once h =
      let le = zeros_sum ns code below once in
      let most = total_below ns 0 (masked code) k (λ j n e.
      let own = h j n e in
      let few = mask_below (sum_by (zeroes j) code) (zeroed_in frame j) in
      let same : j ≡ 0 + j = omega arith in
      subst (λ y. masked code y ≤ k n) same (omega arith)) in
      omega arith

-- ---- the locals of a function

need_parts : (x : Option Extent) (permissions : ℕ)
    → parts (owned (need_by x permissions).length) ≡ parts (owned (size_of x))
need_parts None permissions = refl
need_parts (Some x) permissions = by (nat_le x.size size_limit)
  where
    by : (b : Bool) → parts (owned ((if b then record { length = x.size; align = x.align; permissions = permissions }
        else nothing_of permissions).length)) ≡ parts (owned (if b then x.size else 0))
    by true = refl
    by false = refl

abbrev needed_parts : ObjectNeed → ℕ
needed_parts n = parts (owned n.length)

abbrev sum_of : List CType → List VarDef → ℕ
sum_of types us = sum_by needed_parts (map (local_need types) us)

pub locals_sum : (types : List CType) (vs : List VarDef)
    → sum_of types (filter is_object vs) ≡ sum_by (var_granules types) vs
locals_sum types [] = refl
locals_sum types (v ∷ vs) = by v.simple refl (locals_sum types vs)
  where
    by : (b : Bool) → v.simple ≡ b → sum_of types (filter is_object vs) ≡ sum_by (var_granules types) vs
        → sum_of types (filter is_object (v ∷ vs)) ≡ sum_by (var_granules types) (v ∷ vs)
    by true e h =
        let z : sum_by (var_granules types) vs ≡ 0 + sum_by (var_granules types) vs = omega arith in
        ap (λ b. sum_of types (cond (not b) (v ∷ filter is_object vs) (filter is_object vs))) e ∙ h ∙ z
        ∙ ap (λ b. (if b then 0 else parts (owned (size_of (extent types v.of)))) + sum_by (var_granules types) vs)
        (sym e) ∙ sym (sum_by-cons (var_granules types) v vs)
    by false e h =
        ap (λ b. sum_of types (cond (not b) (v ∷ filter is_object vs) (filter is_object vs))) e
        ∙ sum_by-cons needed_parts (local_need types v) (map (local_need types) (filter is_object vs))
        ∙ ap (λ n. n + sum_of types (filter is_object vs)) (need_parts (extent types v.of) data_permissions)
        ∙ ap (λ n. parts (owned (size_of (extent types v.of))) + n) h
        ∙ ap (λ b. (if b then 0 else parts (owned (size_of (extent types v.of)))) + sum_by (var_granules types) vs)
        (sym e) ∙ sym (sum_by-cons (var_granules types) v vs)

pub locals_count : (p : Typed) (vs : List VarDef)
    → length (lengths_of p vs) ≡ length (map (local_need p.types) (filter is_object vs))
locals_count p [] = refl
locals_count p (v ∷ vs) = by v.simple refl (locals_count p vs)
  where
    by : (b : Bool) → v.simple ≡ b
        → length (lengths_of p vs) ≡ length (map (local_need p.types) (filter is_object vs))
        → length (lengths_of p (v ∷ vs)) ≡ length (map (local_need p.types) (filter is_object (v ∷ vs)))
    by true e h = rw e h
    by false e h = rw e (ap suc h)
