-- Well-formed code names its own temps, and each of its labels stands once.
use Rattle.std.proofs.Common.{◌≡◌, ℕ, zero, suc, ◌<◌, Bool, true, false, List, [], ◌∷◌, ◌++◌, length, Option, Some}
use Rattle.std.proofs.Common.{None, inl, inr, refl, subst, arith, if◌then◌else◌}
use Rattle.std.specs.Prelude.{slice_get, nat_lt, nat_le, ◌&&◌, ◌||◌, ◌==◌}
use Rattle.std.proofs.lemmas.Bool.{ltb-true, lt-ltb, eqb-true, and_parts, and_from, false≢true}
use Rattle.ck_int.specs.declared.kinds.IntKind.TheVariants as int
use Rattle.c_tree.specs.declared.typed.FunDef.{FunDef}
use Rattle.c_tree.specs.declared.typed.Typed.{Typed}
use Rattle.cheri_c_sem.specs.Kinds.{Kind, Plain}
use Rattle.cheri_c_sem.specs.Types.{is_shift}
use Rattle.tac_ir.specs.Effects.{kind_of, kind_at}
use Rattle.tac_ir.specs.Intervals.{NamesAt}
use Rattle.tac_ir.specs.Temps.{IsIn, in_option, in_amount, names}
use Rattle.tac_ir.specs.WellFormed.{is_temp, has, has_int, has_capability, amount_fits, result_fits, second_is}
use Rattle.tac_ir.specs.WellFormed.{second_is_address, second_is_capability, no_second, work_fits, service_fits}
use Rattle.tac_ir.specs.WellFormed.{call_fits, return_by, return_fits, all_have, all_of, Signature, int_result, word}
use Rattle.tac_ir.specs.WellFormed.{pointer, instruction_fits, labels_differ, ends_well, begins_with, param_kinds}
use Rattle.tac_ir.specs.WellFormed.{function_fits, functions_fit, is_well_formed, signature_of, signature_of_function}
use Rattle.tac_ir.specs.declared.code.Amount.{Amount}
use Rattle.tac_ir.specs.declared.code.Amount.TheVariants as amount
use Rattle.tac_ir.specs.declared.code.CapWork.{CapWork}
use Rattle.tac_ir.specs.declared.code.CapWork.TheVariants as cap
use Rattle.tac_ir.specs.declared.code.LibOp.{LibOp}
use Rattle.tac_ir.specs.declared.code.LibOp.TheVariants as lib
use Rattle.tac_ir.specs.declared.code.Tac.{Tac}
use Rattle.tac_ir.specs.declared.code.TacFun.{TacFun}
use Rattle.tac_ir.specs.declared.code.TacInstr.{TacInstr}
use Rattle.tac_ir.specs.declared.code.TacInstr.TheVariants as instr
use Rattle.tac_ir.specs.declared.code.TacKind.{TacKind}
use Rattle.tac_live.proofs.Numbers.{is_in_append}
use Rattle.tac_live.specs.Live.{is_numbered}

-- each of some temps is below a number
abbrev Below : ℕ → List ℕ → Type 0
Below n ts = (t : ℕ) → IsIn t ts → t < n

none : (n : ℕ) → Below n []
none n t (j, h) = absurd (cc)

more : (n t : ℕ) (ts : List ℕ) → t < n → Below n ts → Below n (t ∷ ts)
more n t ts lt h k (zero, e) = let s : t ≡ k = cc in omega arith
more n t ts lt h k (suc j, e) = h k (j, e)

both : (n : ℕ) (xs ys : List ℕ) → Below n xs → Below n ys → Below n (xs ++ ys)
both n xs ys a b t i = elim (is_in_append t xs ys i) [ inl l ↦ a t l | inr r ↦ b t r ]

either : {P : Type 0} (x y : Bool) → (x || y) ≡ true → (x ≡ true → P) → (y ≡ true → P) → P
either true y e left right = left refl
either false y e left right = right e

parts3 : (x y z : Bool) → (x && y && z) ≡ true → (x ≡ true) × (y ≡ true) × (z ≡ true)
parts3 x y z e =
    let a = and_parts (x && y) z e in
    let b = and_parts x y a.0 in
    (b.0, b.1, a.1)

module _ (p : Typed) (d : FunDef) (kinds : List TacKind) (code : List TacInstr) where
  temp_below : (t : ℕ) → is_temp p d kinds code t ≡ true → t < length kinds
  temp_below t e = ltb-true t (length kinds) e

  has_below : (t : ℕ) (k : Kind) → has p d kinds code t k ≡ true → t < length kinds
  has_below t k e = temp_below t ((and_parts (is_temp p d kinds code t) _ e).0)

  int_below : (t : ℕ) → has_int p d kinds code t ≡ true → t < length kinds
  int_below t e = temp_below t ((and_parts (is_temp p d kinds code t) _ e).0)

  capability_below : (t : ℕ) → has_capability p d kinds code t ≡ true → t < length kinds
  capability_below t e = temp_below t ((and_parts (is_temp p d kinds code t) _ e).0)

  amount_below : (a : Amount) → amount_fits p d kinds code a ≡ true → Below (length kinds) (in_amount a)
  amount_below (amount.Temp t) e = more (length kinds) t [] (int_below t e) (none (length kinds))
  amount_below (amount.Number n) e = none (length kinds)

  result_below : (to : Option ℕ) (k : Option Kind) → result_fits p d kinds code to k ≡ true →
      Below (length kinds) (in_option to)
  result_below None k e = none (length kinds)
  result_below (Some t) None e = absurd (false≢true e)
  result_below (Some t) (Some k) e = more (length kinds) t [] (has_below t k e) (none (length kinds))

  second_below : (b : Option ℕ) (k : Kind) → second_is p d kinds code b k ≡ true → Below (length kinds) (in_option b)
  second_below None k e = none (length kinds)
  second_below (Some t) k e = more (length kinds) t [] (has_below t k e) (none (length kinds))

  second_capability_below : (b : Option ℕ) → second_is_capability p d kinds code b ≡ true →
      Below (length kinds) (in_option b)
  second_capability_below None e = none (length kinds)
  second_capability_below (Some t) e = more (length kinds) t [] (capability_below t e) (none (length kinds))

  no_second_below : (b : Option ℕ) → no_second p d kinds code b ≡ true → Below (length kinds) (in_option b)
  no_second_below None e = none (length kinds)
  no_second_below (Some t) e = absurd (false≢true e)

  pair_below : (to a : ℕ) (rest : List ℕ) → to < length kinds → a < length kinds → Below (length kinds) rest →
      Below (length kinds) (to ∷ a ∷ rest)
  pair_below to a rest x y h = more (length kinds) to (a ∷ rest) x (more (length kinds) a rest y h)

  -- an intrinsic of a capability with no second operand
  plain_work : (to a : ℕ) (b : Option ℕ) (k : Kind) →
      (has p d kinds code to k && has_capability p d kinds code a && no_second p d kinds code b) ≡ true →
      Below (length kinds) (to ∷ a ∷ in_option b)
  plain_work to a b k e =
      let q = parts3 (has p d kinds code to k) (has_capability p d kinds code a) (no_second p d kinds code b) e in
      pair_below to a (in_option b) (has_below to k q.0) (capability_below a q.1) (no_second_below b q.2)

  number_work : (to a : ℕ) (b : Option ℕ) (k : Kind) →
      (has p d kinds code to k && has_capability p d kinds code a && second_is p d kinds code b word) ≡ true →
      Below (length kinds) (to ∷ a ∷ in_option b)
  number_work to a b k e =
      let q = parts3 (has p d kinds code to k) (has_capability p d kinds code a) (second_is p d kinds code b word) e in
      pair_below to a (in_option b) (has_below to k q.0) (capability_below a q.1) (second_below b word q.2)

  -- a new address is a word or a machine integer, `ptraddr_t` or `vaddr_t`
  address_below : (b : Option ℕ) → second_is_address p d kinds code b ≡ true → Below (length kinds) (in_option b)
  address_below b e = either (second_is p d kinds code b word) (second_is p d kinds code b (Plain int.I64)) e
      (second_below b word) (second_below b (Plain int.I64))

  address_work : (to a : ℕ) (b : Option ℕ) (k : Kind) →
      (has p d kinds code to k && has_capability p d kinds code a && second_is_address p d kinds code b) ≡ true →
      Below (length kinds) (to ∷ a ∷ in_option b)
  address_work to a b k e =
      let q = parts3 (has p d kinds code to k) (has_capability p d kinds code a)
      (second_is_address p d kinds code b) e in
      pair_below to a (in_option b) (has_below to k q.0) (capability_below a q.1) (address_below b q.2)

  length_work : (to a : ℕ) (b : Option ℕ) →
      (has p d kinds code to word && has p d kinds code a word && no_second p d kinds code b) ≡ true →
      Below (length kinds) (to ∷ a ∷ in_option b)
  length_work to a b e =
      let q = parts3 (has p d kinds code to word) (has p d kinds code a word) (no_second p d kinds code b) e in
      pair_below to a (in_option b) (has_below to word q.0) (has_below a word q.1) (no_second_below b q.2)

  work_below : (op : CapWork) (to a : ℕ) (b : Option ℕ) → work_fits p d kinds code op to a b ≡ true →
      Below (length kinds) (to ∷ a ∷ in_option b)
  work_below cap.Base to a b e = plain_work to a b word e
  work_below cap.Offset to a b e = plain_work to a b word e
  work_below cap.Length to a b e = plain_work to a b word e
  work_below cap.Tag to a b e = plain_work to a b (Plain int.Bool) e
  work_below cap.Perms to a b e = plain_work to a b word e
  work_below cap.Clear to a b e = plain_work to a b (kind_at kinds a) e
  work_below cap.SetAddress to a b e = address_work to a b (kind_at kinds a) e
  work_below cap.AndPerms to a b e = number_work to a b (kind_at kinds a) e
  work_below cap.EqualExact to a b e =
      let q = parts3 (has p d kinds code to (Plain int.Bool)) (has_capability p d kinds code a)
      (second_is_capability p d kinds code b) e in
      pair_below to a (in_option b) (has_below to (Plain int.Bool) q.0) (capability_below a q.1)
      (second_capability_below b q.2)
  work_below cap.Rounded to a b e = length_work to a b e
  work_below cap.Mask to a b e = length_work to a b e

  arguments_below : (args : List ℕ) (ks : List Kind) → all_have (has p d kinds code) args ks ≡ true →
      Below (length kinds) args
  arguments_below [] ks e = none (length kinds)
  arguments_below (t ∷ ts) [] e = absurd (false≢true e)
  arguments_below (t ∷ ts) (k ∷ ks) e =
      let q = and_parts (has p d kinds code t k) _ e in
      more (length kinds) t ts (has_below t k q.0) (arguments_below ts ks q.1)

  -- a result and arguments
  call_parts : (to : Option ℕ) (k : Option Kind) (args : List ℕ) (ks : List Kind) →
      (all_have (has p d kinds code) args ks && result_fits p d kinds code to k) ≡ true →
      Below (length kinds) (in_option to ++ args)
  call_parts to k args ks e =
      let q = and_parts (all_have (has p d kinds code) args ks) _ e in
      both (length kinds) (in_option to) args (result_below to k q.1) (arguments_below args ks q.0)

  call_below : (s : Option Signature) (to : Option ℕ) (args : List ℕ) → call_fits p d kinds code s to args ≡ true →
      Below (length kinds) (in_option to ++ args)
  call_below None to args e = absurd (false≢true e)
  call_below (Some s) to args e = call_parts to s.gives args s.params e

  service_below : (op : LibOp) (to : Option ℕ) (args : List ℕ) → service_fits p d kinds code op to args ≡ true →
      Below (length kinds) (in_option to ++ args)
  service_below lib.PutChar to args e = call_parts to (Some int_result) args (int_result ∷ []) e
  service_below lib.GetChar to args e = call_parts to (Some int_result) args [] e
  service_below lib.Malloc to args e = call_parts to (Some pointer) args (word ∷ []) e
  service_below lib.Exit to args e = call_parts to None args (int_result ∷ []) e

  return_by_below : (k : Option Kind) (v : Option ℕ) → return_by p d kinds code k v ≡ true →
      Below (length kinds) (in_option v)
  return_by_below k None e = none (length kinds)
  return_by_below None (Some t) e = absurd (false≢true e)
  return_by_below (Some k) (Some t) e = more (length kinds) t [] (has_below t k e) (none (length kinds))

  return_below : (s : Option Signature) (v : Option ℕ) → return_fits p d kinds code s v ≡ true →
      Below (length kinds) (in_option v)
  return_below None v e = absurd (false≢true e)
  return_below (Some s) v e = return_by_below s.gives v e

  -- the second operand of an operation
  operand_below : (shift : Bool) (b : ℕ) (k : Kind) →
      (if shift then has_int p d kinds code b else has p d kinds code b k) ≡ true → b < length kinds
  operand_below true b k e = int_below b e
  operand_below false b k e = has_below b k e

  one : (t : ℕ) → t < length kinds → Below (length kinds) (t ∷ [])
  one t lt = more (length kinds) t [] lt (none (length kinds))

  names_below : (i : TacInstr) → instruction_fits p d kinds code i ≡ true → Below (length kinds) (names i)
  names_below (instr.Const to k v) e =
      one to (has_below to (kind_of k) ((and_parts (has p d kinds code to (kind_of k)) _ e).0))
  names_below (instr.Copy to from) e =
      let q = and_parts (has p d kinds code to (kind_at kinds from)) _ e in
      pair_below to from [] (has_below to (kind_at kinds from) q.0) (temp_below from q.1) (none (length kinds))
  names_below (instr.Int op k to a b) e =
      let q = parts3 (has p d kinds code to (Plain k)) (has p d kinds code a (Plain k)) _ e in
      pair_below to a (b ∷ []) (has_below to (Plain k) q.0) (has_below a (Plain k) q.1)
      (one b (operand_below (is_shift op) b (Plain k) q.2))
  names_below (instr.Cmp op k to a b) e =
      let q = parts3 (has p d kinds code to int_result) (has p d kinds code a (kind_of k))
      (has p d kinds code b (kind_of k)) e in
      pair_below to a (b ∷ []) (has_below to int_result q.0) (has_below a (kind_of k) q.1)
      (one b (has_below b (kind_of k) q.2))
  names_below (instr.Convert to from old new) e =
      let q = and_parts (has p d kinds code to (kind_of new)) (has p d kinds code from (kind_of old)) e in
      pair_below to from [] (has_below to (kind_of new) q.0) (has_below from (kind_of old) q.1) (none (length kinds))
  names_below (instr.Cap op to a b) e = work_below op to a b e
  names_below (instr.Offset to base by) e =
      let q = parts3 (has p d kinds code to (kind_at kinds base)) (has_capability p d kinds code base)
      (amount_fits p d kinds code by) e in
      pair_below to base (in_amount by) (has_below to (kind_at kinds base) q.0) (capability_below base q.1)
      (amount_below by q.2)
  names_below (instr.Narrow to base len exact) e =
      let q = parts3 (has p d kinds code to (kind_at kinds base)) (has_capability p d kinds code base)
      (amount_fits p d kinds code len) e in
      pair_below to base (in_amount len) (has_below to (kind_at kinds base) q.0) (capability_below base q.1)
      (amount_below len q.2)
  names_below (instr.Load to from k place) e =
      let q = and_parts (has p d kinds code to (kind_of k)) (has_capability p d kinds code from) e in
      pair_below to from [] (has_below to (kind_of k) q.0) (capability_below from q.1) (none (length kinds))
  names_below (instr.Store at v k place) e =
      let q = and_parts (has_capability p d kinds code at) (has p d kinds code v (kind_of k)) e in
      pair_below at v [] (capability_below at q.0) (has_below v (kind_of k) q.1) (none (length kinds))
  names_below (instr.Local to var) e = one to (has_below to pointer ((and_parts (has p d kinds code to pointer) _ e).0))
  names_below (instr.Global to number literal) e =
      one to (has_below to pointer ((and_parts (has p d kinds code to pointer) _ e).0))
  names_below (instr.Function to fun) e =
      one to (has_below to pointer ((and_parts (has p d kinds code to pointer) _ e).0))
  names_below (instr.Zero var) e = none (length kinds)
  names_below (instr.CopyUnits from to bytes unit from_pos to_pos) e =
      let q = parts3 (has_capability p d kinds code from) (has_capability p d kinds code to) _ e in
      pair_below from to [] (capability_below from q.0) (capability_below to q.1) (none (length kinds))
  names_below (instr.Label l) e = none (length kinds)
  names_below (instr.Jump l) e = none (length kinds)
  names_below (instr.Branch on when l) e = one on (temp_below on ((and_parts (is_temp p d kinds code on) _ e).0))
  names_below (instr.Call to fun args) e = call_below (signature_of_function p fun) to args e
  names_below (instr.CallValue to v of args place) e =
      let q = and_parts (has_capability p d kinds code v) _ e in
      with_value to v args (capability_below v q.0) (call_below (signature_of p of) to args q.1)
    where
      with_value : (to : Option ℕ) (v : ℕ) (args : List ℕ) → v < length kinds →
          Below (length kinds) (in_option to ++ args) → Below (length kinds) (in_option to ++ (v ∷ args))
      with_value None v args lt h = more (length kinds) v args lt h
      with_value (Some t) v args lt h =
          more (length kinds) t (v ∷ args) (h t (zero, refl))
          (more (length kinds) v args lt (λ k i. h k (suc i.0, i.1)))
  names_below (instr.Lib op to args) e = service_below op to args e
  names_below instr.Turn e = none (length kinds)
  names_below (instr.Return v) e = return_below (signature_of p d.of) v e

fits_at : {A : Type 0} (f : A → Bool) (code : List A) (k : ℕ) (i : A) → all_of f code ≡ true →
    slice_get code k ≡ Some i → f i ≡ true
fits_at f [] k i e h = absurd (cc)
fits_at f (j ∷ js) zero i e h = let s : j ≡ i = cc in subst (λ x. f x ≡ true) s ((and_parts (f j) _ e).0)
fits_at f (j ∷ js) (suc k) i e h = fits_at f js k i ((and_parts (f j) _ e).1) h

-- a test that passes each item passes all
all_from : {A : Type 0} (f : A → Bool) (xs : List A) → ((k : ℕ) (x : A) → slice_get xs k ≡ Some x → f x ≡ true) →
    all_of f xs ≡ true
all_from f [] h = refl
all_from f (x ∷ xs) h = and_from (f x) (all_of f xs) (h 0 x refl) (all_from f xs (λ k y e. h (suc k) y e))

pub numbered_function : (p : Typed) (d : FunDef) (f : TacFun) → function_fits p d f ≡ true → is_numbered f ≡ true
numbered_function p d f e =
    let turns = and_parts (f.params == length d.params && nat_le f.params f.temps && length f.kinds == f.temps
    && begins_with f.kinds (param_kinds p d) && all_of (instruction_fits p d f.kinds f.code) f.code
    && labels_differ f.code && ends_well f.code) _ e in
    let ends = and_parts _ (ends_well f.code) turns.0 in
    let labels = and_parts _ (labels_differ f.code) ends.0 in
    let fits = and_parts _ (all_of (instruction_fits p d f.kinds f.code) f.code) labels.0 in
    let begins = and_parts _ (begins_with f.kinds (param_kinds p d)) fits.0 in
    let kinds = and_parts _ (length f.kinds == f.temps) begins.0 in
    let len : length f.kinds ≡ f.temps = eqb-true (length f.kinds) f.temps kinds.1 in
    let below : (k : ℕ) (i : TacInstr) → slice_get f.code k ≡ Some i → all_of (λ t. nat_lt t f.temps) (names i) ≡ true =
    λ k i h. all_from (λ t. nat_lt t f.temps) (names i)
    (λ j t g. lt-ltb t f.temps (subst (λ m. t < m) len
    (names_below p d f.kinds f.code i (fits_at (instruction_fits p d f.kinds f.code) f.code k i fits.1 h) t
    (j, g)))) in
    and_from _ (labels_differ f.code) (all_from (λ i. all_of (λ t. nat_lt t f.temps) (names i)) f.code below) labels.1

each_numbered : (p : Typed) (ds : List FunDef) (fs : List TacFun) (k : ℕ) (f : TacFun) → functions_fit p ds fs ≡ true →
    slice_get fs k ≡ Some f → is_numbered f ≡ true
each_numbered p ds [] k f e h = absurd (cc)
each_numbered p [] (g ∷ gs) k f e h = absurd (false≢true e)
each_numbered p (d ∷ ds) (g ∷ gs) zero f e h =
    let s : g ≡ f = cc in subst (λ x. is_numbered x ≡ true) s
    (numbered_function p d g ((and_parts (function_fits p d g) _ e).0))
each_numbered p (d ∷ ds) (g ∷ gs) (suc k) f e h = each_numbered p ds gs k f ((and_parts (function_fits p d g) _ e).1) h

-- each function of well-formed code
pub numbered : (t : Tac) (p : Typed) (k : ℕ) (f : TacFun) → is_well_formed t p ≡ true → slice_get t.funs k ≡ Some f →
    is_numbered f ≡ true
unfolding is_well_formed
numbered t p k f e h = each_numbered p p.funs t.funs k f e h

-- what this says of a function
pub names_its_temps : (f : TacFun) → is_numbered f ≡ true → (t n : ℕ) → NamesAt f.code t n → t < f.temps
names_its_temps f e t n a =
    let all = (and_parts (all_of (λ i. all_of (λ t. nat_lt t f.temps) (names i)) f.code) (labels_differ f.code) e).0 in
    let here = fits_at (λ i. all_of (λ t. nat_lt t f.temps) (names i)) f.code a.1.0 a.0 all a.1.2 in
    ltb-true t f.temps (fits_at (λ t. nat_lt t f.temps) (names a.0) a.2.0 t here a.2.1)

pub labels_once : (f : TacFun) → is_numbered f ≡ true → labels_differ f.code ≡ true
labels_once f e = (and_parts (all_of (λ i. all_of (λ t. nat_lt t f.temps) (names i)) f.code) (labels_differ f.code) e).1
