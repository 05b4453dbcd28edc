-- The temps of parameters, the homes of variables, and the code of a whole function.
use Rattle.std.proofs.Common.{◌≡◌, ℕ, zero, suc, ◌+◌, ◌<◌, ◌≤◌, Bool, true, false, List, [], ◌∷◌, ◌++◌, length, take}
use Rattle.std.proofs.Common.{get_or, Option, Some, None, Result, Ok, Err, IfOk, refl, sym, ap, ◌∙◌, subst, arith}
use Rattle.std.proofs.Common.{length-append, ⊎_elim, if◌then◌else◌}
use Rattle.std.specs.Prelude.{slice_get, nat_lt, ◌&&◌}
use Rattle.std.proofs.lemmas.Bool.{cases_lt}
use Rattle.std.proofs.lemmas.Bool.Decides.{nat_tests}
use Rattle.std.proofs.lemmas.List.{take_more}
use Rattle.std.proofs.lemmas.Option.{slice_get_within, slice_get-get_or, get_or_from_slice_get}
use Rattle.c_tree.specs.TreeWeight.{HasLightFunctions, function_limit, function_weight}
use Rattle.c_tree.specs.Types as ty
use Rattle.c_tree.specs.Layout.{bare}
use Rattle.c_tree.specs.Types.{Ty, Tys, Function, no_types, also}
use Rattle.c_tree.specs.Views.{IsOrdered, action_at, actions_of}
use Rattle.c_tree.specs.WellTyped.{FunctionFits, ParametersFit, ActionFits, outside, type_in}
use Rattle.c_tree.specs.declared.typed.FunDef.{FunDef}
use Rattle.c_tree.specs.declared.typed.Typed.{Typed}
use Rattle.c_tree.specs.declared.typed.VarDef.{VarDef}
use Rattle.cheri_c_sem.specs.Programs.{lengths_of}
use Rattle.cheri_c_sem.specs.Types.{size_in}
use Rattle.tac_ir.specs.WellFormed.{begins_with, param_kinds, signature_of, function_fits, functions_fit, type_of_param}
use Rattle.tac_ir.specs.declared.code.TacFun.{TacFun}
use Rattle.tac_ir.specs.declared.code.TacInstr.TheVariants as instr
use Rattle.tac_ir.specs.declared.code.TacKind.{TacKind}
use Rattle.tac_lower.specs.declared.context.Home.{Home}
use Rattle.tac_emit.specs.declared.emitter.Emitter.{Emitter}
use Rattle.tac_emit.specs.Emitted.{HasKind, HasLeft, WellListed, Keeps, IsWell, Grown, Adds, Pushed, open_labels}
use Rattle.tac_lower.specs.Functions.{AreParameters, AreTypedFunctions, Makes}
use Rattle.tac_lower.specs.Lowered.{names_of, names_in}
use Rattle.tac_lower.specs.Nodes.{kept_as, or_int}
use Rattle.tac_lower.specs.Parts.{heft_in}
use Rattle.tac_lower.specs.Scenes.{HomeFits, Housed, frame_of, given_in}
use Rattle.tac_lower.specs.Signed.{kept_parameter, signature_as, ReturnFits}
use Rattle.tac_lower.specs.Statements.{IsPart}
use Rattle.tac_lower.specs.Tables.{kept_by, given_by}
use Rattle.tac_lower.specs.Programs.{AreHomes, IsNext}
use Rattle.tac_emit.specs.Adding.{none, Added}
use Rattle.tac_emit.proofs.Emitting.{added_then}
use Rattle.tac_lower.proofs.Homed.{before_is, homed_none, homed_more, home_below}
use Rattle.tac_lower.proofs.Called.{return_lasts}
use Rattle.tac_lower.proofs.Finished.{ends_whole, function_is}
use Rattle.tac_emit.proofs.Labels.{closed_past}
use Rattle.tac_lower.proofs.Leaving.{left_whole}
use Rattle.tac_lower.proofs.Scening as scening
use Rattle.tac_lower.proofs.Signatures.{signature_is, given, begins}
use Rattle.tac_lower.proofs.Typings.{kept_is}
use Rattle.tac_emit.specs.Spent.{Spent}
use Rattle.tac_emit.proofs.Spending.{spent_same, spent_then}
use Rattle.tac_emit.proofs.Wells.{and_true, keeps_same, keeps_then, grown_same, grown_then}

-- ---- the items of a list

pub number_of : (xs ys : List ℕ) (i : ℕ) → xs ≡ ys → i < length xs → slice_get ys i ≡ Some (get_or xs i 0)
number_of xs ys i e lt = subst (λ z. slice_get z i ≡ Some (get_or xs i 0)) e (slice_get-get_or xs i 0 lt)

-- ---- parameters

pub record ParametersTo (p : Typed) (d : FunDef) (a e : Emitter) (i : ℕ) : Type 0 where
  pub many : length e.kinds.items ≡ i
  pub each : (j x : ℕ) → j < i → slice_get d.params j ≡ Some x → HasKind e j (kept_parameter p d x)
  pub grown : Grown a e
  pub labels : e.labels ≤ a.labels
  pub spent : Spent a e i 0
  pub added : Added a e none

pub parameters_none : (p : Typed) (d : FunDef) (a : Emitter) → a.kinds.items ≡ [] → ParametersTo p d a a 0
parameters_none p d a e = record {
  many = ap (λ z. length z) e;
  each = λ j x lt there. absurd (omega arith);
  grown = grown_same a;
  labels = omega arith;
  spent = spent_same a 0;
  added = record { is = λ rest. refl };
}

same_some : {A : Type 0} (x y : A) → Some x ≡ Some y → x ≡ y
same_some x y e = cc

pub parameters_more : (p : Typed) (d : FunDef) (a b e : Emitter) (i t y : ℕ) (k : TacKind) → ParametersTo p d a b i
    → Grown b e → Adds b e 1 0 → t ≡ length b.kinds.items → HasKind e t k
    → k ≡ kept_parameter p d y → slice_get d.params i ≡ Some y → Spent b e 1 0 → Added b e none
    → ParametersTo p d a e (i + 1)
parameters_more p d a b e i t y k h g q at has kind there one more =
    let lt = slice_get_within e.kinds.items t k has.there in
    let m = h.many in
    record {
      many = let n = q.temps in omega arith;
      each = λ j x less is.
          ⊎_elim
          (λ (before : j < i). record { there = g.keeps.kept j (kept_parameter p d x) (h.each j x before is).there })
          (λ (past : i ≤ j).
          let same : t ≡ j = omega arith in
          let index : i ≡ j = omega arith in
          let value : y ≡ x = same_some y x (sym (subst (λ z. slice_get d.params z ≡ Some y) index there) ∙ is) in
          subst (λ z. HasKind e z (kept_parameter p d x)) same
          (subst (λ z. HasKind e t z) (kind ∙ ap (λ z. kept_parameter p d z) value) has))
          (cases_lt j i);
      grown = grown_then a b e h.grown g;
      labels = let n = q.labels in let o = h.labels in omega arith;
      spent = spent_then h.spent one;
      added = added_then h.added more;
    }

pub parameters_all : (p : Typed) (d : FunDef) (a e : Emitter) (i : ℕ) → ParametersTo p d a e i → length d.params ≤ i
    → AreParameters p d e
parameters_all p d a e i h le =
    record { each = λ j x is. let lt = slice_get_within d.params j x is in h.each j x (omega arith) is }

pub parameters_add : (p : Typed) (d : FunDef) (a e : Emitter) (i n : ℕ) → ParametersTo p d a e i → i ≤ n → Adds a e n 0
parameters_add p d a e i n h le =
    record { temps = let m = h.many in omega arith; labels = let l = h.labels in omega arith }

pub parameters_kept : (p : Typed) (d : FunDef) (a e : Emitter) → AreParameters p d a
    → Keeps a.kinds.items e.kinds.items → AreParameters p d e
parameters_kept p d a e h g =
    record { each = λ j x is. record { there = g.kept j (kept_parameter p d x) (h.each j x is).there } }

-- they are among the temps
pub parameters_there : (p : Typed) (d : FunDef) (e : Emitter) → AreParameters p d e
    → length d.params ≤ length e.kinds.items
parameters_there p d e h = by (length d.params) refl
  where
    by : (n : ℕ) → length d.params ≡ n → length d.params ≤ length e.kinds.items
    by zero q = omega arith
    by (suc m) q =
        let x = get_or d.params m 0 in
        let lt = slice_get_within e.kinds.items m (kept_parameter p d x)
        (h.each m x (slice_get-get_or d.params m 0 (omega arith))).there in
        omega arith

-- the temp of a parameter has its value
pub parameter_temp : (p : Typed) (d : FunDef) (e : Emitter) (x : ℕ) (v : VarDef) (k : TacKind) → FunctionFits p d
    → AreParameters p d e → slice_get d.vars x ≡ Some v → k ≡ or_int (kept_as (type_in p v.of))
    → x < length d.params → HasKind e x k
parameter_temp p d e x v k fits h there kind lt =
    let has = h.each x x (fits.params_first x lt) in
    let q : kept_parameter p d x ≡ or_int (kept_as (type_in p v.of)) =
    ap (λ z. or_int (kept_as (type_in p (type_of_param z)))) there in
    subst (λ z. HasKind e x z) (q ∙ sym kind) has

-- ---- objects among variables

module _ (p : Typed) where
  abbrev objects : List VarDef → ℕ
  objects vs = length (lengths_of p vs)

  with_first : (b : Bool) (n : ℕ) (xs ys : List ℕ) → length xs < length ys
      → length (if b then xs else n ∷ xs) < length (if b then ys else n ∷ ys)
  with_first true n xs ys h = h
  with_first false n xs ys h = omega (arith, h)

  pub objects_within : (vs : List VarDef) (i : ℕ) (v : VarDef) → slice_get vs i ≡ Some v → v.simple ≡ false
      → objects (take i vs) < objects vs
  objects_within [] i v is h = absurd cc
  objects_within (x ∷ vs) zero v is h =
      let same : x ≡ v = cc in
      let q : x.simple ≡ false = subst (λ (z : VarDef). z.simple ≡ false) (sym same) h in
      let e : length (if x.simple then lengths_of p vs else size_in p.types x.of ∷ lengths_of p vs) ≡ suc
      (length (lengths_of p vs)) =
      ap (λ z. length (if z then lengths_of p vs else size_in p.types x.of ∷ lengths_of p vs)) q in
      omega (arith, e)
  objects_within (x ∷ vs) (suc i) v is h = with_first x.simple (size_in p.types x.of) (lengths_of p (take i vs))
      (lengths_of p vs) (objects_within vs i v is h)

  with_both : (b : Bool) (n m : ℕ) (xs ys : List ℕ) → length ys ≡ length xs + m
      → length (if b then ys else n ∷ ys) ≡ length (if b then xs else n ∷ xs) + m
  with_both true n m xs ys h = h
  with_both false n m xs ys h = omega (arith, h)

  objects_pushed : (vs : List VarDef) (v : VarDef)
      → objects (vs ++ v ∷ []) ≡ objects vs + length (if v.simple then [] else size_in p.types v.of ∷ [])
  objects_pushed [] v = omega arith
  objects_pushed (x ∷ vs) v =
      with_both x.simple (size_in p.types x.of) (length (if v.simple then [] else size_in p.types v.of ∷ []))
      (lengths_of p vs) (lengths_of p (vs ++ v ∷ [])) (objects_pushed vs v)

  taken : (vs : List VarDef) (i : ℕ) (v : VarDef) → slice_get vs i ≡ Some v → take (i + 1) vs ≡ take i vs ++ v ∷ []
  taken vs i v is = take_more vs i v (slice_get_within vs i v is)
      ∙ ap (λ z. take i vs ++ z ∷ []) (get_or_from_slice_get vs i v v is)

  pub objects_same : (vs : List VarDef) (i : ℕ) (v : VarDef) → slice_get vs i ≡ Some v → v.simple ≡ true
      → objects (take (i + 1) vs) ≡ objects (take i vs)
  objects_same vs i v is h =
      let e : length (if v.simple then [] else size_in p.types v.of ∷ []) ≡ 0 =
      ap (λ z. length (if z then [] else size_in p.types v.of ∷ [])) h in
      omega (arith, ap objects (taken vs i v is), objects_pushed (take i vs) v, e)

  pub objects_next : (vs : List VarDef) (i : ℕ) (v : VarDef) → slice_get vs i ≡ Some v → v.simple ≡ false
      → objects (take (i + 1) vs) ≡ objects (take i vs) + 1
  objects_next vs i v is h =
      let e : length (if v.simple then [] else size_in p.types v.of ∷ []) ≡ 1 =
      ap (λ z. length (if z then [] else size_in p.types v.of ∷ [])) h in
      omega (arith, ap objects (taken vs i v is), objects_pushed (take i vs) v, e)

  one_more : (b : Bool) (n m : ℕ) (xs : List ℕ) → length xs ≤ m → length (if b then xs else n ∷ xs) ≤ suc m
  one_more true n m xs h = omega (arith, h)
  one_more false n m xs h = omega (arith, h)

  pub objects_few : (vs : List VarDef) → objects vs ≤ length vs
  objects_few [] = omega arith
  objects_few (x ∷ vs) = one_more x.simple (size_in p.types x.of) (length vs) (lengths_of p vs) (objects_few vs)

  pub objects_step : (vs : List VarDef) (i : ℕ) (v : VarDef) (m n : ℕ) → slice_get vs i ≡ Some v
      → (v.simple ≡ true → n ≡ m) → (v.simple ≡ false → n ≡ m + 1) → m ≡ objects (take i vs)
      → n ≡ objects (take (i + 1) vs)
  objects_step vs i v m n is same next h = by v.simple refl
    where
      by : (b : Bool) → v.simple ≡ b → n ≡ objects (take (i + 1) vs)
      by true q = let e = same q in omega (arith, objects_same vs i v is q)
      by false q = let e = next q in omega (arith, objects_next vs i v is q)

-- ---- homes

pub record HomesTo (p : Typed) (d : FunDef) (a e : Emitter) (homes : List Home) (i : ℕ) : Type 0 where
  pub many : length homes ≡ i
  pub stand : (x : ℕ) (h : Home) → slice_get homes x ≡ Some h → (v : VarDef) → slice_get d.vars x ≡ Some v
      → HomeFits p d e v h
  pub grown : Grown a e
  pub temps : length e.kinds.items ≤ length a.kinds.items + i
  pub labels : e.labels ≤ a.labels
  pub spent : Spent a e i 0
  pub added : Added a e none
  pub homed : AreHomes p d homes (length e.kinds.items)

pub homes_none : (p : Typed) (d : FunDef) (a : Emitter) → HomesTo p d a a [] 0
homes_none p d a =
    record {
      many = refl;
      stand = λ x h is. absurd cc;
      grown = grown_same a;
      temps = omega arith;
      labels = omega arith;
      spent = spent_same a 0;
      added = record { is = λ rest. refl };
      homed = homed_none p d (length a.kinds.items);
    }

pub kinds_more : {xs ys : List TacKind} → Keeps xs ys → length xs ≤ length ys
kinds_more {xs = []} k = omega arith
kinds_more {xs = x ∷ xs} {ys = ys} k =
    let n : ℕ = length xs in
    let last = slice_get-get_or (x ∷ xs) n x (omega arith) in
    let lt = slice_get_within ys n _ (k.kept n _ last) in omega arith

get_pushed : (xs : List Home) (y : Home) (P : ℕ → Home → Type 0)
    → ((t : ℕ) (f : Home) → slice_get xs t ≡ Some f → P t f) → P (length xs) y → (t : ℕ) (f : Home)
    → slice_get (xs ++ y ∷ []) t ≡ Some f → P t f
get_pushed [] y P h q zero f e = let z : y ≡ f = cc in subst (λ v. P zero v) z q
get_pushed [] y P h q (suc t) f e = absurd cc
get_pushed (x ∷ xs) y P h q zero f e = h zero f e
get_pushed (x ∷ xs) y P h q (suc t) f e = get_pushed xs y (λ n. P (suc n)) (λ n. h (suc n)) q t f e

pub homes_more : (p : Typed) (d : FunDef) (a b e : Emitter) (hs : List Home) (i : ℕ) (v : VarDef) (h : Home)
    → HomesTo p d a b hs i → Grown b e → Adds b e 1 0 → slice_get d.vars i ≡ Some v → HomeFits p d e v h → Spent b e 1 0
    → Added b e none → (n : ℕ) → n ≡ length (lengths_of p (take i d.vars)) → length d.params ≤ length b.kinds.items
    → IsNext (length d.params) i n (length b.kinds.items) v h → HomesTo p d a e (hs ++ h ∷ []) (i + 1)
homes_more p d a b e hs i v h so_far g q there fits one more n number few next =
    let m = so_far.many in
    record {
      many = omega (arith, length-append hs (h ∷ []));
      stand =
          get_pushed hs h (λ x f. (u : VarDef) → slice_get d.vars x ≡ Some u → HomeFits p d e u f)
          (λ x f is u at. scening.home_kept p d [] [] b e u f g.keeps (so_far.stand x f is u at))
          (λ u at. let same : v ≡ u =
          same_some v u (sym (subst (λ z. slice_get d.vars z ≡ Some v) (sym m) there) ∙ at) in
          subst (λ (z : VarDef). HomeFits p d e z h) same fits);
      grown = grown_then a b e so_far.grown g;
      temps = let s = q.temps in let t = so_far.temps in omega arith;
      labels = let s = q.labels in let t = so_far.labels in omega arith;
      spent = spent_then so_far.spent one;
      added = added_then so_far.added more;
      homed = homed_more p d hs i n (length b.kinds.items) (length e.kinds.items) v h e so_far.homed m there
          (number ∙ sym (before_is p d.vars i)) few next fits (home_below p d v h e fits) (kinds_more g.keeps);
    }

pub homes_all : (p : Typed) (d : FunDef) (a e : Emitter) (hs : List Home) (i : ℕ) → HomesTo p d a e hs i
    → i ≡ length d.vars → Housed p d hs e
homes_all p d a e hs i h n = record { many = h.many ∙ n; stand = λ x o v is at. h.stand x o is v at }

pub homes_add : (p : Typed) (d : FunDef) (a e : Emitter) (hs : List Home) (i n : ℕ) → HomesTo p d a e hs i → i ≤ n
    → Adds a e n 0
homes_add p d a e hs i n h le =
    record { temps = let t = h.temps in omega arith; labels = let t = h.labels in omega arith }

-- ---- the next variable of a list

module _ (p : Typed) (xs vs : List VarDef) (i : ℕ) (u : VarDef) (e : xs ≡ vs) (lt : i < length xs) where
  pub variable_at : (n : ℕ) → n ≡ i → slice_get vs n ≡ Some (get_or xs i u)
  variable_at n is =
      subst (λ z. slice_get vs z ≡ Some (get_or xs i u)) (sym is)
      (subst (λ z. slice_get z i ≡ Some (get_or xs i u)) e (slice_get-get_or xs i u lt))

  pub object_among : (m : ℕ) → m ≡ length (lengths_of p (take i vs)) → (get_or xs i u).simple ≡ false
      → m < length (lengths_of p vs)
  object_among m is h = let q = objects_within p vs i (get_or xs i u) (variable_at i refl) h in omega arith

  pub objects_at : (m n : ℕ) → ((get_or xs i u).simple ≡ true → n ≡ m)
      → ((get_or xs i u).simple ≡ false → n ≡ m + 1) → m ≡ length (lengths_of p (take i vs))
      → n ≡ length (lengths_of p (take (i + 1) vs))
  objects_at m n same next h = objects_step p vs i (get_or xs i u) m n (variable_at i refl) same next h

  pub homes_at : (d : FunDef) (a b c : Emitter) (hs : List Home) (h : Home) → vs ≡ d.vars → HomesTo p d a b hs i
      → Grown b c → Adds b c 1 0 → HomeFits p d c (get_or xs i u) h → Spent b c 1 0
      → Added b c none → (j n : ℕ) → j ≡ i → n ≡ length (lengths_of p (take i d.vars))
      → length d.params ≤ length b.kinds.items
      → IsNext (length d.params) j n (length b.kinds.items) (get_or xs i u) h → HomesTo p d a c (hs ++ h ∷ []) (i + 1)
  homes_at d a b c hs h is so_far g q fits one more j n at number few next =
      homes_more p d a b c hs i (get_or xs i u) h so_far g q
      (subst (λ z. slice_get z i ≡ Some (get_or xs i u)) is (variable_at i refl)) fits one more n number few
      (subst (λ z. IsNext (length d.params) z n (length b.kinds.items) (get_or xs i u) h) at next)

-- ---- the end of the code

module _ {p : Typed} {d : FunDef} (fits : FunctionFits p d) where
  signature : (o : IsOrdered p) → signature_of p d.of ≡ Some (signature_as fits.result fits.takes)
  signature o = signature_is p o d.of fits.result fits.takes fits.type_is

  pub left_before : (o : IsOrdered p) (e : Emitter) → IsWell p d e → ((l : ℕ) → open_labels e l ≡ false) → HasLeft e
      → WellListed p d e.kinds.items e.code.items e.code.items
  left_before o e w closed h = left_whole p d e w closed h (signature_as fits.result fits.takes) (signature o)
      (kept_as fits.result) refl

  pub tail_whole : {T E : Type 0} {a : Emitter} (o : IsOrdered p) (b : Emitter) (r : Result T E) (v : Option ℕ)
      → IsWell p d a → ((l : ℕ) → open_labels a l ≡ false) → ReturnFits a (kept_as fits.result) v
      → IfOk r (λ _. Pushed a b (instr.Return v)) → IfOk r (λ _. WellListed p d b.kinds.items b.code.items b.code.items)
  tail_whole {a = a} o b (Ok x) v w closed f h =
      ends_whole p d a b v closed h w
      ((return_lasts p d a v fits.result fits.takes (signature o) f).fits b.kinds.items b.code.items
      (keeps_same a.kinds.items b.kinds.items h.kinds))
  tail_whole o b (Err x) v w closed f h = tt

  -- ---- the whole function

  given_is : given_in (type_in p d.of) ≡ ty.bare fits.result
  given_is = ap given_in fits.type_is

  pub body_part : IsPart (frame_of p d) d.body
  body_part = record {
    inside = outside;
    placed = record {
      fits = subst
          (λ z. ActionFits (record { program = p; vars = d.vars; gives = z }) outside
          (action_at (actions_of p) d.body)) (sym given_is) fits.body;
    };
  }

  counted : (ts : Tys) (vs : List VarDef) → ParametersFit p ts vs → ty.count ts ≤ length vs
  counted no_types vs h = omega arith
  counted (also t ts) [] h = absurd h
  counted (also t ts) (v ∷ vs) h = let q = counted ts vs h.1 in omega arith

  pub few_parameters : length d.params ≤ length d.vars
  few_parameters = let q = counted fits.takes d.vars fits.params_fit in let n = fits.params_count in omega arith

pub keeps_returned : {T E : Type 0} (a b c : Emitter) (r : Result T E) (v : Option ℕ)
    → Keeps a.kinds.items b.kinds.items
    → IfOk r (λ _. Pushed b c (instr.Return v)) → IfOk r (λ _. Keeps a.kinds.items c.kinds.items)
keeps_returned a b c (Ok x) v f h =
    keeps_then a.kinds.items b.kinds.items c.kinds.items f (keeps_same b.kinds.items c.kinds.items h.kinds)
keeps_returned a b c (Err x) v f h = tt

-- what a light function has
pub light_parts : (p : Typed) (d : FunDef) → function_weight p d ≤ function_limit →
    length d.vars + heft_in p d.body ≤ 7772
light_parts p d h = omega (arith, h)

pub closed_grown : (a b : Emitter) → Grown a b → ((l : ℕ) → open_labels a l ≡ false) → (l : ℕ) → open_labels b l ≡ false
closed_grown a b g h l = ap (λ z. z l) g.opens ∙ h l

pub closed_new : (e : Emitter) → e.labels ≡ 0 → (l : ℕ) → open_labels e l ≡ false
closed_new e h l = closed_past e l (omega arith)

pub formed : (p : Typed) (d : FunDef) (o : IsOrdered p) (e : Emitter) (f : TacFun) → Makes d e f
    → AreParameters p d e → WellListed p d e.kinds.items e.code.items e.code.items → function_fits p d f ≡ true
formed p d o e f m h w =
    let there = parameters_there p d e h in
    let a = m.params in
    let b = m.temps in
    let list : begins_with f.kinds (param_kinds p d) ≡ true =
    subst (λ z. begins_with z (param_kinds p d) ≡ true) (sym m.kinds)
    (begins p o d e.kinds.items (λ j x is. (h.each j x is).there)) in
    let whole = subst (λ z. WellListed p d z f.code f.code) (sym m.kinds)
    (subst (λ z. WellListed p d e.kinds.items z z) (sym m.code) w) in
    function_is p d f m.params (omega arith) (ap (λ z. length z) m.kinds ∙ sym m.temps) list whole

-- ---- the functions of a program

pub one_formed : (p : Typed) (ds : List FunDef) (fs : List TacFun) (d : FunDef) (f : TacFun)
    → functions_fit p ds fs ≡ true → function_fits p d f ≡ true → functions_fit p (ds ++ d ∷ []) (fs ++ f ∷ []) ≡ true
one_formed p [] [] d f h g = and_true (function_fits p d f) true g refl
one_formed p [] (k ∷ fs) d f h g = absurd cc
one_formed p (e ∷ ds) [] d f h g = absurd cc
one_formed p (e ∷ ds) (k ∷ fs) d f h g =
    let b = both (function_fits p e k) (functions_fit p ds fs) h in
    and_true (function_fits p e k) (functions_fit p (ds ++ d ∷ []) (fs ++ f ∷ [])) b.0 (one_formed p ds fs d f b.1 g)
  where
    both : (a b : Bool) → (a && b) ≡ true → (a ≡ true) × (b ≡ true)
    both true b h = (refl, h)
    both false b h = absurd cc

-- ---- what a function gives, by the table

pub gives_none : (p : Typed) (d : FunDef) (r : Ty) (ps : Tys) → IsOrdered p → type_in p d.of ≡ Function r ps
    → given_by (bare p.types d.of) ≡ None → None ≡ kept_as r
gives_none p d r ps o is none = let n = given p o d.of r ps is in
    absurd (let q : None ≡ Some n.type = sym none ∙ n.is in cc)

pub gives_some : (p : Typed) (d : FunDef) (r : Ty) (ps : Tys) → IsOrdered p → type_in p d.of ≡ Function r ps
    → (t : ℕ) → given_by (bare p.types d.of) ≡ Some t → kept_by (bare p.types t) ≡ kept_as r
gives_some p d r ps o is t there =
    let n = given p o d.of r ps is in
    let same : n.type ≡ t = same_some n.type t (sym n.is ∙ there) in
    kept_is p o t ∙ ap kept_as (subst (λ z. type_in p z ≡ r) same n.names)

pub below : (m n : ℕ) → m < n → nat_lt m n ≡ true
below m n lt = grind (arith, nat_tests)

pub taken_few : (p : Typed) (vs : List VarDef) (i : ℕ) → length (lengths_of p (take i vs)) ≤ i
taken_few p [] zero = omega arith
taken_few p [] (suc i) = omega arith
taken_few p (x ∷ vs) zero = omega arith
taken_few p (x ∷ vs) (suc i) = one_more p x.simple (size_in p.types x.of) i (lengths_of p (take i vs))
    (taken_few p vs i)

names_pushed : (fs : List TacFun) (f : TacFun) → names_of (fs ++ f ∷ []) ≡ names_of fs ++ f.name ∷ []
names_pushed [] f = refl
names_pushed (g ∷ fs) f = ap (λ z. g.name ∷ z) (names_pushed fs f)

names_in_pushed : (ds : List FunDef) (d : FunDef) → names_in (ds ++ d ∷ []) ≡ names_in ds ++ d.pos ∷ []
names_in_pushed [] d = refl
names_in_pushed (e ∷ ds) d = ap (λ z. e.pos ∷ z) (names_in_pushed ds d)

pub one_named : (ds : List FunDef) (fs : List TacFun) (d : FunDef) (f : TacFun) → names_of fs ≡ names_in ds
    → f.name ≡ d.pos → names_of (fs ++ f ∷ []) ≡ names_in (ds ++ d ∷ [])
one_named ds fs d f h e = names_pushed fs f ∙ ap (λ z. z ++ f.name ∷ []) h ∙ ap (λ z. names_in ds ++ z ∷ []) e
    ∙ sym (names_in_pushed ds d)

-- the next function of a program
module _ (p : Typed) (xs : List FunDef) (i : ℕ) (d : FunDef) (e : xs ≡ p.funs) (lt : i < length xs)
    (is : d ≡ get_or xs i d) where
  there : slice_get xs i ≡ Some d
  there = slice_get-get_or xs i d lt ∙ ap Some (sym is)

  pub function_at : slice_get p.funs i ≡ Some d
  function_at = subst (λ z. slice_get z i ≡ Some d) e there

  taken_next : take (i + 1) xs ≡ take i xs ++ d ∷ []
  taken_next = take_more xs i d lt ∙ ap (λ z. take i xs ++ z ∷ []) (sym is)

  pub named_next : (fs : List TacFun) (f : TacFun) → names_of fs ≡ names_in (take i xs) → f.name ≡ d.pos
      → names_of (fs ++ f ∷ []) ≡ names_in (take (i + 1) xs)
  named_next fs f h n = one_named (take i xs) fs d f h n ∙ ap names_in (sym taken_next)

  pub formed_next : (fs : List TacFun) (f : TacFun) → functions_fit p (take i xs) fs ≡ true
      → function_fits p d f ≡ true → functions_fit p (take (i + 1) xs) (fs ++ f ∷ []) ≡ true
  formed_next fs f h g = ap (λ z. functions_fit p z (fs ++ f ∷ [])) taken_next ∙ one_formed p (take i xs) fs d f h g

  pub light_next : HasLightFunctions p → function_weight p d ≤ function_limit
  light_next h = h.each i d function_at

-- a function's type is one of functions
pub are_functions : (p : Typed) → AreTypedFunctions p → (k : ℕ) (d : FunDef) → slice_get p.funs k ≡ Some d
    → ty.is_function (type_in p d.of) ≡ true
are_functions p h k d is = ap ty.is_function (h.each k d is).type_is
