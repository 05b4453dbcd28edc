-- The code of functions: arguments stand in the first temps, and a function's end reads what it writes.
use Rattle.std.proofs.Common.{◌≡◌, ℕ, zero, suc, ◌+◌, ◌<◌, ◌≤◌, Bool, true, false, List, [], ◌∷◌, ◌++◌, length, Option}
use Rattle.std.proofs.Common.{Some, None, inl, inr, refl, ap, subst, sym, arith, ◌∙◌}
use Rattle.std.specs.Prelude.{◌==◌, if◌then◌else◌, slice_get, map}
use Rattle.std.proofs.lemmas.List.{length-map}
use Rattle.std.proofs.lemmas.Bool.Decides.{nat_tests}
use Rattle.std.proofs.lemmas.Option.{same_Some}
use Rattle.ck_base.specs.declared.positions.Pos.{Pos}
use Rattle.c_tree.specs.declared.typed.FunDef.{FunDef}
use Rattle.c_tree.specs.declared.typed.Typed.{Typed}
use Rattle.cheri_c_sem.specs.Programs.{function_tree, parameter_of}
use Rattle.cheri_c_sem.specs.Tree.{Declared, Simple, Objects, Parameter, Fun}
use Rattle.tac_ir.specs.Meaning.{is_label, kinds_of}
use Rattle.tac_ir.specs.Temps.{Awaits, reads, writes, behind}
use Rattle.tac_ir.specs.Temps as awaits
use Rattle.tac_ir.specs.declared.code.TacFun.{TacFun}
use Rattle.tac_ir.specs.declared.code.TacInstr.{TacInstr}
use Rattle.tac_ir.specs.declared.code.TacInstr.TheVariants as instr
use Rattle.tac_ir.specs.declared.code.TacKind.{TacKind}
use Rattle.tac_ir.specs.WellFormed.{is_well_formed, functions_fit, function_fits}
use Rattle.lower_runs.specs.States.{Home, Scene}
use Rattle.lower_runs.specs.Operating.{Code}
use Rattle.lower_runs.specs.Expressions.{Signature}
use Rattle.lower_runs.specs.Functions.{AreTaken, IsFunction, end_code, with_home}
use Rattle.lower_runs.specs.Functions as code
use Rattle.lower_runs.specs.Programs.{IsCodeOf, AreCodeOf}
use Rattle.lower_runs.specs.Shortened.{AreNeedless, IsShort}
use Rattle.lower_runs.specs.Shortened as short
use Rattle.lower_runs.proofs.Agreement.{and_left, and_right}
use Rattle.lower_writes.specs.Laws.{NamedCodeWrites}
use Rattle.lower_writes.specs.Naming.{IsDeclared, Says, with_parameters}
use Rattle.lower_writes.proofs.Waiting.{Have, Only, counted, none_in, step, step_return}
use Rattle.lower_writes.proofs.Pieces.{Covers, covers_more}
use Rattle.lower_writes.proofs.Parts.{Part}
use Rattle.lower_writes.proofs.Blocks.{Written, covers_spot}
use Rattle.lower_writes.proofs.Statements.{statement}

-- ---- code that lacks what stands behind a return

data IsCut : List TacInstr → List TacInstr → Type 0 where
  end : IsCut [] []
  left : {v : Option ℕ} {is : List TacInstr} → AreNeedless is → IsCut (instr.Return v ∷ []) (instr.Return v ∷ is)
  next : {i : TacInstr} {is js : List TacInstr} → IsCut is js → IsCut (i ∷ is) (i ∷ js)

cut_same : (is : List TacInstr) → IsCut is is
cut_same [] = end
cut_same (i ∷ is) = next (cut_same is)

cut_left : (front is : List TacInstr) (v : Option ℕ) → AreNeedless is →
    IsCut (front ++ instr.Return v ∷ []) (front ++ instr.Return v ∷ is)
cut_left [] is v h = left h
cut_left (i ∷ front) is v h = next (cut_left front is v h)

cut_of : (is js : List TacInstr) → IsShort is js → IsCut is js
cut_of is js short.same = cut_same is
cut_of is js (short.left front ks v h) = cut_left front ks v h

no_label : (l : ℕ) (is : List TacInstr) → AreNeedless is → behind l is ≡ []
no_label l [] h = refl
no_label l (instr.Label k ∷ is) h = absurd h
no_label l (instr.Zero v ∷ is) h = absurd h
no_label l (i ∷ is) h = no_label l is h

cut_behind : (l : ℕ) (is js : List TacInstr) → IsCut is js → IsCut (behind l is) (behind l js)
cut_behind l is js end = end
cut_behind l is js (left {is = ks} h) = subst (IsCut []) (sym (no_label l ks h)) end
cut_behind l is js (next {i = i} {is = xs} {js = ys} h) = by (is_label i l) (cut_behind l xs ys h)
  where
    by : (b : Bool) → IsCut (behind l xs) (behind l ys) →
        IsCut (if b then xs else behind l xs) (if b then ys else behind l ys)
    by true g = h
    by false g = g

-- what the shorter code awaits, the longer does
cut_awaits : (a b is js : List TacInstr) (k : ℕ) → IsCut a b → IsCut is js → Awaits reads writes a is k →
    Awaits reads writes b js k
cut_awaits a b is js k c end w = elim w [ ]
cut_awaits a b is js k c (left u) (awaits.now h) = awaits.now h
cut_awaits a b is js k c (left u) (awaits.onward f ne w) = let g : false ≡ true = f in absurd (cc)
cut_awaits a b is js k c (left u) (awaits.ahead l g w) = absurd (none_in l g)
cut_awaits a b is js k c (next d) (awaits.now h) = awaits.now h
cut_awaits a b is js k c (next {is = xs} {js = ys} d) (awaits.onward f ne w) =
    awaits.onward f ne (cut_awaits a b xs ys k c d w)
cut_awaits a b is js k c (next {is = xs} {js = ys} d) (awaits.ahead l g w) =
    awaits.ahead l g (cut_awaits a b (behind l xs) (behind l ys) k c (cut_behind l xs ys d) w)
cut_awaits a b is js k c (next (next d)) (awaits.back l g w) =
    awaits.back l g (cut_awaits a b (behind l a) (behind l b) k c (cut_behind l a b c) w)
cut_awaits a b is js k c (next (left u)) (awaits.back l g w) = absurd (none_in l g)

-- ---- arguments

module _ (params : ℕ) where
  have_parameter : (ws : List ℕ) (t : ℕ) → t < params → Have params ws t
  have_parameter [] t h = h
  have_parameter (w ∷ ws) t h = inr (have_parameter ws t h)

  -- a variable's home is from here on the temp of an argument
  covers_parameter : (g : Scene) (ds : List Declared) (ws : List ℕ) (x : ℕ) (i : Home) → Have params ws i.temp →
      Covers params g ds ws → Covers params (with_home x i g) (Simple x ∷ ds) ws
  covers_parameter g ds ws x i has k = record {
    home = λ y h d e. by y h (y == x) refl d e;
    spot = λ o t d e. other o t d e;
  }
    where
      by : (y : ℕ) (h : Home) (b : Bool) → (y == x) ≡ b → IsDeclared (Simple x ∷ ds) (Simple y) →
          (if b then Some i else g.home y) ≡ Some h → Have params ws h.temp
      by y h true q d e = subst (Have params ws) (ap (λ (z : Home). z.temp) (same_Some i h e)) has
      by y h false q (inl same) e =
          let z : x ≡ y = cc in let ne : (y == y) ≡ true = grind (arith, nat_tests) in
          let f : (y == y) ≡ false = subst (λ i. (y == i) ≡ false) z q in absurd cc
      by y h false q (inr d) e = k.home y h d e

      other : (o t : ℕ) → IsDeclared (Simple x ∷ ds) (Objects o) → g.spot o ≡ Some t → Have params ws t
      other o t (inl same) e = absurd cc
      other o t (inr d) e = k.spot o t d e

  module _ (whole : List TacInstr) (pos : Pos) where
    taken_plain : {g h : Scene} {i : ℕ} {ps : List Parameter} {ks : List TacKind} {c : Code} →
        AreTaken pos g i ps ks h c → (q : ℕ) (r : List TacInstr) → behind q (c r) ≡ behind q r
    taken_plain code.none q r = refl
    taken_plain (code.variable scene h) q r = taken_plain h q r
    taken_plain (code.object scene lt h) q r = taken_plain h q r

    taken_length : {g h : Scene} {i : ℕ} {ps : List Parameter} {ks : List TacKind} {c : Code} →
        AreTaken pos g i ps ks h c → length ks ≡ length ps
    taken_length code.none = refl
    taken_length (code.variable scene h) = ap suc (taken_length h)
    taken_length (code.object scene lt h) = ap suc (taken_length h)

    taken : {g h : Scene} {i : ℕ} {ps : List Parameter} {ks : List TacKind} {c : Code} (ds : List Declared)
        (ws : List ℕ) → AreTaken pos g i ps ks h c → i + length ks ≤ params → Covers params g ds ws →
        Written params whole h (with_parameters ps ds) ws c
    taken ds ws code.none room k =
        record { now = ws; more = λ t h. h; covers = k; only = λ often r next. next }
    taken {g = g} {i = i} ds ws (code.variable {x = x} {k = kind} {ks = ks} scene h) room k =
        let few : i + suc (length ks) ≤ params = room in
        taken (Simple x ∷ ds) ws h (omega arith)
        (covers_parameter g ds ws x (record { temp = i; kind = kind })
        (have_parameter ws i (omega arith)) k)
    taken {g = g} {i = i} ds ws (code.object {n = n} {at = at} {k = kind} {ks = ks} {c = c} scene lt h) room k =
        let few : i + suc (length ks) ≤ params = room in
        let inner = taken (Objects n ∷ ds) (at ∷ ws) h (omega arith)
        (covers_spot params g ds (at ∷ ws) n at (inl refl) (covers_more params g ds ws (at ∷ ws) (λ u a. inr a) k)) in
        record {
          now = inner.now;
          more = λ u a. inner.more u (inr a);
          covers = inner.covers;
          only = λ often r next. step params whole often ws (instr.Zero n)
              (instr.Local at n ∷ instr.Store at i kind pos ∷ c r) tt tt
              (step params whole often ws (instr.Local at n) (instr.Store at i kind pos ∷ c r) tt tt
              (step params whole often (at ∷ ws) (instr.Store at i kind pos) (c r) tt
              (inl refl, (have_parameter (at ∷ ws) i (omega arith), tt)) (inner.only often r next)));
        }

  -- ---- functions

  end_past : (k : Option TacKind) (at q : ℕ) → behind q (end_code k at) ≡ []
  end_past None at q = refl
  end_past (Some k) at q = refl

  end_only : (whole : List TacInstr) (often : ℕ) (ws : List ℕ) (k : Option TacKind) (at : ℕ) →
      Only params whole often ws (end_code k at)
  end_only whole often ws None at = step_return params whole often ws None [] tt
  end_only whole often ws (Some k) at = step params whole often ws (instr.Const at k 0) (instr.Return (Some at) ∷ []) tt
      tt (step_return params whole often (at ∷ ws) (Some at) [] (inl refl, tt))

  function_only : (p : Typed) (signs : ℕ → Signature) (whole : TacFun) (n : ℕ) (f : Fun) →
      IsFunction p signs (Some whole) n f 0 → length f.params ≤ params → Says (with_parameters f.params []) f.body →
      (often : ℕ) → Only params whole.code often [] whole.code
  function_only p signs whole n f is room says often =
      subst (Only params whole.code often []) (sym is.code)
      (start.only often (is.body (end_code (signs n).gives is.at))
      (body.only often start.now (end_code (signs n).gives is.at) start.covers
      (record {
        found = λ q le lt. ap (behind q) is.code
            ∙ taken_plain whole.code f.name is.taken q (is.body (end_code (signs n).gives is.at));
        past = λ q le lt. end_past (signs n).gives is.at q;
      }) (record { breaks = λ l e. absurd (none_some l e); continues = λ l e. absurd (none_some l e) })
      (end_only whole.code often start.now (signs n).gives is.at)))
    where
      none_some : (l : ℕ) → None ≡ Some l → ⊥
      none_some l e = cc

      empty : Covers params is.entry [] []
      empty = record { home = λ x h d e. absurd d; spot = λ o t d e. absurd d }

      start : Written params whole.code is.inner (with_parameters f.params []) [] is.take
      start = let same : length (signs n).takes ≡ length f.params = taken_length whole.code f.name is.taken in
          taken whole.code f.name [] [] is.taken (omega arith) empty

      body : Part params whole.code is.inner (with_parameters f.params []) (record { breaks = None; continues = None })
          is.from is.to is.body
      body = statement params whole.code p signs
          (kinds_of (Some whole)) (signs n).gives
          (with_parameters f.params []) is.statement says

-- ---- programs

-- a function has code
record HasCode (p : Typed) (signs : ℕ → Signature) (ds : List FunDef) (k : ℕ) (f : TacFun) : Type 0 where
  definition : FunDef
  there : slice_get ds k ≡ Some definition
  number : ℕ
  code : IsCodeOf p signs number definition f

has_code : (p : Typed) (signs : ℕ → Signature) (n : ℕ) (ds : List FunDef) (fs : List TacFun) →
    AreCodeOf p signs n ds fs → (k : ℕ) (f : TacFun) → slice_get fs k ≡ Some f → HasCode p signs ds k f
has_code p signs n [] [] h k f e = absurd cc
has_code p signs n [] (y ∷ fs) h k f e = absurd h
has_code p signs n (x ∷ ds) [] h k f e = absurd h
has_code p signs n (x ∷ ds) (y ∷ fs) h zero f e = record {
  definition = x;
  there = refl;
  number = n;
  code = subst (λ z. IsCodeOf p signs n x z) (same_Some y f e) h.0;
}
has_code p signs n (x ∷ ds) (y ∷ fs) h (suc k) f e =
    let c = has_code p signs (suc n) ds fs h.1 k f e in
    record { definition = c.definition; there = c.there; number = c.number; code = c.code }

-- and as many parameters as its definition
has_parameters : (p : Typed) (ds : List FunDef) (fs : List TacFun) → functions_fit p ds fs ≡ true → (k : ℕ)
    (d : FunDef) (f : TacFun) → slice_get ds k ≡ Some d → slice_get fs k ≡ Some f → f.params ≡ length d.params
has_parameters p [] fs h k d f e g = absurd cc
has_parameters p (x ∷ ds) [] h k d f e g = absurd cc
has_parameters p (x ∷ ds) (y ∷ fs) h zero d f e g =
    let fits : function_fits p x y ≡ true = and_left (function_fits p x y) (functions_fit p ds fs) h in
    let four = and_left _ _ (and_left _ _ (and_left _ _ (and_left _ _ fits))) in
    let same : (y.params == length x.params) ≡ true = and_left _ _ (and_left _ _ (and_left _ _ four)) in
    let count : y.params ≡ length x.params = grind (arith, nat_tests) in
    ap (λ (z : TacFun). z.params) (sym (same_Some y f g)) ∙ count
    ∙ ap (λ (z : FunDef). length z.params) (same_Some x d e)
has_parameters p (x ∷ ds) (y ∷ fs) h (suc k) d f e g =
    has_parameters p ds fs (and_right (function_fits p x y) (functions_fit p ds fs) h) k d f e g

pub named_code_writes : NamedCodeWrites
unfolding is_well_formed
named_code_writes p says t is formed k f at temp waits =
    let c = has_code p is.signs 0 p.funs t.funs is.functions k f at in
    let d = c.definition in
    let cut = cut_of f.code c.code.whole.code c.code.short.code in
    let w = counted c.code.whole.code c.code.whole.code temp
    (cut_awaits f.code c.code.whole.code f.code c.code.whole.code temp cut cut waits) in
    let count : f.params ≡ length d.params = has_parameters p p.funs t.funs formed k d f c.there at in
    let same : length (map (parameter_of p d.vars) d.params) ≡ length d.params =
    length-map d.params (parameter_of p d.vars) in
    (function_only f.params p is.signs c.code.whole c.number (function_tree p c.number d) (c.code.function 0)
    (omega arith) (says k d c.there) w.0).only temp w.1
