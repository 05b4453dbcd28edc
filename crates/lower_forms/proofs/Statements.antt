-- The code of statements, and of functions, is made of instructions that may stand in lowered code.
use Rattle.std.proofs.Common.{◌≡◌, ℕ, zero, suc, ◌+◌, Bool, true, false, List, [], ◌∷◌, ◌++◌, Option, Some, None}
use Rattle.std.proofs.Common.{refl, sym, subst, if◌then◌else◌}
use Rattle.std.specs.Prelude.{◌==◌, slice_get}
use Rattle.std.proofs.lemmas.Option.{same_Some}
use Rattle.ck_base.specs.declared.positions.Pos.{Pos}
use Rattle.c_tree.specs.declared.typed.FunDef.{FunDef}
use Rattle.c_tree.specs.declared.typed.Typed.{Typed}
use Rattle.cheri_c_sem.specs.Kinds.{Kind}
use Rattle.cheri_c_sem.specs.Programs.{function_tree, stmt_tree}
use Rattle.cheri_c_sem.specs.Tree.{Ex, Declared, Label, Case, Default, St, Sts, Parameter, Fun}
use Rattle.tac_ir.specs.Meaning.{kinds_of}
use Rattle.tac_ir.specs.declared.code.Tac.{Tac}
use Rattle.tac_ir.specs.declared.code.TacFun.{TacFun}
use Rattle.tac_ir.specs.declared.code.TacInstr.{TacInstr}
use Rattle.tac_ir.specs.declared.code.TacInstr.TheVariants as instr
use Rattle.tac_ir.specs.declared.code.TacKind.{TacKind}
use Rattle.lower_runs.specs.States.{Scene}
use Rattle.lower_runs.specs.Operating.{Code}
use Rattle.lower_runs.specs.Expressions.{Mark, Signature, within_temp}
use Rattle.lower_runs.specs.Statements.{Exits, IsEntered, IsTest, IsStep, IsStatement, IsStatements, IsBody, cases_code}
use Rattle.lower_runs.specs.Statements.{stand_code, stands_before, loop_code, repeat_code, otherwise}
use Rattle.lower_runs.specs.Statements as code
use Rattle.lower_runs.specs.Functions.{AreTaken, IsFunction, end_code}
use Rattle.lower_runs.specs.Functions as function
use Rattle.lower_runs.specs.Programs.{IsCodeOf, AreCodeOf, IsProgram}
use Rattle.lower_runs.specs.Shortened.{IsShort}
use Rattle.lower_runs.specs.Shortened as short
use Rattle.lower_runs.specs.Sound.{Each}
use Rattle.lower_forms.specs.Forms.{IsMade, EachInstruction}
use Rattle.lower_forms.proofs.Trees.{WorksIfAny, WorksTested, Runs, AllRun}
use Rattle.lower_forms.proofs.Operations.{Front, none, more, Makes, reaches_within}
use Rattle.lower_forms.proofs.Expressions.{IsFine, fine, nothing, one, both, choice, guarded, operand, value, effect}
use Rattle.lower_forms.proofs.Expressions.{condition, copy}

-- ---- blocks, loops and switches

pub entered : {g h : Scene} {ds : List Declared} {c : Code} → IsEntered g ds h c → IsFine c
entered code.nothing = nothing
entered (code.simple {t = t} {k = k} e h) = both (one (instr.Const t k 0) tt) (entered h)
entered (code.whole {n = n} {t = t} s e h) =
    both (one (instr.Zero n) tt) (both (one (instr.Local t n) tt) (entered h))

loop : {c d f : Code} (l : ℕ) → IsFine c → IsFine d → IsFine f → IsFine (loop_code l c d f)
loop {c = c} {d = d} {f = f} l h i j =
    both (one (instr.Label l) tt) (both h (both i (both (one (instr.Label (l + 1)) tt) (both j
    (fine (λ r. more tt (more tt (more tt none))))))))

repeat : {c d : Code} (l : ℕ) → IsFine d → IsFine c → IsFine (repeat_code l d c)
repeat l i h =
    both (one (instr.Label l) tt) (both i (both (one (instr.Label (l + 1)) tt) (both h
    (fine (λ r. more tt (more tt (more tt none)))))))

pub compared : (k : TacKind) (at v l : ℕ) (ls : List Label) → Makes (cases_code k at v l ls)
compared k at v l [] r = none
compared k at v l (Case n before ∷ ls) r = more tt (more tt (more tt (compared k at v (l + 1) ls r)))
compared k at v l (Default before ∷ ls) r = compared k at v (l + 1) ls r

pub stand : (l n : ℕ) (ls : List Label) → Makes (stand_code l n ls)
stand l n [] r = none
stand l n (s ∷ ls) r = by (stands_before s == n) (stand (l + 1) n ls r)
  where
    by : (b : Bool) → Front r (stand_code (l + 1) n ls r) →
        Front r (if b then instr.Label l ∷ stand_code (l + 1) n ls r else stand_code (l + 1) n ls r)
    by true h = more tt h
    by false h = h

-- ---- statements

module _ (p : Typed) (signs : ℕ → Signature) (kinds : List TacKind) (result : Option TacKind) where
  pub test : {g : Scene} {t : Option (Pos × Kind × Ex)} {label : ℕ} {m n : Mark} {c : Code} →
      IsTest p signs kinds result g t label m n c → WorksTested t → IsFine c
  test code.untested w = nothing
  test {g = g} (code.tested h) w = condition p signs kinds g h w

  loop_step : {g : Scene} {e : Option Ex} {m n : Mark} {c : Code} → IsStep p signs kinds result g e m n c →
      WorksIfAny e → IsFine c
  loop_step code.unstepped w = nothing
  loop_step {g = g} (code.stepped h) w = effect p signs kinds g h w

  mutual
    pub statement : {g : Scene} {x : Exits} {a : St} {m n : Mark} {c : Code} →
        IsStatement p signs kinds result g x a m n c → Runs a → IsFine c
    statement {g = g} (code.evaluated h) w = effect p signs kinds g h w
    statement {g = g} (code.variable e h) w = value p signs kinds g h w
    statement {g = g} (code.object {base = base} {v = v} {offset = offset} {k = k} {q = q} {n = n} e h) w =
        both (operand p signs kinds g h w)
        (both (fine (reaches_within base offset n)) (one (instr.Store (within_temp base offset n) v k q) tt))
    statement {g = g} (code.struct e h) w = copy p signs kinds g h w.0 w.1
    statement (code.block e a) w = both (entered e) (statements a w)
    statement {g = g} (code.choice {l = l} h a b) w =
        choice l.labels (condition p signs kinds g h w.0) (statement a w.1) (statement b w.2)
    statement {g = g} (code.guarded {l = l} h a) w =
        guarded l.labels (condition p signs kinds g h w.0) (statement a w.1)
    statement (code.looped {l = l} h a) w = loop l.labels (test h w.0) (statement a w.1) nothing
    statement {g = g} (code.repeated {l = l} a h) w =
        repeat l.labels (statement a w.0) (condition p signs kinds g h w.1)
    statement (code.counted {l = l} e start t b s) w =
        both (entered e) (both (statements start w.0) (loop l.labels (test t w.1) (statement b w.3) (loop_step s w.2)))
    statement {g = g} (code.switched {j = j} {ls = ls} {v = v} {m = m} o e beside kind once among b) w =
        both (operand p signs kinds g o w.0) (both (entered e)
        (both (fine (compared j v m.temps (m.labels + 1) ls))
        (both (one (instr.Jump (otherwise (m.labels + 1) m.labels ls)) tt)
        (both (body b w.1) (one (instr.Label m.labels) tt)))))
    statement (code.leaves {l = l} e) w = one (instr.Jump l) tt
    statement (code.continues {l = l} e) w = one (instr.Jump l) tt
    statement (code.returns e) w = one (instr.Return None) tt
    statement {g = g} (code.returns_nothing e h) w = both (effect p signs kinds g h w) (one (instr.Return None) tt)
    statement {g = g} (code.returns_value {v = v} e h) w =
        both (operand p signs kinds g h w) (one (instr.Return (Some v)) tt)
    statement code.empty w = nothing

    pub statements : {g : Scene} {x : Exits} {ss : Sts} {m n : Mark} {c : Code} →
        IsStatements p signs kinds result g x ss m n c → AllRun ss → IsFine c
    statements code.end w = nothing
    statements (code.seq a b) w = both (statement a w.0) (statements b w.1)

    body : {g : Scene} {x : Exits} {label number : ℕ} {ls : List Label} {ss : Sts} {m n : Mark} {c : Code} →
        IsBody p signs kinds result g x label ls number ss m n c → AllRun ss → IsFine c
    body (code.behind {label = label} {number = number} {ls = ls}) w = fine (stand label number ls)
    body (code.among {label = label} {number = number} {ls = ls} a b) w =
        both (fine (stand label number ls)) (both (statement a w.0) (body b w.1))

-- ---- functions

pub taken : {q : Pos} {g h : Scene} {i : ℕ} {ps : List Parameter} {ks : List TacKind} {c : Code} →
    AreTaken q g i ps ks h c → IsFine c
taken function.none = nothing
taken (function.variable s h) = taken h
taken {q = q} {i = i} (function.object {n = n} {at = at} {k = k} s le h) =
    both (one (instr.Zero n) tt) (both (one (instr.Local at n) tt) (both (one (instr.Store at i k q) tt) (taken h)))

front_made : {r is : List TacInstr} → Front r is → Each IsMade r → Each IsMade is
front_made none m = m
front_made (more h f) m = (h, front_made f m)

ended : (k : Option TacKind) (at : ℕ) → Each IsMade (end_code k at)
ended None at = (tt, tt)
ended (Some k) at = (tt, (tt, tt))

whole_made : (p : Typed) (signs : ℕ → Signature) (it : TacFun) (n : ℕ) (f : Fun) → IsFunction p signs (Some it) n f 0 →
    Runs f.body → Each IsMade it.code
whole_made p signs it n f h w =
    let b = statement p signs (kinds_of (Some it)) (signs n).gives h.statement w in
    let e = end_code (signs n).gives h.at in
    subst (Each IsMade) (sym h.code) (front_made ((both (taken h.taken) b).makes e) (ended (signs n).gives h.at))

-- and so is code that lacks what stands behind a return
ends_at : (is : List TacInstr) (i : TacInstr) (js : List TacInstr) → Each IsMade (is ++ i ∷ js) →
    Each IsMade (is ++ i ∷ [])
ends_at [] i js h = (h.0, tt)
ends_at (x ∷ is) i js h = (h.0, ends_at is i js h.1)

shortened : (is js : List TacInstr) → IsShort is js → Each IsMade js → Each IsMade is
shortened is js short.same m = m
shortened is js (short.left front ks v h) m = ends_at front (instr.Return v) ks m

-- the bodies of these functions
abbrev AllRuns : Typed → List FunDef → Type 0
AllRuns p ds = (k : ℕ) (d : FunDef) → slice_get ds k ≡ Some d → Runs (stmt_tree p d.vars d.body)

code_made : (p : Typed) (signs : ℕ → Signature) (n : ℕ) (d : FunDef) (f : TacFun) → IsCodeOf p signs n d f →
    Runs (stmt_tree p d.vars d.body) → Each IsMade f.code
code_made p signs n d f h w =
    shortened f.code h.whole.code h.short.code (whole_made p signs h.whole n (function_tree p n d) (h.function 0) w)

all_made : (p : Typed) (signs : ℕ → Signature) (n : ℕ) (ds : List FunDef) (fs : List TacFun) →
    AreCodeOf p signs n ds fs → AllRuns p ds → (k : ℕ) (f : TacFun) → slice_get fs k ≡ Some f → Each IsMade f.code
all_made p signs n [] [] h w k f e = absurd cc
all_made p signs n [] (g ∷ fs) h w k f e = absurd h
all_made p signs n (d ∷ ds) [] h w k f e = absurd h
all_made p signs n (d ∷ ds) (g ∷ fs) h w zero f e =
    subst (λ (f : TacFun). Each IsMade f.code) (same_Some g f e) (code_made p signs n d g h.0 (w 0 d refl))
all_made p signs n (d ∷ ds) (g ∷ fs) h w (suc k) f e =
    all_made p signs (suc n) ds fs h.1 (λ j d e. w (suc j) d e) k f e

each_at : (is : List TacInstr) (j : ℕ) (i : TacInstr) → Each IsMade is → slice_get is j ≡ Some i → IsMade i
each_at [] j i h e = absurd cc
each_at (x ∷ is) zero i h e = subst IsMade (same_Some x i e) h.0
each_at (x ∷ is) (suc j) i h e = each_at is j i h.1 e

pub made : (p : Typed) (t : Tac) → IsProgram p t → AllRuns p p.funs → EachInstruction t IsMade
made p t h w k f e i at =
    each_at f.code at.0 i (all_made p h.signs 0 p.funs t.funs h.functions w k f e) at.1
