-- The code of a statement makes each object zero that a block in it declares, that of a function also its parameters.
use Rattle.std.proofs.Common.{◌≡◌, ℕ, zero, suc, ◌+◌, true, false, List, [], ◌∷◌, ◌++◌, Option, Some, refl, sym, ap}
use Rattle.std.proofs.Common.{subst}
use Rattle.std.proofs.Common.{inl, inr, ◌⊎◌}
use Rattle.std.specs.Prelude.{slice_get}
use Rattle.ck_base.specs.declared.positions.Pos.{Pos}
use Rattle.c_tree.specs.declared.typed.Typed.{Typed}
use Rattle.cheri_c_sem.specs.Tree.{Declared, Simple, Objects, St, Sts, Block, If, While, Do_while, For, Switch, Label}
use Rattle.cheri_c_sem.specs.Tree.{End, Seq, Parameter, In_variable, In_object, Fun}
use Rattle.tac_ir.specs.Meaning.{kinds_of}
use Rattle.tac_ir.specs.declared.code.TacFun.{TacFun}
use Rattle.tac_ir.specs.declared.code.TacInstr.{TacInstr}
use Rattle.tac_ir.specs.declared.code.TacInstr.TheVariants as instr
use Rattle.tac_ir.specs.declared.code.TacKind.{TacKind}
use Rattle.lower_runs.specs.States.{Scene}
use Rattle.lower_runs.specs.Operating.{Code}
use Rattle.lower_runs.specs.Expressions.{Mark, Signature}
use Rattle.lower_runs.specs.Statements.{Exits, IsEntered, IsStatement, IsStatements, IsBody, otherwise}
use Rattle.lower_runs.specs.Statements as code
use Rattle.lower_runs.specs.Functions.{AreTaken, IsFunction, end_code}
use Rattle.lower_runs.specs.Functions as function
use Rattle.lower_runs.specs.Shortened.{AreNeedless, IsShort}
use Rattle.lower_runs.specs.Shortened as short
use Rattle.lower_forms.proofs.Trees.{Runs, AllRun}
use Rattle.lower_forms.proofs.Operations.{Front, none, more}
use Rattle.lower_forms.proofs.Expressions.{IsFine, fine, one, both, operand, condition}
use Rattle.lower_forms.proofs.Statements.{entered, compared, stand, test, taken}
use Rattle.lower_forms.proofs.Statements as fine_code

-- an object becomes zero in some code
pub data Zeroes (o : ℕ) : List TacInstr → Type 0 where
  here : {is : List TacInstr} → Zeroes o (instr.Zero o ∷ is)
  next : {i : TacInstr} {is : List TacInstr} → Zeroes o is → Zeroes o (i ∷ is)

pub zeroed_at : {o : ℕ} {is : List TacInstr} → Zeroes o is → (j : ℕ) × (slice_get is j ≡ Some (instr.Zero o))
zeroed_at here = (0, refl)
zeroed_at (next z) = let y = zeroed_at z in (suc y.0, y.1)

further : {o : ℕ} {r is : List TacInstr} → Front r is → Zeroes o r → Zeroes o is
further none z = z
further (more h f) z = next (further f z)

past : {o : ℕ} {c : Code} {r : List TacInstr} → IsFine c → Zeroes o r → Zeroes o (c r)
past {r = r} f z = further (f.makes r) z

-- ---- blocks and parameters

-- an object is among what a block declares
abbrev pub Holds : ℕ → List Declared → Type 0
Holds o [] = ⊥
Holds o (Simple x ∷ ds) = Holds o ds
Holds o (Objects n ∷ ds) = (n ≡ o) ⊎ Holds o ds

entered_zeroes : {o : ℕ} {g h : Scene} {ds : List Declared} {c : Code} → IsEntered g ds h c → Holds o ds →
    (r : List TacInstr) → Zeroes o (c r)
entered_zeroes code.nothing i r = absurd i
entered_zeroes (code.simple e h) i r = next (entered_zeroes h i r)
entered_zeroes {o = o} (code.whole {t = t} {c = c} s e h) (inl i) r =
    subst (λ n. Zeroes o (instr.Zero n ∷ instr.Local t n ∷ c r)) (sym i) here
entered_zeroes (code.whole s e h) (inr i) r = next (next (entered_zeroes h i r))

-- or among parameters
abbrev pub Takes : ℕ → List Parameter → Type 0
Takes o [] = ⊥
Takes o (In_variable x ∷ ps) = Takes o ps
Takes o (In_object n k ∷ ps) = (n ≡ o) ⊎ Takes o ps

taken_zeroes : {o : ℕ} {q : Pos} {g h : Scene} {i : ℕ} {ps : List Parameter} {ks : List TacKind} {c : Code} →
    AreTaken q g i ps ks h c → Takes o ps → (r : List TacInstr) → Zeroes o (c r)
taken_zeroes function.none i r = absurd i
taken_zeroes (function.variable s h) i r = taken_zeroes h i r
taken_zeroes {o = o} {q = q} {i = j} (function.object {at = at} {k = k} {c = c} s le h) (inl i) r =
    subst (λ n. Zeroes o (instr.Zero n ∷ instr.Local at n ∷ instr.Store at j k q ∷ c r)) (sym i) here
taken_zeroes (function.object s le h) (inr i) r = next (next (next (taken_zeroes h i r)))

-- ---- statements

-- a block in a statement declares an object
abbrev mutual
  pub Declares : ℕ → St → Type 0
  Declares o (Block ds ss) = Holds o ds ⊎ AnyDeclares o ss
  Declares o (If q k e a b) = Declares o a ⊎ Declares o b
  Declares o (While q k e b) = Declares o b
  Declares o (Do_while q k b e) = Declares o b
  Declares o (For ds first test step b) = Holds o ds ⊎ (AnyDeclares o first ⊎ Declares o b)
  Declares o (Switch q k e ds ls ss) = Holds o ds ⊎ AnyDeclares o ss
  Declares o a = ⊥

  pub AnyDeclares : ℕ → Sts → Type 0
  AnyDeclares o End = ⊥
  AnyDeclares o (Seq a ss) = Declares o a ⊎ AnyDeclares o ss

module _ (p : Typed) (signs : ℕ → Signature) (kinds : List TacKind) (result : Option TacKind) where
  mutual
    statement_zeroes : {o : ℕ} {g : Scene} {x : Exits} {a : St} {m n : Mark} {c : Code} →
        IsStatement p signs kinds result g x a m n c → Runs a → Declares o a → (r : List TacInstr) → Zeroes o (c r)
    statement_zeroes (code.block e a) w (inl i) r = entered_zeroes e i _
    statement_zeroes (code.block e a) w (inr i) r = past (entered e) (statements_zero a w i r)
    statement_zeroes {g = g} (code.choice h a b) w (inl i) r =
        past (condition p signs kinds g h w.0) (statement_zeroes a w.1 i _)
    statement_zeroes {g = g} (code.choice {l = l} h a b) w (inr i) r =
        past (both (condition p signs kinds g h w.0) (both (fine_code.statement p signs kinds result a w.1)
        (both (one (instr.Jump (l.labels + 1)) tt) (one (instr.Label l.labels) tt)))) (statement_zeroes b w.2 i _)
    statement_zeroes {g = g} (code.guarded h a) w (inl i) r =
        past (condition p signs kinds g h w.0) (statement_zeroes a w.1 i _)
    statement_zeroes (code.guarded h a) w (inr i) r = absurd i
    statement_zeroes (code.looped {l = l} h a) w i r =
        past (both (one (instr.Label l.labels) tt) (test p signs kinds result h w.0)) (statement_zeroes a w.1 i _)
    statement_zeroes (code.repeated {l = l} a h) w i r =
        past (one (instr.Label l.labels) tt) (statement_zeroes a w.0 i _)
    statement_zeroes (code.counted e start t b s) w (inl i) r = entered_zeroes e i _
    statement_zeroes (code.counted e start t b s) w (inr (inl i)) r =
        past (entered e) (statements_zero start w.0 i _)
    statement_zeroes (code.counted {l = l} e start t b s) w (inr (inr i)) r =
        past (both (entered e) (both (fine_code.statements p signs kinds result start w.0)
        (both (one (instr.Label l.labels) tt) (test p signs kinds result t w.1)))) (statement_zeroes b w.3 i _)
    statement_zeroes {g = g} (code.switched o e beside kind once among b) w (inl i) r =
        past (operand p signs kinds g o w.0) (entered_zeroes e i _)
    statement_zeroes {g = g} (code.switched {j = j} {ls = ls} {v = v} {m = m} o e beside kind once among b) w
        (inr i) r =
        past (both (operand p signs kinds g o w.0) (both (entered e)
        (both (fine (compared j v m.temps (m.labels + 1) ls))
        (one (instr.Jump (otherwise (m.labels + 1) m.labels ls)) tt)))) (body_zeroes b w.1 i _)
    statement_zeroes a w i r = absurd i

    statements_zero : {o : ℕ} {g : Scene} {x : Exits} {ss : Sts} {m n : Mark} {c : Code} →
        IsStatements p signs kinds result g x ss m n c → AllRun ss → AnyDeclares o ss → (r : List TacInstr) →
        Zeroes o (c r)
    statements_zero code.end w i r = absurd i
    statements_zero (code.seq a b) w (inl i) r = statement_zeroes a w.0 i _
    statements_zero (code.seq a b) w (inr i) r =
        past (fine_code.statement p signs kinds result a w.0) (statements_zero b w.1 i r)

    body_zeroes : {o : ℕ} {g : Scene} {x : Exits} {label number : ℕ} {ls : List Label} {ss : Sts} {m n : Mark}
        {c : Code} → IsBody p signs kinds result g x label ls number ss m n c → AllRun ss → AnyDeclares o ss →
        (r : List TacInstr) → Zeroes o (c r)
    body_zeroes code.behind w i r = absurd i
    body_zeroes (code.among {label = label} {number = number} {ls = ls} a b) w (inl i) r =
        past (fine (stand label number ls)) (statement_zeroes a w.0 i _)
    body_zeroes (code.among {label = label} {number = number} {ls = ls} a b) w (inr i) r =
        past (both (fine (stand label number ls)) (fine_code.statement p signs kinds result a w.0))
        (body_zeroes b w.1 i r)

-- ---- functions

pub function_zeroes : {p : Typed} {signs : ℕ → Signature} {it : TacFun} {n o : ℕ} {f : Fun} →
    IsFunction p signs (Some it) n f 0 → Runs f.body → Takes o f.params ⊎ Declares o f.body → Zeroes o it.code
function_zeroes {p = p} {signs = signs} {it = it} {n = n} {o = o} {f = f} h w d =
    subst (Zeroes o) (sym h.code) (by d)
  where
    end : List TacInstr
    end = end_code (signs n).gives h.at

    by : Takes o f.params ⊎ Declares o f.body → Zeroes o (h.take (h.body end))
    by (inl i) = taken_zeroes h.taken i (h.body end)
    by (inr i) = past (taken h.taken)
        (statement_zeroes p signs (kinds_of (Some it)) (signs n).gives h.statement w i end)

-- no object becomes zero in what is left out
none_left : {o : ℕ} {is : List TacInstr} → Zeroes o is → AreNeedless is → ⊥
none_left here h = h
none_left {is = instr.Label l ∷ is} (next z) h = h
none_left {is = instr.Zero v ∷ is} (next z) h = h
none_left {is = i ∷ is} (next z) h = none_left z h

kept : {o : ℕ} (v : Option ℕ) (front is : List TacInstr) → AreNeedless is →
    Zeroes o (front ++ instr.Return v ∷ is) → Zeroes o (front ++ instr.Return v ∷ [])
kept v [] is h (next z) = absurd (none_left z h)
kept v (i ∷ front) is h here = here
kept v (i ∷ front) is h (next z) = next (kept v front is h z)

pub shorter_zeroes : {o : ℕ} {is js : List TacInstr} → IsShort is js → Zeroes o js → Zeroes o is
shorter_zeroes short.same z = z
shorter_zeroes (short.left front ks v h) z = kept v front ks h z
