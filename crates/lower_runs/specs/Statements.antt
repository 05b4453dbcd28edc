-- The relation, for statements: these instructions are the code of this statement, between these numbers of temps and
-- labels.
use Rattle.std.specs.Prelude.{◌≡◌, ◌≤◌, ◌≢◌, ℕ, suc, ◌+◌, ◌==◌, true, false, List, [], ◌∷◌, Option, Some, None, pos}
use Rattle.std.specs.Prelude.{if◌then◌else◌}
use Rattle.ck_base.specs.declared.positions.Pos.{Pos}
use Rattle.ck_int.specs.Kinds.{wrapped}
use Rattle.ck_int.specs.declared.kinds.CmpOp.TheVariants.{Eq}
use Rattle.c_tree.specs.declared.typed.Typed.{Typed}
use Rattle.cheri_c_sem.specs.Kinds.{Kind}
use Rattle.cheri_c_sem.specs.Statements.{default_of}
use Rattle.cheri_c_sem.specs.Tree.{Ex, Nil, Declared, Simple, Objects, Label, Case, Default, St, Do, Give, Init, Fill}
use Rattle.cheri_c_sem.specs.Tree.{Block, If, While, Do_while, For, Switch, Break, Continue, Return, Empty, Sts, End}
use Rattle.cheri_c_sem.specs.Tree.{Seq}
use Rattle.tac_ir.specs.Effects.{kind_of, kind_at}
use Rattle.tac_ir.specs.declared.code.TacInstr.TheVariants as instr
use Rattle.tac_ir.specs.declared.code.TacKind.{TacKind}
use Rattle.tac_ir.specs.declared.code.TacKind.TheVariants as kind
use Rattle.lower_runs.specs.States.{Scene, IsScene, Home}
use Rattle.lower_runs.specs.Operating.{Code}
use Rattle.lower_runs.specs.Expressions.{int_kind, Mark, Signature, more, labelled, choice_code, guarded_code, within}
use Rattle.lower_runs.specs.Expressions.{within_temp, within_mark, Within, IsOperand, IsValue, IsEffect, IsCondition}
use Rattle.lower_runs.specs.Expressions.{IsCopy}

-- where `break` and `continue` lead, if there are such places
pub record Exits : Type 0 where
  pub breaks : Option ℕ
  pub continues : Option ℕ

abbrev pub in_loop : (end next : ℕ) → Exits
in_loop end next = record { breaks = Some end; continues = Some next }

abbrev pub in_switch : ℕ → Exits → Exits
in_switch end x = record { breaks = Some end; continues = x.continues }

-- ---- blocks

-- the pointer to an object stands in a temp from here on
abbrev pub with_spot : (n t : ℕ) → Scene → Scene
with_spot n t g = record g { spot = λ o. if o == n then Some t else g.spot o }

-- `enter`: a block is entered, and in it the pointers to its objects stand in their temps
pub data IsEntered : Scene → List Declared → Scene → Code → Type 0 where
  nothing : {g : Scene} → IsEntered g [] g (λ r. r)
  simple : {g h : Scene} {x t : ℕ} {k : TacKind} {ds : List Declared} {c : Code} →
      g.home x ≡ Some (record { temp = t; kind = k }) → IsEntered g ds h c →
      IsEntered g (Simple x ∷ ds) h (λ r. instr.Const t k 0 ∷ c r)
  whole : {g h : Scene} {n t : ℕ} {ds : List Declared} {c : Code} → IsScene (with_spot n t g) →
      ((i : ℕ) → g.spot n ≡ Some i → i ≡ t) → IsEntered (with_spot n t g) ds h c →
      IsEntered g (Objects n ∷ ds) h (λ r. instr.Zero n ∷ instr.Local t n ∷ c r)

-- a temp that is no home of a variable that a block declares, and has no pointer to an object of it
abbrev pub IsBeside : Scene → List Declared → ℕ → Type 0
IsBeside h [] j = Unit {0}
IsBeside h (Simple x ∷ ds) j = ((i : Home) → h.home x ≡ Some i → j ≢ i.temp) × IsBeside h ds j
IsBeside h (Objects n ∷ ds) j = ((t : ℕ) → h.spot n ≡ Some t → j ≢ t) × IsBeside h ds j

-- ---- loops

-- the labels of a loop are its top, its step and its end; its test, body and step
abbrev pub loop_code : ℕ → (test body step : Code) → Code
loop_code l c d f rest = instr.Label l ∷ c
    (d (instr.Label (l + 1) ∷ f (instr.Turn ∷ instr.Jump l ∷ instr.Label (l + 2) ∷ rest)))

abbrev pub repeat_code : ℕ → (body test : Code) → Code
repeat_code l d c rest = instr.Label l ∷ d
    (instr.Label (l + 1) ∷ c (instr.Turn ∷ instr.Jump l ∷ instr.Label (l + 2) ∷ rest))

-- ---- `switch`

-- the number of a label's value as a kind keeps it
abbrev pub kept_number : TacKind → ℕ → ℕ
kept_number (kind.Int k) n = wrapped k (pos n)
kept_number (kind.Cap s) n = n

-- the comparisons of a value in a temp with the labels from a number on, whose values come into temp v, and the answers
-- into the next one
abbrev pub cases_code : TacKind → (at v label : ℕ) → List Label → Code
cases_code k at v l [] rest = rest
cases_code k at v l (Case n before ∷ ls) rest =
    instr.Const v k (kept_number k n) ∷ instr.Cmp Eq k (v + 1) at v ∷ instr.Branch (v + 1) true l
    ∷ cases_code k at v (l + 1) ls rest
cases_code k at v l (Default before ∷ ls) rest = cases_code k at v (l + 1) ls rest

-- the last label without a value, or the end
abbrev pub otherwise : (label end : ℕ) → List Label → ℕ
otherwise l end [] = end
otherwise l end (Case n before ∷ ls) = otherwise (l + 1) end ls
otherwise l end (Default before ∷ ls) = otherwise (l + 1) l ls

abbrev pub stands_before : Label → ℕ
stands_before (Case n before) = before
stands_before (Default before) = before

-- the labels that stand before the statement with a number
abbrev pub stand_code : (label number : ℕ) → List Label → Code
stand_code l n [] rest = rest
stand_code l n (s ∷ ls) rest =
    if stands_before s == n then instr.Label l ∷ stand_code (l + 1) n ls rest else stand_code (l + 1) n ls rest

-- how many labels there are
abbrev pub count_labels : List Label → ℕ
count_labels [] = 0
count_labels (s ∷ ls) = suc (count_labels ls)

-- at most one label is without a value
abbrev pub IsOnce : List Label → Type 0
IsOnce [] = Unit {0}
IsOnce (Case n before ∷ ls) = IsOnce ls
IsOnce (Default before ∷ ls) = (default_of ls ≡ None) × IsOnce ls

-- each stands before a statement, or behind the last
abbrev pub AreAmong : List Label → ℕ → Type 0
AreAmong [] n = Unit {0}
AreAmong (s ∷ ls) n = (stands_before s ≤ n) × AreAmong ls n

abbrev pub count_statements : Sts → ℕ
count_statements End = 0
count_statements (Seq a ss) = suc (count_statements ss)

-- ---- the relation, in a function that gives a value of a kind, or none

module _ (p : Typed) (signs : ℕ → Signature) (kinds : List TacKind) (result : Option TacKind) where
  -- `test_loop` and `step_loop`, where they are there
  pub data IsTest (g : Scene) : Option (Pos × Kind × Ex) → ℕ → Mark → Mark → Code → Type 0 where
    untested : {label : ℕ} {m : Mark} → IsTest g None label m m (λ r. r)
    tested : {q : Pos} {j : TacKind} {e : Ex} {label : ℕ} {m n : Mark} {c : Code} →
        IsCondition p signs kinds g j e false label m n c → IsTest g (Some (q, kind_of j, e)) label m n c

  pub data IsStep (g : Scene) : Option Ex → Mark → Mark → Code → Type 0 where
    unstepped : {m : Mark} → IsStep g None m m (λ r. r)
    stepped : {e : Ex} {m n : Mark} {c : Code} → IsEffect p signs kinds g e m n c → IsStep g (Some e) m n c

  mutual
    -- `statement`
    pub data IsStatement : Scene → Exits → St → Mark → Mark → Code → Type 0 where
      evaluated : {g : Scene} {x : Exits} {e : Ex} {m n : Mark} {c : Code} → IsEffect p signs kinds g e m n c →
          IsStatement g x (Do e) m n c
      variable : {g : Scene} {x : Exits} {v t : ℕ} {k : TacKind} {e : Ex} {m n : Mark} {c : Code} →
          g.home v ≡ Some (record { temp = t; kind = k }) → IsValue p signs kinds g k e t m n c →
          IsStatement g x (Give v e) m n c
      object : {g : Scene} {x : Exits} {o base v offset : ℕ} {k : TacKind} {e : Ex} {q : Pos} {m n : Mark} {c : Code} →
          g.spot o ≡ Some base → IsOperand p signs kinds g Nil k e v m n c
          → IsStatement g x (Init q o offset (kind_of k) e) m (within_mark offset n)
          (λ r. c (within base offset n (instr.Store (within_temp base offset n) v k q ∷ r)))
      struct : {g : Scene} {x : Exits} {o base offset bytes unit : ℕ} {e : Ex} {q : Pos} {m n : Mark} {c : Code} →
          g.spot o ≡ Some base → IsCopy p signs kinds g (Within base offset) q bytes unit e m n c →
          IsStatement g x (Fill q o offset bytes unit e) m n c
      block : {g h : Scene} {x : Exits} {ds : List Declared} {ss : Sts} {m n : Mark} {c d : Code} → IsEntered g ds h c →
          IsStatements h x ss m n d → IsStatement g x (Block ds ss) m n (λ r. c (d r))
      choice : {g : Scene} {x : Exits} {j : TacKind} {e : Ex} {a b : St} {q : Pos} {l m n o : Mark} {c d f : Code} →
          IsCondition p signs kinds g j e false l.labels (labelled 2 l) m c → IsStatement g x a m n d →
          IsStatement g x b n o f
          → IsStatement g x (If q (kind_of j) e a b) l o (choice_code l.labels c d f)
      guarded : {g : Scene} {x : Exits} {j : TacKind} {e : Ex} {a : St} {q : Pos} {l m n : Mark} {c d : Code} →
          IsCondition p signs kinds g j e false l.labels (labelled 1 l) m c → IsStatement g x a m n d
          → IsStatement g x (If q (kind_of j) e a Empty) l n (guarded_code l.labels c d)
      looped : {g : Scene} {x : Exits} {k : Kind} {e : Ex} {b : St} {q : Pos} {l m n : Mark} {c d : Code} →
          IsTest g (Some (q, k, e)) (l.labels + 2) (labelled 3 l) m c →
          IsStatement g (in_loop (l.labels + 2) (l.labels + 1)) b m n d
          → IsStatement g x (While q k e b) l n (loop_code l.labels c d (λ r. r))
      repeated : {g : Scene} {x : Exits} {j : TacKind} {e : Ex} {b : St} {q : Pos} {l m n : Mark} {c d : Code} →
          IsStatement g (in_loop (l.labels + 2) (l.labels + 1)) b (labelled 3 l) m d →
          IsCondition p signs kinds g j e false (l.labels + 2) m n c
          → IsStatement g x (Do_while q (kind_of j) b e) l n (repeat_code l.labels d c)
      counted : {g h : Scene} {x : Exits} {ds : List Declared} {first : Sts} {test : Option (Pos × Kind × Ex)}
          {step : Option Ex} {b : St} {k l m n o : Mark} {a c d f i : Code}
          → IsEntered g ds h a → IsStatements h x first k l i → IsTest h test (l.labels + 2) (labelled 3 l) m c →
          IsStatement h (in_loop (l.labels + 2) (l.labels + 1)) b m n d → IsStep h step n o f
          → IsStatement g x (For ds first test step b) k o (λ r. a (i (loop_code l.labels c d f r)))
      switched : {g h : Scene} {x : Exits} {j : TacKind} {e : Ex} {ds : List Declared} {ls : List Label} {ss : Sts}
          {v : ℕ} {q : Pos} {l m n : Mark} {a c d : Code}
          → IsOperand p signs kinds g Nil j e v l m c → IsEntered g ds h a → IsBeside h ds v →
          kind_at kinds (m.temps + 1) ≡ kind_of int_kind → IsOnce ls → AreAmong ls (count_statements ss) →
          IsBody h (in_switch m.labels x) (m.labels + 1) ls 0 ss (labelled (1 + count_labels ls) (more 2 m)) n d
          → IsStatement g x (Switch q (kind_of j) e ds ls ss) l n
          (λ r. c (a (cases_code j v m.temps (m.labels + 1) ls
          (instr.Jump (otherwise (m.labels + 1) m.labels ls) ∷ d (instr.Label m.labels ∷ r)))))
      leaves : {g : Scene} {x : Exits} {l : ℕ} {m : Mark} → x.breaks ≡ Some l →
          IsStatement g x Break m m (λ r. instr.Jump l ∷ r)
      continues : {g : Scene} {x : Exits} {l : ℕ} {m : Mark} → x.continues ≡ Some l →
          IsStatement g x Continue m m (λ r. instr.Jump l ∷ r)
      returns : {g : Scene} {x : Exits} {m : Mark} → result ≡ None →
          IsStatement g x (Return None) m m (λ r. instr.Return None ∷ r)
      returns_nothing : {g : Scene} {x : Exits} {e : Ex} {m n : Mark} {c : Code} → result ≡ None →
          IsEffect p signs kinds g e m n c → IsStatement g x (Return (Some e)) m n (λ r. c (instr.Return None ∷ r))
      returns_value : {g : Scene} {x : Exits} {k : TacKind} {e : Ex} {v : ℕ} {m n : Mark} {c : Code} → result ≡ Some k →
          IsOperand p signs kinds g Nil k e v m n c →
          IsStatement g x (Return (Some e)) m n (λ r. c (instr.Return (Some v) ∷ r))
      empty : {g : Scene} {x : Exits} {m : Mark} → IsStatement g x Empty m m (λ r. r)

    -- `statements`
    pub data IsStatements : Scene → Exits → Sts → Mark → Mark → Code → Type 0 where
      end : {g : Scene} {x : Exits} {m : Mark} → IsStatements g x End m m (λ r. r)
      seq : {g : Scene} {x : Exits} {a : St} {ss : Sts} {l m n : Mark} {c d : Code} → IsStatement g x a l m c →
          IsStatements g x ss m n d → IsStatements g x (Seq a ss) l n (λ r. c (d r))

    -- the statements of a `switch` from a number on, among its labels, which have their numbers from one on
    pub data IsBody : Scene → Exits → ℕ → List Label → ℕ → Sts → Mark → Mark → Code → Type 0 where
      behind : {g : Scene} {x : Exits} {label number : ℕ} {ls : List Label} {m : Mark} →
          IsBody g x label ls number End m m (stand_code label number ls)
      among : {g : Scene} {x : Exits} {label number : ℕ} {ls : List Label} {a : St} {ss : Sts} {l m n : Mark}
          {c d : Code} → IsStatement g x a l m c → IsBody g x label ls (number + 1) ss m n d
          → IsBody g x label ls number (Seq a ss) l n (λ r. stand_code label number ls (c (d r)))
