-- The parts of statements, wherever these stand, and code for them.
use Rattle.std.proofs.Common.{◌≡◌, ℕ, ◌+◌, ◌<◌, ◌≤◌, List, length, take, get_or, Option, Some, None, Result, Ok, Err}
use Rattle.std.proofs.Common.{IfOk, subst}
use Rattle.std.specs.Prelude.{slice_get}
use Rattle.std.proofs.lemmas.Option.{slice_get-get_or}
use Rattle.std.proofs.lemmas.List.Sums.{sum_by_more, sum_by_more_le, sum_by-take-le}
use Rattle.c_tree.specs.Views.{IsOrdered}
use Rattle.c_tree.specs.WellTyped.{Frame, Inside}
use Rattle.c_tree.specs.declared.typed.FunDef.{FunDef}
use Rattle.c_tree.specs.declared.typed.Stmt.{Stmt}
use Rattle.c_tree.specs.declared.typed.StmtKind.{StmtKind}
use Rattle.c_tree.specs.declared.typed.StmtKind.TheVariants as stmts
use Rattle.c_tree.specs.declared.typed.SwitchLabel.{SwitchLabel}
use Rattle.c_tree.specs.declared.typed.Typed.{Typed}
use Rattle.tac_lower.specs.declared.context.Home.{Home}
use Rattle.tac_emit.specs.declared.emitter.Emitter.{Emitter}
use Rattle.tac_lower.specs.declared.statements.Exits.{Exits}
use Rattle.tac_lower.specs.declared.types.TypeFacts.{TypeFacts}
use Rattle.tac_lower.specs.Copied.{part_copies, all_part_copies}
use Rattle.tac_emit.specs.Emitted.{IsOpen}
use Rattle.tac_lower.specs.Nodes.{IsTyped}
use Rattle.tac_lower.specs.Parts.{heft_in, hefts_in, PartFits, ArePlaced, EvaluatePart, InitPart, BlockPart, IfPart}
use Rattle.tac_lower.specs.Parts.{LoopPart, ForPart, SwitchPart, ReturnPart}
use Rattle.tac_lower.specs.Scenes.{Lowered, Opened}
use Rattle.tac_lower.specs.Statements.{IsPart, AreParts, IsTypedIfAny, IsExit, AreExits}
use Rattle.tac_lower.proofs.Parts.{part_fits}
use Rattle.tac_lower.proofs.Steps as steps

-- ---- a statement by its kind

module _ (f : Frame) (k : ℕ) (s : Stmt) (o : IsOrdered f.program) (there : slice_get f.program.stmts k ≡ Some s)
    (w : IsPart f k) where
  by_kind : (kd : StmtKind) → s.kind ≡ kd → PartFits f w.inside k kd
  by_kind kd is = subst (λ z. PartFits f w.inside k z) is (part_fits f o w.inside k s there w.placed)

  pub evaluates : {a : ℕ} → s.kind ≡ stmts.Expr a → EvaluatePart f k a
  evaluates {a = a} is = by_kind (stmts.Expr a) is

  pub initialises : {x n a : ℕ} → s.kind ≡ stmts.Init x n a → InitPart f k x n a
  initialises {x = x} {n = n} {a = a} is = by_kind (stmts.Init x n a) is

  pub blocks : {vars body : List ℕ} → s.kind ≡ stmts.Block vars body → BlockPart f w.inside k vars body
  blocks {vars = vars} {body = body} is = by_kind (stmts.Block vars body) is

  pub chooses : {c a : ℕ} {b : Option ℕ} → s.kind ≡ stmts.If c a b → IfPart f w.inside k c a b
  chooses {c = c} {a = a} {b = b} is = by_kind (stmts.If c a b) is

  pub whiles : {c a : ℕ} → s.kind ≡ stmts.While c a → LoopPart f k c a
  whiles {c = c} {a = a} is = by_kind (stmts.While c a) is

  pub does : {c a : ℕ} → s.kind ≡ stmts.Do a c → LoopPart f k c a
  does {c = c} {a = a} is = by_kind (stmts.Do a c) is

  pub fors : {vars first : List ℕ} {test step : Option ℕ} {a : ℕ} → s.kind ≡ stmts.For vars first test step a
      → ForPart f k vars first test step a
  fors {vars = vars} {first = first} {test = test} {step = step} {a = a} is =
      by_kind (stmts.For vars first test step a) is

  pub switches : {on : ℕ} {vars : List ℕ} {labels : List SwitchLabel} {body : List ℕ}
      → s.kind ≡ stmts.Switch on vars labels body → SwitchPart f w.inside k on vars labels body
  switches {on = on} {vars = vars} {labels = labels} {body = body} is = by_kind (stmts.Switch on vars labels body) is

  pub returns_value : {a : Option ℕ} → s.kind ≡ stmts.Return a → ReturnPart f k a
  returns_value {a = a} is = by_kind (stmts.Return a) is

pub are_parts : {f : Frame} {i : Inside} {ks : List ℕ} → ArePlaced f i ks → AreParts f ks
are_parts {i = i} h = record { each = λ j k e. record { inside = i; placed = h.each j k e } }

pub part_at : (f : Frame) (ks : List ℕ) (i : ℕ) → AreParts f ks → i < length ks → IsPart f (get_or ks i 0)
part_at f ks i h lt = h.each i (get_or ks i 0) (slice_get-get_or ks i 0 lt)

some_same : (a b : ℕ) → Some a ≡ Some b → a ≡ b
some_same a b e = cc

pub typed_some : {f : Frame} {a : ℕ} → IsTyped f a → IsTypedIfAny f (Some a)
typed_some {f = f} {a = a} h = record { each = λ j e. subst (λ z. IsTyped f z) (some_same a j e) h }

pub typed_none : {f : Frame} → IsTypedIfAny f None
typed_none {f = f} = record { each = λ j e. absurd cc }

-- ---- exits

still_exit : {a b : Emitter} → ((l : ℕ) → IsOpen a l → IsOpen b l) → (to : Option ℕ) → IsExit a to → IsExit b to
still_exit f None h = tt
still_exit f (Some l) h = f l h

pub still_exits : {a b : Emitter} {x : Exits} → ((l : ℕ) → IsOpen a l → IsOpen b l) → AreExits a x → AreExits b x
still_exits {x = x} f h =
    record { break_to = still_exit f x.break_to h.break_to; continue_to = still_exit f x.continue_to h.continue_to }

module _ {p : Typed} {d : FunDef} {types : List TypeFacts} {homes : List Home} where
  pub exits_lowered : {a b : Emitter} {x : Exits} {n : ℕ} → AreExits a x → Lowered p d types homes a b n → AreExits b x
  exits_lowered h f = still_exits (λ l o. steps.still_open o f) h

  pub exits_opened : {a b : Emitter} {x : Exits} {ls : List ℕ} {n : ℕ} → AreExits a x
      → Opened p d types homes a b ls n → AreExits b x
  exits_opened h f = still_exits (λ l o. steps.others_open o f) h

  pub exit_opened : {a b : Emitter} {ls : List ℕ} {n : ℕ} (to : Option ℕ) → IsExit a to
      → Opened p d types homes a b ls n → IsExit b to
  exit_opened to h f = still_exit (λ l o. steps.others_open o f) to h

-- ---- where the last call's result is handed on

pub at_most_ok : {T E : Type 0} (p : Typed) (d : FunDef) (types : List TypeFacts) (homes : List Home)
    (a b : Emitter) (m q : ℕ) (r : Result T E)
    → IfOk r (λ _. Lowered p d types homes a b m) → m ≤ q → IfOk r (λ _. Lowered p d types homes a b q)
at_most_ok p d types homes a b m q (Ok x) f l = steps.at_most f l
at_most_ok p d types homes a b m q (Err e) f l = tt

-- ---- the weight of some statements

pub hefts_next : (p : Typed) (ks : List ℕ) (i : ℕ) → i < length ks
    → hefts_in p (take (i + 1) ks) ≡ hefts_in p (take i ks) + heft_in p (get_or ks i 0)
hefts_next p ks i lt = sum_by_more (λ k. heft_in p k) ks i 0 lt

pub hefts_within : (p : Typed) (ks : List ℕ) (i : ℕ) → i < length ks
    → hefts_in p (take i ks) + heft_in p (get_or ks i 0) ≤ hefts_in p ks
hefts_within p ks i lt = sum_by_more_le (λ k. heft_in p k) ks i 0 lt

pub hefts_taken : (p : Typed) (ks : List ℕ) (i : ℕ) → hefts_in p (take i ks) ≤ hefts_in p ks
hefts_taken p ks i = sum_by-take-le (λ k. heft_in p k) ks i

-- ---- the copies of some statements

pub copies_next : (p : Typed) (ks : List ℕ) (i : ℕ) → i < length ks
    → all_part_copies p (take (i + 1) ks) ≡ all_part_copies p (take i ks) + part_copies p (get_or ks i 0)
copies_next p ks i lt = sum_by_more (λ k. part_copies p k) ks i 0 lt

pub copies_taken : (p : Typed) (ks : List ℕ) (i : ℕ) → all_part_copies p (take i ks) ≤ all_part_copies p ks
copies_taken p ks i = sum_by-take-le (λ k. part_copies p k) ks i
