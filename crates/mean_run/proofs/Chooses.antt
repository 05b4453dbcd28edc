-- What comes behind a test is what the machine goes on with.
use Rattle.std.proofs.Common.{◌≡◌, ℕ, Bool, true, false, ltb, length, List, ◌∷◌, inl, inr, Option, Some, None}
use Rattle.std.proofs.Common.{Result, Ok, Err}
use Rattle.std.proofs.Common.{refl, ◌∙◌}
use Rattle.std.specs.Prelude.{map, is_some, ◌&&◌, ◌||◌, slice_get, if◌then◌else◌}
use Rattle.ck_base.specs.Runs.{Act, Goes}
use Rattle.ck_base.specs.declared.positions.Pos.{Pos}
use Rattle.c_tree.specs.Layout.{bare}
use Rattle.c_tree.specs.declared.typed.Expr.{Expr}
use Rattle.c_tree.specs.declared.typed.ExprKind.{ExprKind}
use Rattle.c_tree.specs.declared.typed.ExprKind.TheVariants as exprs
use Rattle.c_tree.specs.declared.typed.UnaryOp.{UnaryOp}
use Rattle.c_tree.specs.declared.typed.UnaryOp.TheVariants as unary
use Rattle.c_tree.specs.declared.typed.Typed.{Typed}
use Rattle.c_tree.specs.declared.typed.VarDef.{VarDef}
use Rattle.obj_mem.specs.declared.ending.Ending.{Ending}
use Rattle.obj_mem.specs.declared.value.Value.TheVariants as value
use Rattle.obj_mem.specs.Values.{value_of}
use Rattle.cheri_c_sem.specs.Expressions.{bare_type, constant, conversion_by, expr_tree, kind_at, kind_tree, sign_of}
use Rattle.cheri_c_sem.specs.Kinds.{Kind, Plain, Capability, nothing, truth}
use Rattle.cheri_c_sem.specs.Meaning as meaning
use Rattle.cheri_c_sem.specs.Meaning.{first_of}
use Rattle.cheri_c_sem.specs.Modes.{Store}
use Rattle.cheri_c_sem.specs.Operations.{Operations}
use Rattle.cheri_c_sem.specs.Tree as tree
use Rattle.cheri_c_sem.specs.Tree.{Ex, Operation, Fun}
use Rattle.cheri_c_sem.specs.Types.{is_pointer, is_record, is_simple, is_void, kind_of, scalar_of}
use Rattle.mean_steps.specs.Machine.{Moment, behind, choose_item, choose_place, chosen, decide, done_in, less_value}
use Rattle.mean_steps.specs.Machine.{Designate, one, with_place, with_value}
use Rattle.mean_steps.specs.Parts.{Came, test}
use Rattle.mean_run.specs.declared.branches.Next.{Next}
use Rattle.mean_run.specs.declared.branches.Next.TheVariants as next
use Rattle.mean_run.specs.declared.state.State.{State}
use Rattle.mean_work.specs.declared.work.Stop.{Stop}
use Rattle.mean_work.specs.declared.work.Stop.TheVariants as stop
use Rattle.mean_work.specs.declared.work.TheConstants.{NOWHERE}
use Rattle.mean_work.specs.declared.work.Work.TheVariants as work
use Rattle.mean_run.specs.Branches.{Branched, ChosenBy, DecidedBy, PlaceChosenBy, after}
use Rattle.mean_run.specs.Parts.{Does, Unless_wanting}
use Rattle.mean_run.specs.Sources.{IsNode}
use Rattle.mean_run.specs.Steps.{IsPeeled, is_kept}
use Rattle.mean_run.specs.Views.{vars_at, moment_of, now_of, funs_of}
use Rattle.mean_run.proofs.Doing.{on, over}
use Rattle.mean_run.proofs.Nodes.{no_node}
use Rattle.mean_run.proofs.Tops.{map_behind}

-- ---- the trees behind whose first operand something is chosen

abbrev is_logical : Ex → Bool
is_logical (tree.And p j k a b) = true
is_logical (tree.Or p j k a b) = true
is_logical e = false

abbrev is_conditional : Ex → Bool
is_conditional (tree.Conditional p k c a b) = true
is_conditional e = false

abbrev pub Plain_tree : Ex → Type 0
Plain_tree e = (is_logical e ≡ false) × (is_conditional e ≡ false)

constant_plain : (n : ℕ) (k : Kind) → Plain_tree (constant n k)
constant_plain n (Plain k) = (refl, refl)
constant_plain n (Capability signed) = (refl, refl)

either_plain : (c : Bool) (x y : Ex) → Plain_tree x → Plain_tree y → Plain_tree (if c then x else y)
either_plain true x y a b = a
either_plain false x y a b = b

sign_plain : (pos : Pos) (j : Kind) (x : Ex) (op : UnaryOp) → Plain_tree (sign_of pos j x op)
sign_plain pos j x unary.Plus = (refl, refl)
sign_plain pos j x unary.Minus = (refl, refl)
sign_plain pos j x unary.Complement = (refl, refl)
sign_plain pos j x unary.LogicalNot = (refl, refl)

convert_plain : (p : Typed) (vars : List VarDef) (v : Bool) (pos : Pos) (j l : Option Kind) (plain : Bool) (x : Ex) →
    (v || (is_some j && is_some l)) ≡ true →
    Plain_tree (if v then tree.Discard x else conversion_by p vars pos j l plain x)
convert_plain p vars true pos j l plain x h = (refl, refl)
convert_plain p vars false pos (Some j) (Some l) plain x h = (refl, refl)
convert_plain p vars false pos (Some j) None plain x h = absurd (let g : false ≡ true = h in cc)
convert_plain p vars false pos None l plain x h = absurd (let g : false ≡ true = h in cc)

-- ---- trees at which nothing is chosen

module _ (ops : Operations Store) (funs : List Fun) (m : Moment Store) where
  choose_plain : (e : Ex) → Plain_tree e → choose_item ops funs e m ≡ Goes (with_value nothing (less_value m))
  choose_plain (tree.Number n) h = refl
  choose_plain (tree.Null n) h = refl
  choose_plain (tree.Load j x) h = refl
  choose_plain (tree.Aggregate x) h = refl
  choose_plain (tree.Pointer_to q n x) h = refl
  choose_plain (tree.Convert q j l plain x) h = refl
  choose_plain (tree.Discard x) h = refl
  choose_plain (tree.Unary q s j x) h = refl
  choose_plain (tree.Not q j x) h = refl
  choose_plain (tree.Binary q o x y) h = refl
  choose_plain (tree.Compare q o j x y) h = refl
  choose_plain (tree.And q j l x y) h = absurd (let g : true ≡ false = h.0 in cc)
  choose_plain (tree.Or q j l x y) h = absurd (let g : true ≡ false = h.0 in cc)
  choose_plain (tree.Conditional q j c x y) h = absurd (let g : true ≡ false = h.1 in cc)
  choose_plain (tree.Comma x y) h = refl
  choose_plain (tree.Assign j x y) h = refl
  choose_plain (tree.Copy q bytes unit x y) h = refl
  choose_plain (tree.Compound q o j l b x y) h = refl
  choose_plain (tree.Call q fits x es) h = refl
  choose_plain (tree.Library q s es) h = refl
  choose_plain (tree.Variable q x) h = refl
  choose_plain (tree.Local q n) h = refl
  choose_plain (tree.Object q o n) h = refl
  choose_plain (tree.Function q g) h = refl
  choose_plain (tree.Deref q x) h = refl
  choose_plain (tree.Member q n x) h = refl

  decide_plain : (e : Ex) → Plain_tree e → decide ops funs e m ≡ Goes (with_value nothing (less_value m))
  decide_plain (tree.Number n) h = refl
  decide_plain (tree.Null n) h = refl
  decide_plain (tree.Load j x) h = refl
  decide_plain (tree.Aggregate x) h = refl
  decide_plain (tree.Pointer_to q n x) h = refl
  decide_plain (tree.Convert q j l plain x) h = refl
  decide_plain (tree.Discard x) h = refl
  decide_plain (tree.Unary q s j x) h = refl
  decide_plain (tree.Not q j x) h = refl
  decide_plain (tree.Binary q o x y) h = refl
  decide_plain (tree.Compare q o j x y) h = refl
  decide_plain (tree.And q j l x y) h = absurd (let g : true ≡ false = h.0 in cc)
  decide_plain (tree.Or q j l x y) h = absurd (let g : true ≡ false = h.0 in cc)
  decide_plain (tree.Conditional q j c x y) h = refl
  decide_plain (tree.Comma x y) h = refl
  decide_plain (tree.Assign j x y) h = refl
  decide_plain (tree.Copy q bytes unit x y) h = refl
  decide_plain (tree.Compound q o j l b x y) h = refl
  decide_plain (tree.Call q fits x es) h = refl
  decide_plain (tree.Library q s es) h = refl
  decide_plain (tree.Variable q x) h = refl
  decide_plain (tree.Local q n) h = refl
  decide_plain (tree.Object q o n) h = refl
  decide_plain (tree.Function q g) h = refl
  decide_plain (tree.Deref q x) h = refl
  decide_plain (tree.Member q n x) h = refl

  place_plain : (e : Ex) → Plain_tree e → choose_place ops funs e m ≡ Goes (with_place meaning.nowhere (less_value m))
  place_plain (tree.Number n) h = refl
  place_plain (tree.Null n) h = refl
  place_plain (tree.Load j x) h = refl
  place_plain (tree.Aggregate x) h = refl
  place_plain (tree.Pointer_to q n x) h = refl
  place_plain (tree.Convert q j l plain x) h = refl
  place_plain (tree.Discard x) h = refl
  place_plain (tree.Unary q s j x) h = refl
  place_plain (tree.Not q j x) h = refl
  place_plain (tree.Binary q o x y) h = refl
  place_plain (tree.Compare q o j x y) h = refl
  place_plain (tree.And q j l x y) h = refl
  place_plain (tree.Or q j l x y) h = refl
  place_plain (tree.Conditional q j c x y) h = absurd (let g : true ≡ false = h.1 in cc)
  place_plain (tree.Comma x y) h = refl
  place_plain (tree.Assign j x y) h = refl
  place_plain (tree.Copy q bytes unit x y) h = refl
  place_plain (tree.Compound q o j l b x y) h = refl
  place_plain (tree.Call q fits x es) h = refl
  place_plain (tree.Library q s es) h = refl
  place_plain (tree.Variable q x) h = refl
  place_plain (tree.Local q n) h = refl
  place_plain (tree.Object q o n) h = refl
  place_plain (tree.Function q g) h = refl
  place_plain (tree.Deref q x) h = refl
  place_plain (tree.Member q n x) h = refl

-- a node behind whose first operand something is chosen
abbrev pub is_choice : ExprKind → Bool
is_choice (exprs.And a b) = true
is_choice (exprs.Or a b) = true
is_choice (exprs.Conditional c a b) = true
is_choice e = false

-- ---- branches

module _ (ops : Operations Store) (p : Typed) (f k : ℕ) (held : Store) (old new : State)
    (r : Result (Unit {0}) Stop) where
  abbrev vars : List VarDef
  vars = vars_at p f

  abbrev node : ℕ → Ex
  node = expr_tree p (vars_at p f)

  abbrev m : Moment Store
  m = moment_of p old held

  abbrev less : State
  less = record old { values = behind old.values }

  pub branched : (K : Bool → Moment Store → Act (Moment Store) Ending) (c : Came Store Bool) (i j : Next)
      (s : Result (Unit {0}) Stop) → Branched c (now_of old held) i j old new s →
      K true (less_value m) ≡ Goes (moment_of p (after i less) held) →
      K false (less_value m) ≡ Goes (moment_of p (after j less) held) →
      Does (done_in (less_value m) K c) (moment_of p new held) s
  branched K c i j (Ok u) (inl q) a b = rw q.1 (on (less_value m) K c true (now_of old held) q.0 ∙ a)
  branched K c i j (Ok u) (inr q) a b = rw q.1 (on (less_value m) K c false (now_of old held) q.0 ∙ b)
  branched K c i j (Err (stop.Ended e)) q a b = over (less_value m) K c e q
  branched K c i j (Err stop.NoMemory) q a b = tt

  -- the truth of the value on top
  abbrev by : Pos → Kind → Came Store Bool
  by pos j = test ops pos j (first_of (map value_of old.values)) (now_of old held)

  -- a value went, and nothing was given
  gave : (s : Result (Unit {0}) Stop) (a : Act (Moment Store) Ending) →
      a ≡ Goes (with_value nothing (less_value m)) →
      Unless_wanting s (new ≡ record old { values = value.Int 0 ∷ behind old.values }) →
      Does a (moment_of p new held) s
  gave (Ok u) a e q = e ∙ rw (q, map_behind value_of old.values) refl
  gave (Err stop.NoMemory) a e q = tt
  gave (Err (stop.Ended x)) a e q = absurd q

  abbrev Node : ℕ → Pos → ExprKind → Type 0
  Node of pos kind = node k ≡ kind_tree p vars node of pos kind

  abbrev Chooses : Ex → Type 0
  Chooses e = Does (choose_item ops (funs_of p) e m) (moment_of p new held) r

  abbrev Decides : Ex → Type 0
  Decides e = Does (decide ops (funs_of p) e m) (moment_of p new held) r

  abbrev Peeled : ℕ → ExprKind → Type 0
  Peeled of kind = (a : ℕ) → kind ≡ exprs.Convert a → is_kept (bare_type p vars a) (bare p.types of) ≡ true

  abbrev ChoosesPlace : Ex → Type 0
  ChoosesPlace e = Does (choose_place ops (funs_of p) e m) (moment_of p new held) r

  gave_place : (s : Result (Unit {0}) Stop) (a : Act (Moment Store) Ending) →
      a ≡ Goes (with_place meaning.nowhere (less_value m)) →
      Unless_wanting s (new ≡ record old { values = behind old.values; places = NOWHERE ∷ old.places }) →
      Does a (moment_of p new held) s
  gave_place (Ok u) a e q = e ∙ rw (q, map_behind value_of old.values) refl
  gave_place (Err stop.NoMemory) a e q = tt
  gave_place (Err (stop.Ended x)) a e q = absurd q

  -- the tree of a node that is none of these
  plain_node : (of : ℕ) (pos : Pos) (kind : ExprKind) → Peeled of kind → is_choice kind ≡ false →
      Plain_tree (kind_tree p vars node of pos kind)
  plain_node of pos (exprs.Constant n) peeled h = constant_plain n (kind_of (bare p.types of))
  plain_node of pos (exprs.Literal n) peeled h = (refl, refl)
  plain_node of pos (exprs.Var x) peeled h = either_plain (is_simple (slice_get vars x)) _ _ (refl, refl) (refl, refl)
  plain_node of pos (exprs.Global g) peeled h = (refl, refl)
  plain_node of pos (exprs.Fun g) peeled h = (refl, refl)
  plain_node of pos (exprs.Load a) peeled h = either_plain (is_record (bare p.types of)) _ _ (refl, refl) (refl, refl)
  plain_node of pos (exprs.Decay a) peeled h = (refl, refl)
  plain_node of pos (exprs.Deref a) peeled h = (refl, refl)
  plain_node of pos (exprs.Member a n) peeled h = (refl, refl)
  plain_node of pos (exprs.Address a) peeled h = (refl, refl)
  plain_node of pos (exprs.Convert a) peeled h =
      convert_plain p vars (is_void (bare p.types of)) pos (scalar_of (bare_type p vars a))
      (scalar_of (bare p.types of)) _ (node a) (peeled a refl)
  plain_node of pos (exprs.Unary op a) peeled h = sign_plain pos _ (node a) op
  plain_node of pos (exprs.Int op x y) peeled h = (refl, refl)
  plain_node of pos (exprs.Capability op x y right) peeled h = (refl, refl)
  plain_node of pos (exprs.Plus x y minus) peeled h =
      either_plain (is_pointer (bare_type p vars x)) _ _ (refl, refl) (refl, refl)
  plain_node of pos (exprs.Difference x y) peeled h = (refl, refl)
  plain_node of pos (exprs.Compare op x y) peeled h = (refl, refl)
  plain_node of pos (exprs.And x y) peeled h = absurd (let g : true ≡ false = h in cc)
  plain_node of pos (exprs.Or x y) peeled h = absurd (let g : true ≡ false = h in cc)
  plain_node of pos (exprs.Conditional c x y) peeled h = absurd (let g : true ≡ false = h in cc)
  plain_node of pos (exprs.Comma x y) peeled h = (refl, refl)
  plain_node of pos (exprs.Assign x y) peeled h =
      either_plain (is_record (bare p.types of)) _ _ (refl, refl) (refl, refl)
  plain_node of pos (exprs.Compound op x y computed) peeled h = (refl, refl)
  plain_node of pos (exprs.Step a adds front) peeled h = (refl, refl)
  plain_node of pos (exprs.Call g args) peeled h = (refl, refl)
  plain_node of pos (exprs.Library n args) peeled h = (refl, refl)

  plain_choose : (of : ℕ) (pos : Pos) (kind : ExprKind) → Peeled of kind → is_choice kind ≡ false → Node of pos kind →
      Unless_wanting r (new ≡ record old { values = value.Int 0 ∷ behind old.values }) → Chooses (node k)
  plain_choose of pos kind peeled h e b =
      rw e (gave r _ (choose_plain ops (funs_of p) m (kind_tree p vars node of pos kind)
      (plain_node of pos kind peeled h)) b)

  chooses_by : (of : ℕ) (pos : Pos) (kind : ExprKind) → Node of pos kind → Peeled of kind →
      ChosenBy ops held p f k pos old new r kind → Chooses (node k)
  chooses_by of pos (exprs.Constant n) e peeled b = plain_choose of pos (exprs.Constant n) peeled refl e b
  chooses_by of pos (exprs.Literal n) e peeled b = plain_choose of pos (exprs.Literal n) peeled refl e b
  chooses_by of pos (exprs.Var x) e peeled b = plain_choose of pos (exprs.Var x) peeled refl e b
  chooses_by of pos (exprs.Global g) e peeled b = plain_choose of pos (exprs.Global g) peeled refl e b
  chooses_by of pos (exprs.Fun g) e peeled b = plain_choose of pos (exprs.Fun g) peeled refl e b
  chooses_by of pos (exprs.Load a) e peeled b = plain_choose of pos (exprs.Load a) peeled refl e b
  chooses_by of pos (exprs.Decay a) e peeled b = plain_choose of pos (exprs.Decay a) peeled refl e b
  chooses_by of pos (exprs.Deref a) e peeled b = plain_choose of pos (exprs.Deref a) peeled refl e b
  chooses_by of pos (exprs.Member a n) e peeled b = plain_choose of pos (exprs.Member a n) peeled refl e b
  chooses_by of pos (exprs.Address a) e peeled b = plain_choose of pos (exprs.Address a) peeled refl e b
  chooses_by of pos (exprs.Convert a) e peeled b = plain_choose of pos (exprs.Convert a) peeled refl e b
  chooses_by of pos (exprs.Unary op a) e peeled b = plain_choose of pos (exprs.Unary op a) peeled refl e b
  chooses_by of pos (exprs.Int op x y) e peeled b = plain_choose of pos (exprs.Int op x y) peeled refl e b
  chooses_by of pos (exprs.Capability op x y right) e peeled b =
      plain_choose of pos (exprs.Capability op x y right) peeled refl e b
  chooses_by of pos (exprs.Plus x y minus) e peeled b = plain_choose of pos (exprs.Plus x y minus) peeled refl e b
  chooses_by of pos (exprs.Difference x y) e peeled b = plain_choose of pos (exprs.Difference x y) peeled refl e b
  chooses_by of pos (exprs.Compare op x y) e peeled b = plain_choose of pos (exprs.Compare op x y) peeled refl e b
  chooses_by of pos (exprs.And x y) e peeled b =
      rw e (branched (λ c t. Goes (chosen ops (funs_of p)
      (tree.And pos (kind_at p vars x) (kind_at p vars y) (node x) (node y)) c t)) (by pos (kind_at p vars x))
      (next.Two (work.Value f y) (work.Decide f k)) (next.Truth false) r b (rw (e, map_behind value_of old.values) refl)
      (rw (map_behind value_of old.values) refl))
  chooses_by of pos (exprs.Or x y) e peeled b =
      rw e (branched (λ c t. Goes (chosen ops (funs_of p)
      (tree.Or pos (kind_at p vars x) (kind_at p vars y) (node x) (node y)) c t)) (by pos (kind_at p vars x))
      (next.Truth true) (next.Two (work.Value f y) (work.Decide f k)) r b (rw (map_behind value_of old.values) refl)
      (rw (e, map_behind value_of old.values) refl))
  chooses_by of pos (exprs.Conditional c x y) e peeled b =
      rw e (branched (λ d t. Goes (chosen ops (funs_of p)
      (tree.Conditional pos (kind_at p vars c) (node c) (node x) (node y)) d t)) (by pos (kind_at p vars c))
      (next.One (work.Value f x)) (next.One (work.Value f y)) r b (rw (map_behind value_of old.values) refl)
      (rw (map_behind value_of old.values) refl))
  chooses_by of pos (exprs.Comma x y) e peeled b = plain_choose of pos (exprs.Comma x y) peeled refl e b
  chooses_by of pos (exprs.Assign x y) e peeled b = plain_choose of pos (exprs.Assign x y) peeled refl e b
  chooses_by of pos (exprs.Compound op x y computed) e peeled b =
      plain_choose of pos (exprs.Compound op x y computed) peeled refl e b
  chooses_by of pos (exprs.Step a adds front) e peeled b = plain_choose of pos (exprs.Step a adds front) peeled refl e b
  chooses_by of pos (exprs.Call g args) e peeled b = plain_choose of pos (exprs.Call g args) peeled refl e b
  chooses_by of pos (exprs.Library n args) e peeled b = plain_choose of pos (exprs.Library n args) peeled refl e b

  plain_decide : (of : ℕ) (pos : Pos) (kind : ExprKind) → Peeled of kind → is_choice kind ≡ false → Node of pos kind →
      Unless_wanting r (new ≡ record old { values = value.Int 0 ∷ behind old.values }) → Decides (node k)
  plain_decide of pos kind peeled h e b =
      rw e (gave r _ (decide_plain ops (funs_of p) m (kind_tree p vars node of pos kind)
      (plain_node of pos kind peeled h)) b)

  decides_by : (of : ℕ) (pos : Pos) (kind : ExprKind) → Node of pos kind → Peeled of kind →
      DecidedBy ops held p f k pos old new r kind → Decides (node k)
  decides_by of pos (exprs.Constant n) e peeled b = plain_decide of pos (exprs.Constant n) peeled refl e b
  decides_by of pos (exprs.Literal n) e peeled b = plain_decide of pos (exprs.Literal n) peeled refl e b
  decides_by of pos (exprs.Var x) e peeled b = plain_decide of pos (exprs.Var x) peeled refl e b
  decides_by of pos (exprs.Global g) e peeled b = plain_decide of pos (exprs.Global g) peeled refl e b
  decides_by of pos (exprs.Fun g) e peeled b = plain_decide of pos (exprs.Fun g) peeled refl e b
  decides_by of pos (exprs.Load a) e peeled b = plain_decide of pos (exprs.Load a) peeled refl e b
  decides_by of pos (exprs.Decay a) e peeled b = plain_decide of pos (exprs.Decay a) peeled refl e b
  decides_by of pos (exprs.Deref a) e peeled b = plain_decide of pos (exprs.Deref a) peeled refl e b
  decides_by of pos (exprs.Member a n) e peeled b = plain_decide of pos (exprs.Member a n) peeled refl e b
  decides_by of pos (exprs.Address a) e peeled b = plain_decide of pos (exprs.Address a) peeled refl e b
  decides_by of pos (exprs.Convert a) e peeled b = plain_decide of pos (exprs.Convert a) peeled refl e b
  decides_by of pos (exprs.Unary op a) e peeled b = plain_decide of pos (exprs.Unary op a) peeled refl e b
  decides_by of pos (exprs.Int op x y) e peeled b = plain_decide of pos (exprs.Int op x y) peeled refl e b
  decides_by of pos (exprs.Capability op x y right) e peeled b =
      plain_decide of pos (exprs.Capability op x y right) peeled refl e b
  decides_by of pos (exprs.Plus x y minus) e peeled b = plain_decide of pos (exprs.Plus x y minus) peeled refl e b
  decides_by of pos (exprs.Difference x y) e peeled b = plain_decide of pos (exprs.Difference x y) peeled refl e b
  decides_by of pos (exprs.Compare op x y) e peeled b = plain_decide of pos (exprs.Compare op x y) peeled refl e b
  decides_by of pos (exprs.And x y) e peeled b =
      rw e (branched (λ c t. Goes (with_value (truth c) t)) (by pos (kind_at p vars y)) (next.Truth true)
      (next.Truth false) r b (rw (map_behind value_of old.values) refl) (rw (map_behind value_of old.values) refl))
  decides_by of pos (exprs.Or x y) e peeled b =
      rw e (branched (λ c t. Goes (with_value (truth c) t)) (by pos (kind_at p vars y)) (next.Truth true)
      (next.Truth false) r b (rw (map_behind value_of old.values) refl) (rw (map_behind value_of old.values) refl))
  decides_by of pos (exprs.Conditional c x y) e peeled b = rw e (gave r _ refl b)
  decides_by of pos (exprs.Comma x y) e peeled b = plain_decide of pos (exprs.Comma x y) peeled refl e b
  decides_by of pos (exprs.Assign x y) e peeled b = plain_decide of pos (exprs.Assign x y) peeled refl e b
  decides_by of pos (exprs.Compound op x y computed) e peeled b =
      plain_decide of pos (exprs.Compound op x y computed) peeled refl e b
  decides_by of pos (exprs.Step a adds front) e peeled b = plain_decide of pos (exprs.Step a adds front) peeled refl e b
  decides_by of pos (exprs.Call g args) e peeled b = plain_decide of pos (exprs.Call g args) peeled refl e b
  decides_by of pos (exprs.Library n args) e peeled b = plain_decide of pos (exprs.Library n args) peeled refl e b

  plain_place : (of : ℕ) (pos : Pos) (kind : ExprKind) → Peeled of kind → is_choice kind ≡ false → Node of pos kind →
      Unless_wanting r (new ≡ record old { values = behind old.values; places = NOWHERE ∷ old.places }) →
      ChoosesPlace (node k)
  plain_place of pos kind peeled h e b =
      rw e (gave_place r _ (place_plain ops (funs_of p) m (kind_tree p vars node of pos kind)
      (plain_node of pos kind peeled h)) b)

  chooses_place_by : (of : ℕ) (pos : Pos) (kind : ExprKind) → Node of pos kind → Peeled of kind →
      PlaceChosenBy ops held p f k pos old new r kind → ChoosesPlace (node k)
  chooses_place_by of pos (exprs.Constant n) e peeled b = plain_place of pos (exprs.Constant n) peeled refl e b
  chooses_place_by of pos (exprs.Literal n) e peeled b = plain_place of pos (exprs.Literal n) peeled refl e b
  chooses_place_by of pos (exprs.Var x) e peeled b = plain_place of pos (exprs.Var x) peeled refl e b
  chooses_place_by of pos (exprs.Global g) e peeled b = plain_place of pos (exprs.Global g) peeled refl e b
  chooses_place_by of pos (exprs.Fun g) e peeled b = plain_place of pos (exprs.Fun g) peeled refl e b
  chooses_place_by of pos (exprs.Load a) e peeled b = plain_place of pos (exprs.Load a) peeled refl e b
  chooses_place_by of pos (exprs.Decay a) e peeled b = plain_place of pos (exprs.Decay a) peeled refl e b
  chooses_place_by of pos (exprs.Deref a) e peeled b = plain_place of pos (exprs.Deref a) peeled refl e b
  chooses_place_by of pos (exprs.Member a n) e peeled b = plain_place of pos (exprs.Member a n) peeled refl e b
  chooses_place_by of pos (exprs.Address a) e peeled b = plain_place of pos (exprs.Address a) peeled refl e b
  chooses_place_by of pos (exprs.Convert a) e peeled b = plain_place of pos (exprs.Convert a) peeled refl e b
  chooses_place_by of pos (exprs.Unary op a) e peeled b = plain_place of pos (exprs.Unary op a) peeled refl e b
  chooses_place_by of pos (exprs.Int op x y) e peeled b = plain_place of pos (exprs.Int op x y) peeled refl e b
  chooses_place_by of pos (exprs.Capability op x y right) e peeled b =
      plain_place of pos (exprs.Capability op x y right) peeled refl e b
  chooses_place_by of pos (exprs.Plus x y minus) e peeled b = plain_place of pos (exprs.Plus x y minus) peeled refl e b
  chooses_place_by of pos (exprs.Difference x y) e peeled b = plain_place of pos (exprs.Difference x y) peeled refl e b
  chooses_place_by of pos (exprs.Compare op x y) e peeled b = plain_place of pos (exprs.Compare op x y) peeled refl e b
  chooses_place_by of pos (exprs.And x y) e peeled b = rw e (gave_place r _ refl b)
  chooses_place_by of pos (exprs.Or x y) e peeled b = rw e (gave_place r _ refl b)
  chooses_place_by of pos (exprs.Conditional c x y) e peeled b =
      rw e (branched (λ d t. Goes (if d then one (Designate (node x)) t else one (Designate (node y)) t))
      (by pos (kind_at p vars c)) (next.One (work.Place f x)) (next.One (work.Place f y)) r b
      (rw (map_behind value_of old.values) refl) (rw (map_behind value_of old.values) refl))
  chooses_place_by of pos (exprs.Comma x y) e peeled b = plain_place of pos (exprs.Comma x y) peeled refl e b
  chooses_place_by of pos (exprs.Assign x y) e peeled b = plain_place of pos (exprs.Assign x y) peeled refl e b
  chooses_place_by of pos (exprs.Compound op x y computed) e peeled b =
      plain_place of pos (exprs.Compound op x y computed) peeled refl e b
  chooses_place_by of pos (exprs.Step a adds front) e peeled b =
      plain_place of pos (exprs.Step a adds front) peeled refl e b
  chooses_place_by of pos (exprs.Call g args) e peeled b = plain_place of pos (exprs.Call g args) peeled refl e b
  chooses_place_by of pos (exprs.Library n args) e peeled b = plain_place of pos (exprs.Library n args) peeled refl e b

  pub chooses : (e : Expr) → IsNode p k e → IsPeeled p vars e → ChosenBy ops held p f k e.pos old new r e.kind →
      Chooses (node k)
  chooses e at peeled b = chooses_by e.of e.pos e.kind (at vars) peeled b

  pub decides : (e : Expr) → IsNode p k e → IsPeeled p vars e → DecidedBy ops held p f k e.pos old new r e.kind →
      Decides (node k)
  decides e at peeled b = decides_by e.of e.pos e.kind (at vars) peeled b

  pub chooses_place : (e : Expr) → IsNode p k e → IsPeeled p vars e →
      PlaceChosenBy ops held p f k e.pos old new r e.kind → ChoosesPlace (node k)
  chooses_place e at peeled b = chooses_place_by e.of e.pos e.kind (at vars) peeled b

  -- an expression that is not there
  pub chooses_none : false ≡ ltb k (length p.exprs) →
      Unless_wanting r (new ≡ record old { values = value.Int 0 ∷ behind old.values }) → Chooses (node k)
  chooses_none lt q = rw (no_node p vars k lt) (gave r _ refl q)

  pub decides_none : false ≡ ltb k (length p.exprs) →
      Unless_wanting r (new ≡ record old { values = value.Int 0 ∷ behind old.values }) → Decides (node k)
  decides_none lt q = rw (no_node p vars k lt) (gave r _ refl q)

  pub chooses_place_none : false ≡ ltb k (length p.exprs) →
      Unless_wanting r (new ≡ record old { values = behind old.values; places = NOWHERE ∷ old.places }) →
      ChoosesPlace (node k)
  chooses_place_none lt q = rw (no_node p vars k lt) (gave_place r _ refl q)
