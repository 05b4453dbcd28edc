-- The work that a statement asks for first is what the machine does first.
use Rattle.std.proofs.Common.{◌≡◌, ℕ, zero, suc, Bool, true, false, List, [], ◌∷◌, Option, Some, None, refl}
use Rattle.std.proofs.Common.{add-one}
use Rattle.std.specs.Prelude.{if◌then◌else◌, slice_get}
use Rattle.std.proofs.lemmas.Option.{same_Some}
use Rattle.ck_base.specs.declared.positions.Pos.{Pos}
use Rattle.c_tree.specs.declared.typed.Stmt.{Stmt}
use Rattle.c_tree.specs.declared.typed.StmtKind.{StmtKind}
use Rattle.c_tree.specs.declared.typed.StmtKind.TheVariants as stmts
use Rattle.c_tree.specs.declared.typed.Typed.{Typed}
use Rattle.cheri_c_sem.specs.Expressions.{expr_tree}
use Rattle.cheri_c_sem.specs.Kinds.{Kind}
use Rattle.cheri_c_sem.specs.Programs.{stmt_tree, stmt_kind_tree, statements}
use Rattle.cheri_c_sem.specs.Tree.{Ex, St, Sts, Give, Init, Fill, Empty, End, Seq}
use Rattle.mean_steps.specs.Machine.{execs_behind, Before}
use Rattle.mean_run.specs.declared.state.State.{State}
use Rattle.mean_work.specs.declared.work.Work.TheVariants as work
use Rattle.mean_run.specs.Begun.{next_one, parts_in, tests}
use Rattle.mean_run.proofs.Nodes.{no_statement}
use Rattle.mean_run.specs.Sources.{IsStatement}
use Rattle.mean_run.specs.Steps.{Proceeds, ComesToTest}
use Rattle.mean_run.specs.Views.{vars_at, loop_of, parts_of}

-- ---- statements one after another

execs_zero : (ss : Sts) → execs_behind ss 0 ≡ ss
execs_zero End = refl
execs_zero (Seq a ss) = refl

execs_past : (t : ℕ → St) (ks : List ℕ) (n : ℕ) → slice_get ks n ≡ None → execs_behind (statements t ks) n ≡ End
execs_past t [] n e = refl
execs_past t (k ∷ ks) zero e = absurd (let g : Some k ≡ None = e in cc)
execs_past t (k ∷ ks) (suc n) e = execs_past t ks n e

execs_at : (t : ℕ → St) (ks : List ℕ) (n a : ℕ) → slice_get ks n ≡ Some a →
    execs_behind (statements t ks) n ≡ Seq (t a) (execs_behind (statements t ks) (suc n))
execs_at t [] n a e = absurd (let g : None ≡ Some a = e in cc)
execs_at t (k ∷ ks) zero a e =
    let g : k ≡ a = same_Some k a e in rw (g, execs_zero (statements t ks)) refl
execs_at t (k ∷ ks) (suc n) a e = execs_at t ks n a e

module _ (p : Typed) (f k n : ℕ) where
  abbrev tree : ℕ → St
  tree = stmt_tree p (vars_at p f)

  proceeds_by : (ks : List ℕ) (o : Option ℕ) (old new : State) → parts_of (tree k) ≡ statements tree ks →
      slice_get ks n ≡ o → new ≡ record old { work = next_one f k n o old.work } →
      Proceeds p (execs_behind (parts_of (tree k)) n) old new
  proceeds_by ks None old new parts at b = λ ops funs held. rw (b, parts, execs_past tree ks n at) refl
  proceeds_by ks (Some a) old new parts at b =
      λ ops funs held. rw (b, parts, add-one, execs_at tree ks n a at) refl

  -- the next of the statements that stand in a statement
  pub proceeds : (ks : List ℕ) (old new : State) → parts_of (tree k) ≡ statements tree ks →
      new ≡ record old { work = next_one f k n (slice_get ks n) old.work } →
      Proceeds p (execs_behind (parts_of (tree k)) n) old new
  proceeds ks old new parts b = proceeds_by ks (slice_get ks n) old new parts refl b

  no_parts : (c d : Bool) (x j o bytes unit : ℕ) (pos : Pos) (t : Kind) (v : Ex) →
      parts_of (if c then Give x v else if d then Fill pos j o bytes unit v else Init pos j o t v) ≡ End
  no_parts true d x j o bytes unit pos t v = refl
  no_parts false true x j o bytes unit pos t v = refl
  no_parts false false x j o bytes unit pos t v = refl

  parts_are : (pos : Pos) (kind : StmtKind) →
      tree k ≡ stmt_kind_tree p (vars_at p f) (expr_tree p (vars_at p f)) tree pos kind →
      parts_of (tree k) ≡ statements tree (parts_in kind)
  parts_are pos (stmts.Expr e) node = rw node refl
  parts_are pos (stmts.Init x offset e) node = rw (node, no_parts) refl
  parts_are pos (stmts.Block xs ks) node = rw node refl
  parts_are pos (stmts.If c x y) node = rw node refl
  parts_are pos (stmts.While c a) node = rw node refl
  parts_are pos (stmts.Do a c) node = rw node refl
  parts_are pos (stmts.For xs first test step a) node = rw node refl
  parts_are pos (stmts.Switch on xs labels ks) node = rw node refl
  parts_are pos stmts.Break node = rw node refl
  parts_are pos stmts.Continue node = rw node refl
  parts_are pos (stmts.Return a) node = rw node refl
  parts_are pos stmts.Empty node = rw node refl

  pub proceeds_in : (a : Stmt) (old new : State) → IsStatement p k a →
      new ≡ record old { work = next_one f k n (slice_get (parts_in a.kind) n) old.work } →
      Proceeds p (execs_behind (parts_of (tree k)) n) old new
  proceeds_in a old new node b =
      proceeds (parts_in a.kind) old new (parts_are a.pos a.kind (node (vars_at p f))) b

  -- of a statement that is not there
  pub proceeds_none : (s : State) → slice_get p.stmts k ≡ None → Proceeds p (execs_behind (parts_of (tree k)) n) s s
  proceeds_none s at = λ ops funs held. rw (no_statement p (vars_at p f) k at) refl

-- ---- loops

module _ (p : Typed) (f k : ℕ) where
  abbrev here : ℕ → St
  here = stmt_tree p (vars_at p f)

  abbrev Statement : Pos → StmtKind → Type 0
  Statement pos kind = here k ≡ stmt_kind_tree p (vars_at p f) (expr_tree p (vars_at p f)) here pos kind

  no_loop : (c d : Bool) (x j o bytes unit : ℕ) (pos : Pos) (t : Kind) (v : Ex) →
      loop_of (if c then Give x v else if d then Fill pos j o bytes unit v else Init pos j o t v)
      ≡ Before None None Empty
  no_loop true d x j o bytes unit pos t v = refl
  no_loop false true x j o bytes unit pos t v = refl
  no_loop false false x j o bytes unit pos t v = refl

  comes_by : (pos : Pos) (kind : StmtKind) (old new : State) → Statement pos kind →
      new ≡ record old { work = tests f k kind old.work } → ComesToTest p (loop_of (here k)) old new
  comes_by pos (stmts.While c a) old new node b = λ ops funs held. rw (b, node) refl
  comes_by pos (stmts.Do a c) old new node b = λ ops funs held. rw (b, node) refl
  comes_by pos (stmts.For xs first (Some c) step a) old new node b = λ ops funs held. rw (b, node) refl
  comes_by pos (stmts.For xs first None step a) old new node b = λ ops funs held. rw (b, node) refl
  comes_by pos (stmts.Expr e) old new node b = λ ops funs held. rw (b, node) refl
  comes_by pos (stmts.Init x offset e) old new node b =
      λ ops funs held. rw (b, node, no_loop) refl
  comes_by pos (stmts.Block xs ks) old new node b = λ ops funs held. rw (b, node) refl
  comes_by pos (stmts.If c x y) old new node b = λ ops funs held. rw (b, node) refl
  comes_by pos (stmts.Switch on xs labels ks) old new node b = λ ops funs held. rw (b, node) refl
  comes_by pos stmts.Break old new node b = λ ops funs held. rw (b, node) refl
  comes_by pos stmts.Continue old new node b = λ ops funs held. rw (b, node) refl
  comes_by pos (stmts.Return a) old new node b = λ ops funs held. rw (b, node) refl
  comes_by pos stmts.Empty old new node b = λ ops funs held. rw (b, node) refl

  -- a loop that is not there
  pub comes_none : (old new : State) → slice_get p.stmts k ≡ None →
      new ≡ record old { work = work.Nothing ∷ work.Again f k ∷ old.work } → ComesToTest p (loop_of (here k)) old new
  comes_none old new at b = λ ops funs held. rw (b, no_statement p (vars_at p f) k at) refl

  pub comes_to_test : (a : Stmt) (old new : State) → IsStatement p k a →
      new ≡ record old { work = tests f k a.kind old.work } → ComesToTest p (loop_of (here k)) old new
  comes_to_test a old new node b = comes_by a.pos a.kind old new (node (vars_at p f)) b
