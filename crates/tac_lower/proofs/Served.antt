-- Code is shown to be that of a call of a library function or intrinsic: what it takes and gives.
use Rattle.std.proofs.Common.{◌≡◌, ℕ, Bool, true, false, List, [], ◌∷◌, zero, suc, map, Option, Some, refl}
use Rattle.std.proofs.Common.{sym, ap, ◌∙◌, subst, unwrap_or}
use Rattle.std.specs.Prelude.{slice_get, slice_index_or}
use Rattle.ck_int.specs.declared.kinds.IntKind.TheVariants as int
use Rattle.c_tree.specs.Expressions.{given_type}
use Rattle.c_tree.specs.Libraries.{Asked, Any_capability, A, Given, Of, As_argument}
use Rattle.c_tree.specs.Terms as term
use Rattle.c_tree.specs.Terms.{terms}
use Rattle.c_tree.specs.Types as ty
use Rattle.c_tree.specs.Types.{Ty, unsigned_long}
use Rattle.c_tree.specs.Views.{IsOrdered}
use Rattle.c_tree.specs.WellTyped.{AllAskedFit, AskedFits, list_of}
use Rattle.c_tree.specs.declared.typed.ExprKind.TheVariants as exprs
use Rattle.c_tree.specs.declared.typed.Typed.{Typed}
use Rattle.cheri_c_sem.specs.Expressions.{arguments}
use Rattle.cheri_c_sem.specs.Order.{Ordered}
use Rattle.cheri_c_sem.specs.Operations as work
use Rattle.cheri_c_sem.specs.Tree as tree
use Rattle.cheri_c_sem.specs.Types.{service_of}
use Rattle.tac_ir.specs.declared.code.CapWork.TheVariants as cap
use Rattle.tac_ir.specs.declared.code.LibOp.{LibOp}
use Rattle.tac_ir.specs.declared.code.LibOp.TheVariants as lib
use Rattle.tac_ir.specs.declared.code.TacInstr.TheVariants as instr
use Rattle.tac_ir.specs.declared.code.TacKind.{TacKind}
use Rattle.tac_ir.specs.declared.code.TacKind.TheVariants as kind
use Rattle.tac_lower.specs.declared.calls.Intrinsic.{Intrinsic}
use Rattle.tac_lower.specs.declared.calls.Intrinsic.TheVariants as intrinsics
use Rattle.tac_lower.specs.declared.calls.Service.{Service}
use Rattle.tac_lower.specs.declared.calls.Service.TheVariants as services
use Rattle.tac_emit.specs.declared.emitter.Emitter.{Emitter}
use Rattle.lower_runs.specs.Operating.{Code}
use Rattle.lower_runs.specs.Expressions.{Takes, served, serves, intrinsic, first_kind, IsCall}
use Rattle.lower_runs.specs.Expressions.{call_library as library_rule}
use Rattle.lower_runs.specs.Trees.{AllValues, Values}
use Rattle.tac_lower.specs.Callees.{service_as, intrinsic_as, HasLength}
use Rattle.tac_lower.specs.Nodes.{kept_as, or_int, kind_in, scalar_in, expression}
use Rattle.tac_lower.specs.Services.{ServiceAsks}
use Rattle.tac_emit.specs.Adding.{mark, Emits, one}
use Rattle.tac_lower.specs.Signed.{HaveKinds}
use Rattle.tac_lower.specs.Trees.{Setting, tree as tree_of, signatures, IsNode, HasScalar}
use Rattle.tac_lower.specs.Trees.{AreScalars}
use Rattle.tac_lower.specs.Trees.{ShowsArguments, ShowsCall}
use Rattle.tac_lower.proofs.Deriving.{node_tree, mark_same}
use Rattle.tac_emit.proofs.Emitting.{added_then}
use Rattle.tac_emit.proofs.Wells.{keeps_then}

capability_kept : (t : Ty) → ty.is_capability t ≡ true → (s : Bool) × (kept_as t ≡ Some (kind.Cap s))
capability_kept (ty.Cap s) h = (s, refl)
capability_kept (ty.Pointer t) h = (false, refl)
capability_kept t h = absurd cc

-- an argument that is asked for is a scalar
abbrev IsPlain : Asked → Type 0
IsPlain Any_capability = Unit {0}
IsPlain (A t) = (j : TacKind) × (kept_as t ≡ Some j)

module _ (p : Typed) (k : ℕ) where
  abbrev type_at : ℕ → Ty
  type_at x = term.type_of (expression p x)

  asked_scalar : (a : Asked) (x : ℕ) → IsPlain a → AskedFits a (type_at x) → HasScalar p x
  asked_scalar Any_capability x h f =
      let c = capability_kept (type_at x) f in record { kind = kind.Cap c.0; is = record { is = c.1 } }
  asked_scalar (A t) x h f = record { kind = h.0; is = record { is = ap kept_as f ∙ h.1 } }

  -- what a service gives and takes
  pub record IsServed (v : tree.Service) (args : List ℕ) : Type 0 where
    pub gives : served v (first_kind (map (kind_in p) args)) ≡ scalar_in p k
    pub takes : Takes v (map (kind_in p) args)
    pub scalars : AreScalars p args

  -- ---- the arguments, one by one

  abbrev Asks : List Asked → List ℕ → Type 0
  Asks takes args = AllAskedFit takes (terms (map (expression p) args))

  none_asked : (v : tree.Service) (args : List ℕ) → Asks [] args →
      served v (first_kind []) ≡ scalar_in p k → Takes v [] → IsServed v args
  none_asked v [] h g t = record { gives = g; takes = t; scalars = λ j x e. absurd cc }
  none_asked v (x ∷ args) h g t = absurd h

  first_scalar : (x j y : ℕ) → HasScalar p x → slice_get (x ∷ []) j ≡ Some y → HasScalar p y
  first_scalar x zero y h e = let q : x ≡ y = cc in subst (λ z. HasScalar p z) q h
  first_scalar x (suc j) y h e = absurd cc

  second_scalar : (x w j y : ℕ) → HasScalar p x → HasScalar p w → slice_get (x ∷ w ∷ []) j ≡ Some y → HasScalar p y
  second_scalar x w zero y h g e = let q : x ≡ y = cc in subst (λ z. HasScalar p z) q h
  second_scalar x w (suc j) y h g e = first_scalar w j y g e

  one_asked : (v : tree.Service) (a : Asked) (args : List ℕ) → IsPlain a → Asks (a ∷ []) args
      → ((x : ℕ) → args ≡ x ∷ [] → AskedFits a (type_at x) →
      (served v (kind_in p x) ≡ scalar_in p k) × Takes v (kind_in p x ∷ [])) → IsServed v args
  one_asked v a [] plain h f = absurd h
  one_asked v a (x ∷ (y ∷ args)) plain h f = absurd h.1
  one_asked v a (x ∷ []) plain h f =
      let w = f x refl h.0 in
      record { gives = w.0; takes = w.1; scalars = λ j y e. first_scalar x j y (asked_scalar a x plain h.0) e }

  two_asked : (v : tree.Service) (a b : Asked) (args : List ℕ) → IsPlain a → IsPlain b → Asks (a ∷ b ∷ []) args
      → ((x y : ℕ) → args ≡ x ∷ y ∷ [] → AskedFits a (type_at x) →
      (served v (kind_in p x) ≡ scalar_in p k) × Takes v (kind_in p x ∷ kind_in p y ∷ [])) → IsServed v args
  two_asked v a b [] plain second h f = absurd h
  two_asked v a b (x ∷ []) plain second h f = absurd h.1
  two_asked v a b (x ∷ (y ∷ (z ∷ args))) plain second h f = absurd h.1.1
  two_asked v a b (x ∷ (y ∷ [])) plain second h f =
      let w = f x y refl h.0 in
      record {
        gives = w.0;
        takes = w.1;
        scalars = λ j z e. second_scalar x y j z (asked_scalar a x plain h.0) (asked_scalar b y second h.1.0) e;
      }

  -- the first argument is a capability
  capability_takes : (v : tree.Service) (x : ℕ) (rest : List TacKind) → ty.is_capability (type_at x) ≡ true →
      ((s : Bool) → Takes v (kind.Cap s ∷ rest)) → Takes v (kind_in p x ∷ rest)
  capability_takes v x rest h f =
      let c = capability_kept (type_at x) h in
      subst (λ z. Takes v (z ∷ rest)) (sym (ap or_int c.1)) (f c.0)

  argument_kept : (x : ℕ) → ty.is_capability (type_at x) ≡ true → Some (kind_in p x) ≡ scalar_in p x
  argument_kept x h = let c = capability_kept (type_at x) h in ap (λ z. Some (or_int z)) c.1 ∙ sym c.1

  -- what is given: a type's kind, or that of the first argument
  given_of : (takes : List Asked) (t : Ty) (args : List ℕ) (gives : Given) → gives ≡ Of t →
      type_at k ≡ given_type gives (list_of (terms (map (expression p) args))) → kept_as t ≡ scalar_in p k
  given_of takes t args gives e h =
      ap kept_as (sym (h ∙ ap (λ z. given_type z (list_of (terms (map (expression p) args)))) e))

  module _ (takes : List Asked) (gives : Given) (args : List ℕ)
      (h : AllAskedFit takes (terms (map (expression p) args)))
      (q : type_at k ≡ given_type gives (list_of (terms (map (expression p) args)))) where
    abbrev fits : (ts : List Asked) → takes ≡ ts → Asks ts args
    fits ts e = subst (λ z. AllAskedFit z (terms (map (expression p) args))) e h

    abbrev given : (t : Ty) → gives ≡ Of t → kept_as t ≡ scalar_in p k
    given t e = given_of takes t args gives e q

    -- where it is that of the first argument
    as_first : gives ≡ As_argument → (x : ℕ) (rest : List ℕ) → args ≡ x ∷ rest → scalar_in p x ≡ scalar_in p k
    as_first e x rest f = sym (ap kept_as (q ∙ ap (λ z. given_type z (list_of (terms (map (expression p) args)))) e
        ∙ ap (λ z. given_type As_argument (list_of (terms (map (expression p) z)))) f))

    long_plain : IsPlain (A unsigned_long)
    long_plain = (kind.Int int.U64, refl)

    int_plain : IsPlain (A ty.int)
    int_plain = (kind.Int int.I32, refl)

    -- a number of one type gives one of another
    plain_of : (v : tree.Service) (u t : Ty) → IsPlain (A u) → takes ≡ A u ∷ [] → gives ≡ Of t →
        ((i : TacKind) → served v i ≡ kept_as t) → ((i : TacKind) → Takes v (i ∷ [])) → IsServed v args
    plain_of v u t plain e f m n = one_asked v (A u) args plain (fits (A u ∷ []) e)
        (λ x w c. (m (kind_in p x) ∙ given t f, n (kind_in p x)))

    -- something of a type is asked of a capability, or of two
    one_of : (v : tree.Service) (t : Ty) → takes ≡ Any_capability ∷ [] → gives ≡ Of t →
        ((i : TacKind) → served v i ≡ kept_as t) → ((s : Bool) → Takes v (kind.Cap s ∷ [])) → IsServed v args
    one_of v t e f m n = one_asked v Any_capability args tt (fits (Any_capability ∷ []) e)
        (λ x w c. (m (kind_in p x) ∙ given t f, capability_takes v x [] c n))

    two_of : (v : tree.Service) (t : Ty) → takes ≡ Any_capability ∷ Any_capability ∷ [] → gives ≡ Of t →
        ((i : TacKind) → served v i ≡ kept_as t) → ((s : Bool) (j : TacKind) → Takes v (kind.Cap s ∷ j ∷ [])) →
        IsServed v args
    two_of v t e f m n = two_asked v Any_capability Any_capability args tt tt
        (fits (Any_capability ∷ Any_capability ∷ []) e)
        (λ x y w c. (m (kind_in p x) ∙ given t f, capability_takes v x (kind_in p y ∷ []) c (λ s. n s (kind_in p y))))

    -- a capability is derived from one, perhaps by a number
    one_from : (v : tree.Service) → takes ≡ Any_capability ∷ [] → gives ≡ As_argument →
        ((i : TacKind) → served v i ≡ Some i) → ((s : Bool) → Takes v (kind.Cap s ∷ [])) → IsServed v args
    one_from v e f m n = one_asked v Any_capability args tt (fits (Any_capability ∷ []) e)
        (λ x w c. (
          m (kind_in p x) ∙ argument_kept x c ∙ as_first f x [] w,
          capability_takes v x [] c n,
        ))

    two_from : (v : tree.Service) → takes ≡ Any_capability ∷ A unsigned_long ∷ [] → gives ≡ As_argument →
        ((i : TacKind) → served v i ≡ Some i) → ((s : Bool) (j : TacKind) → Takes v (kind.Cap s ∷ j ∷ [])) →
        IsServed v args
    two_from v e f m n = two_asked v Any_capability (A unsigned_long) args tt long_plain
        (fits (Any_capability ∷ A unsigned_long ∷ []) e)
        (λ x y w c. (
          m (kind_in p x) ∙ argument_kept x c ∙ as_first f x (y ∷ []) w,
          capability_takes v x (kind_in p y ∷ []) c (λ s. n s (kind_in p y)),
        ))

    pub is_served : (v : Service) → ServiceAsks v takes gives → IsServed (service_as v) args
    is_served (services.Library lib.PutChar) s =
        plain_of tree.Put_char ty.int ty.int int_plain s.0 s.1 (λ i. refl) (λ i. tt)
    is_served (services.Library lib.GetChar) s =
        none_asked tree.Get_char args (fits [] s.0) (given ty.int s.1) tt
    is_served (services.Library lib.Malloc) s =
        plain_of tree.Malloc unsigned_long (ty.Pointer ty.Void) long_plain s.0 s.1 (λ i. refl) (λ i. tt)
    is_served (services.Library lib.Exit) s = absurd s
    is_served services.Exit s = plain_of tree.Exit ty.int ty.Void int_plain s.0 s.1 (λ i. refl) (λ i. tt)
    is_served (services.Intrinsic intrinsics.Address) s =
        one_of tree.Address unsigned_long s.0 s.1 (λ i. refl) (λ b. tt)
    is_served (services.Intrinsic (intrinsics.Bounds exact)) s =
        two_from (tree.Bounds exact) s.0 s.1 (λ i. refl) (λ b j. tt)
    is_served (services.Intrinsic (intrinsics.Work cap.Base)) s =
        one_of (tree.Works work.Base) unsigned_long s.0 s.1 (λ i. refl) (λ b. tt)
    is_served (services.Intrinsic (intrinsics.Work cap.Offset)) s =
        one_of (tree.Works work.Offset) unsigned_long s.0 s.1 (λ i. refl) (λ b. tt)
    is_served (services.Intrinsic (intrinsics.Work cap.Length)) s =
        one_of (tree.Works work.Length) unsigned_long s.0 s.1 (λ i. refl) (λ b. tt)
    is_served (services.Intrinsic (intrinsics.Work cap.Perms)) s =
        one_of (tree.Works work.Perms) unsigned_long s.0 s.1 (λ i. refl) (λ b. tt)
    is_served (services.Intrinsic (intrinsics.Work cap.Tag)) s =
        one_of (tree.Works work.Tag) ty.bool s.0 s.1 (λ i. refl) (λ b. tt)
    is_served (services.Intrinsic (intrinsics.Work cap.Clear)) s =
        one_from (tree.Works work.Clear) s.0 s.1 (λ i. refl) (λ b. tt)
    is_served (services.Intrinsic (intrinsics.Work cap.SetAddress)) s =
        two_from (tree.Works work.Set_address) s.0 s.1 (λ i. refl) (λ b j. tt)
    is_served (services.Intrinsic (intrinsics.Work cap.AndPerms)) s =
        two_from (tree.Works work.And_perms) s.0 s.1 (λ i. refl) (λ b j. tt)
    is_served (services.Intrinsic (intrinsics.Work cap.EqualExact)) s =
        two_of (tree.Works work.Equal_exact) ty.bool s.0 s.1 (λ i. refl) (λ b j. tt)
    is_served (services.Intrinsic (intrinsics.Work cap.Rounded)) s =
        plain_of (tree.Works work.Rounded) unsigned_long unsigned_long long_plain s.0 s.1 (λ i. refl) (λ i. tt)
    is_served (services.Intrinsic (intrinsics.Work cap.Mask)) s =
        plain_of (tree.Works work.Mask) unsigned_long unsigned_long long_plain s.0 s.1 (λ i. refl) (λ i. tt)

-- ---- calls

module _ (s : Setting) (o : Ordered s.program) (t : IsOrdered s.program) where
  pub call_served : (v : tree.Service) {k m : ℕ} {args ts : List ℕ} {to : Option ℕ} {a b c : Emitter} →
      IsNode s.program k (exprs.Library m args) → v ≡ service_of m → IsServed s.program k v args →
      ShowsArguments s args ts a b → Emits b c 0 (serves v to (first_kind (map (kind_in s.program) args)) ts) →
      ShowsCall s k to a c
  call_served v {k = k} {m = m} {args = args} {ts = ts} {to = to} {a = a} {b = b} {c = c} n is service e g =
      let p = s.program in
      let ks = map (kind_in p) args in
      let code : Code = λ r. e.code (serves v to (first_kind ks) ts r) in
      record {
        code = code;
        added = added_then e.added g.added;
        keeps = keeps_then a.kinds.items b.kinds.items c.kinds.items e.keeps g.keeps;
        is = λ scene kinds suits keeps means.
            let call_tree : tree_of s k ≡ tree.Library n.node.pos v (arguments (tree_of s) args) = node_tree s o t n
            ∙ ap (λ z. tree.Library n.node.pos z (arguments (tree_of s) args)) (sym is) in
            let values : AllValues scene (arguments (tree_of s) args) = subst (λ z. Values scene z) call_tree means in
            let kept = keeps_then b.kinds.items c.kinds.items kinds g.keeps keeps in
            let passed = e.is scene kinds suits kept service.scalars values in
            let whole = library_rule {to = to} {q = n.node.pos} service.gives service.takes passed in
            let there = subst (λ z. IsCall p (signatures p) kinds scene (scalar_in p k) z to (mark a) (mark b) code)
            (sym call_tree) whole in
            subst (λ z. IsCall p (signatures p) kinds scene (scalar_in p k) (tree_of s k) to (mark a) z code)
            (sym (mark_same g)) there;
      }

-- ---- the temps of arguments

pub has_length : (p : Typed) (e : Emitter) (takes : List Asked) (gives : Given) (args ts : List ℕ) (b : Option ℕ)
    (i : Intrinsic) → ServiceAsks (services.Intrinsic i) takes gives →
    AllAskedFit takes (terms (map (expression p) args)) → HaveKinds e ts (map (kind_in p) args) → b ≡ slice_get ts 1 →
    HasLength i b
has_length p e takes gives args ts b intrinsics.Address s h k is = tt
has_length p e takes gives args ts b (intrinsics.Work op) s h k is = tt
has_length p e takes gives args ts b (intrinsics.Bounds exact) s h k is =
    subst (HasLength (intrinsics.Bounds exact)) (sym is) (by args ts (subst (λ z. AllAskedFit z (terms
    (map (expression p) args))) s.0 h) k)
  where
    by : (xs us : List ℕ) → AllAskedFit (Any_capability ∷ A unsigned_long ∷ []) (terms (map (expression p) xs)) →
        HaveKinds e us (map (kind_in p) xs) → HasLength (intrinsics.Bounds exact) (slice_get us 1)
    by [] us h k = absurd h
    by (x ∷ []) us h k = absurd h.1
    by (x ∷ (y ∷ xs)) [] h k = absurd k
    by (x ∷ (y ∷ xs)) (u ∷ []) h k = absurd k.1
    by (x ∷ (y ∷ xs)) (u ∷ (w ∷ us)) h k = tt

index_is : (ts : List ℕ) → slice_index_or ts 0 0 ≡ unwrap_or (slice_get ts 0) 0
index_is [] = refl
index_is (x ∷ ts) = refl

-- an intrinsic, by the temps of its arguments
pub intrinsic_serves : (i : Intrinsic) (to : Option ℕ) (ts : List ℕ) {j k : TacKind} {x : ℕ} {y : Option ℕ}
    {a b : Emitter} → j ≡ k → x ≡ unwrap_or (slice_get ts 0) 0 → y ≡ slice_get ts 1 →
    Emits a b 0 (intrinsic (intrinsic_as i) to j x y) → Emits a b 0 (serves (intrinsic_as i) to k ts)
intrinsic_serves i to ts {j = j} {k = k} {x = x} {y = y} {a = a} {b = b} is first second f =
    let kept = subst (λ z. Emits a b 0 (intrinsic (intrinsic_as i) to z x y)) is f in
    let there = subst (λ z. Emits a b 0 (intrinsic (intrinsic_as i) to k x z)) second kept in
    by i (subst (λ z. Emits a b 0 (intrinsic (intrinsic_as i) to k z (slice_get ts 1))) (first ∙ sym (index_is ts))
    there)
  where
    by : (i : Intrinsic) → Emits a b 0 (intrinsic (intrinsic_as i) to k (slice_index_or ts 0 0) (slice_get ts 1)) →
        Emits a b 0 (serves (intrinsic_as i) to k ts)
    by intrinsics.Address f = f
    by (intrinsics.Bounds exact) f = f
    by (intrinsics.Work op) f = f

pub library_serves : (op : LibOp) (takes : List Asked) (gives : Given) (k : TacKind) {to : Option ℕ} {ts : List ℕ}
    {a b : Emitter} → ServiceAsks (services.Library op) takes gives → Emits a b 0 (one (instr.Lib op to ts)) →
    Emits a b 0 (serves (service_as (services.Library op)) to k ts)
library_serves lib.PutChar takes gives k s f = f
library_serves lib.GetChar takes gives k s f = f
library_serves lib.Malloc takes gives k s f = f
library_serves lib.Exit takes gives k s f = absurd s
