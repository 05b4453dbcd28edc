-- Library functions and intrinsics: the kinds of their arguments and results.
use Rattle.std.proofs.Common.{◌≡◌, ℕ, ◌≤◌, ◌⊎◌, ⊎_elim, Bool, true, false, List, [], ◌∷◌, map, Option, Some, None, refl}
use Rattle.std.proofs.Common.{sym, ap, ◌∙◌, subst, unwrap_or}
use Rattle.std.specs.Prelude.{slice_get, codes}
use Rattle.std.proofs.lemmas.Option.{slice_get_past}
use Rattle.ck_int.specs.declared.kinds.IntKind.TheVariants as int
use Rattle.c_tree.specs.declared.typed.Typed.{Typed}
use Rattle.c_tree.specs.Expressions.{given_type}
use Rattle.c_tree.specs.Libraries.{Asked, Any_capability, A, Given, Of, As_argument, Service, service}
use Rattle.c_tree.specs.Libraries.{services as listed}
use Rattle.c_tree.specs.Terms.{Term, terms, type_of}
use Rattle.c_tree.specs.Types as ty
use Rattle.c_tree.specs.Types.{Ty}
use Rattle.c_tree.specs.WellTyped.{AllAskedFit, list_of}
use Rattle.tac_ir.specs.declared.code.CapWork.{CapWork}
use Rattle.tac_ir.specs.declared.code.CapWork.TheVariants as cap
use Rattle.tac_ir.specs.declared.code.LibOp.{LibOp}
use Rattle.tac_ir.specs.declared.code.LibOp.TheVariants as lib
use Rattle.tac_ir.specs.declared.code.TacKind.{TacKind}
use Rattle.tac_ir.specs.declared.code.TacKind.TheVariants as kinds
use Rattle.tac_lower.specs.declared.calls.Intrinsic.TheVariants as intrinsics
use Rattle.tac_lower.specs.declared.calls.Service.TheVariants as services
use Rattle.tac_emit.specs.declared.emitter.Emitter.{Emitter}
use Rattle.tac_emit.specs.Emitted.{HasKind, HasCapability, SameCapability, WorkFits}
use Rattle.tac_lower.specs.Nodes.{expression, kept_as, or_int, kind_in, scalar_in}
use Rattle.tac_lower.specs.Services.{ServiceAsks}
use Rattle.tac_lower.specs.Signed.{HaveKinds, ResultFits, ServiceFits}

cap_kept : (t : Ty) → ty.is_capability t ≡ true → (s : Bool) × (kept_as t ≡ Some (kinds.Cap s))
cap_kept (ty.Cap s) h = (s, refl)
cap_kept (ty.Pointer t) h = (false, refl)
cap_kept t h = absurd cc

module _ (p : Typed) (e : Emitter) where
  abbrev x : ℕ → Term
  x a = expression p a

  abbrev fit : List Asked → List ℕ → Type 0
  fit takes args = AllAskedFit takes (terms (map x args))

  abbrev held : List ℕ → List ℕ → Type 0
  held ts args = HaveKinds e ts (map (kind_in p) args)

  -- one argument that is a capability
  record OneCapability (args ts : List ℕ) : Type 0 where
    argument : ℕ
    temp : ℕ
    sign : Bool
    args_is : args ≡ argument ∷ []
    ts_is : ts ≡ temp ∷ []
    kept : scalar_in p argument ≡ Some (kinds.Cap sign)
    has : HasKind e temp (kinds.Cap sign)

  kind_at : (a : ℕ) (k : TacKind) → scalar_in p a ≡ Some k → (t : ℕ) → HasKind e t (kind_in p a) → HasKind e t k
  kind_at a k q t h = subst (λ z. HasKind e t (or_int z)) q h

  one_capability : (args ts : List ℕ) → fit (Any_capability ∷ []) args → held ts args → OneCapability args ts
  one_capability [] ts h g = absurd h
  one_capability (a ∷ []) [] h g = absurd g
  one_capability (a ∷ []) (t ∷ []) h g =
      let c = cap_kept (type_of (x a)) h.0 in
      record {
        argument = a;
        temp = t;
        sign = c.0;
        args_is = refl;
        ts_is = refl;
        kept = c.1;
        has = kind_at a (kinds.Cap c.0) c.1 t g.0;
      }
  one_capability (a ∷ []) (t ∷ u ∷ ts) h g = absurd g.1
  one_capability (a ∷ b ∷ args) ts h g = absurd h.1

  -- one argument of a type
  one_typed : (u : Ty) (k : TacKind) (args ts : List ℕ) → kept_as u ≡ Some k → fit (A u ∷ []) args → held ts args →
      HaveKinds e ts (k ∷ [])
  one_typed u k [] ts q h g = absurd h
  one_typed u k (a ∷ []) ts q h g = subst (λ z. HaveKinds e ts (or_int z ∷ [])) (ap kept_as h.0 ∙ q) g
  one_typed u k (a ∷ b ∷ args) ts q h g = absurd h.1

  none : (args ts : List ℕ) → fit [] args → held ts args → HaveKinds e ts []
  none [] ts h g = g
  none (a ∷ args) ts h g = absurd h

  -- a capability and a second argument
  record TwoCapability (args ts : List ℕ) (second : TacKind → Type 0) : Type 0 where
    argument : ℕ
    temp : ℕ
    other : ℕ
    sign : Bool
    args_is : (b : ℕ) × (args ≡ argument ∷ b ∷ [])
    ts_is : ts ≡ temp ∷ other ∷ []
    kept : scalar_in p argument ≡ Some (kinds.Cap sign)
    has : HasKind e temp (kinds.Cap sign)
    kind : TacKind
    other_has : HasKind e other kind
    other_is : second kind

  two_typed : (args ts : List ℕ) → fit (Any_capability ∷ A ty.unsigned_long ∷ []) args → held ts args →
      TwoCapability args ts (λ k. k ≡ kinds.Int int.U64)
  two_typed [] ts h g = absurd h
  two_typed (a ∷ []) ts h g = absurd h.1
  two_typed (a ∷ b ∷ []) [] h g = absurd g
  two_typed (a ∷ b ∷ []) (t ∷ []) h g = absurd g.1
  two_typed (a ∷ b ∷ []) (t ∷ u ∷ []) h g =
      let c = cap_kept (type_of (x a)) h.0 in
      record {
        argument = a;
        temp = t;
        other = u;
        sign = c.0;
        args_is = (b, refl);
        ts_is = refl;
        kept = c.1;
        has = kind_at a (kinds.Cap c.0) c.1 t g.0;
        kind = kinds.Int int.U64;
        other_has = kind_at b (kinds.Int int.U64) (ap kept_as h.1.0) u g.1.0;
        other_is = refl;
      }
  two_typed (a ∷ b ∷ []) (t ∷ u ∷ v ∷ ts) h g = absurd g.1.1
  two_typed (a ∷ b ∷ c ∷ args) ts h g = absurd h.1.1

  two_capabilities : (args ts : List ℕ) → fit (Any_capability ∷ Any_capability ∷ []) args → held ts args →
      TwoCapability args ts (λ k. (s : Bool) × (k ≡ kinds.Cap s))
  two_capabilities [] ts h g = absurd h
  two_capabilities (a ∷ []) ts h g = absurd h.1
  two_capabilities (a ∷ b ∷ []) [] h g = absurd g
  two_capabilities (a ∷ b ∷ []) (t ∷ []) h g = absurd g.1
  two_capabilities (a ∷ b ∷ []) (t ∷ u ∷ []) h g =
      let c = cap_kept (type_of (x a)) h.0 in
      let d = cap_kept (type_of (x b)) h.1.0 in
      record {
        argument = a;
        temp = t;
        other = u;
        sign = c.0;
        args_is = (b, refl);
        ts_is = refl;
        kept = c.1;
        has = kind_at a (kinds.Cap c.0) c.1 t g.0;
        kind = kinds.Cap d.0;
        other_has = kind_at b (kinds.Cap d.0) d.1 u g.1.0;
        other_is = (d.0, refl);
      }
  two_capabilities (a ∷ b ∷ []) (t ∷ u ∷ v ∷ ts) h g = absurd g.1.1
  two_capabilities (a ∷ b ∷ c ∷ args) ts h g = absurd h.1.1

  -- a library function
  pub library_fits : (op : LibOp) (takes : List Asked) (gives : Given) (args ts : List ℕ) (to : Option ℕ) (k : ℕ) →
      ServiceAsks (services.Library op) takes gives → fit takes args
      → type_of (x k) ≡ given_type gives (list_of (terms (map x args))) → held ts args →
      ResultFits e to (scalar_in p k) → ServiceFits e op to ts
  library_fits lib.PutChar takes gives args ts to k s h q g r = (
    one_typed ty.int (kinds.Int int.I32) args ts refl (subst (λ z. fit z args) s.0 h) g,
    subst (λ z. ResultFits e to (kept_as z)) (q ∙ ap (λ z. given_type z (list_of (terms (map x args)))) s.1) r,
  )
  library_fits lib.GetChar takes gives args ts to k s h q g r = (
    none args ts (subst (λ z. fit z args) s.0 h) g,
    subst (λ z. ResultFits e to (kept_as z)) (q ∙ ap (λ z. given_type z (list_of (terms (map x args)))) s.1) r,
  )
  library_fits lib.Malloc takes gives args ts to k s h q g r = (
    one_typed ty.unsigned_long (kinds.Int int.U64) args ts refl (subst (λ z. fit z args) s.0 h) g,
    subst (λ z. ResultFits e to (kept_as z)) (q ∙ ap (λ z. given_type z (list_of (terms (map x args)))) s.1) r,
  )
  library_fits lib.Exit takes gives args ts to k s h q g r = absurd s

  -- `exit`
  pub exit_fits : (takes : List Asked) (gives : Given) (args ts : List ℕ) → ServiceAsks services.Exit takes gives →
      fit takes args → held ts args → ServiceFits e lib.Exit None ts
  exit_fits takes gives args ts s h g =
      (one_typed ty.int (kinds.Int int.I32) args ts refl (subst (λ z. fit z args) s.0 h) g, tt)

  -- an intrinsic, by its first temps
  abbrev first : List ℕ → ℕ
  first ts = unwrap_or (slice_get ts 0) 0

  finish : (op : CapWork) (to a c : ℕ) (b d : Option ℕ) → a ≡ c → b ≡ d → WorkFits e op to c d → WorkFits e op to a b
  finish op to a c b d f g w = subst (λ z. WorkFits e op to a z) (sym g) (subst (λ z. WorkFits e op to z d) (sym f) w)

  module _ (takes : List Asked) (gives : Given) (args ts : List ℕ) (k to a : ℕ) (b : Option ℕ) (h : fit takes args)
      (q : type_of (x k) ≡ given_type gives (list_of (terms (map x args)))) (g : held ts args)
      (r : HasKind e to (kind_in p k)) (a_is : a ≡ first ts) (b_is : b ≡ slice_get ts 1) where
    result : (u : Ty) (j : TacKind) → kept_as u ≡ Some j → gives ≡ Of u → HasKind e to j
    result u j n s = subst (λ z. HasKind e to (or_int z))
        (ap kept_as (q ∙ ap (λ z. given_type z (list_of (terms (map x args)))) s) ∙ n) r

    derived_result : (c : ℕ) (rest : List ℕ) (j : TacKind) → args ≡ c ∷ rest → scalar_in p c ≡ Some j →
        gives ≡ As_argument → HasKind e to j
    derived_result c rest j n m s =
        subst (λ z. HasKind e to (or_int z))
        (ap kept_as (q ∙ ap (λ z. given_type z (list_of (terms (map x args)))) s
        ∙ ap (λ z. given_type As_argument (list_of (terms (map x z)))) n) ∙ m) r

    asked : (op : CapWork) (j : TacKind) → takes ≡ Any_capability ∷ [] → HasKind e to j →
        ((c : ℕ) → HasKind e to j → HasCapability e c → WorkFits e op to c None) → WorkFits e op to a b
    asked op j s t make =
        let o = one_capability args ts (subst (λ z. fit z args) s h) g in
        finish op to a o.temp b None (a_is ∙ ap first o.ts_is) (b_is ∙ ap (λ z. slice_get z 1) o.ts_is)
        (make o.temp t (record { kind = kinds.Cap o.sign; has = o.has; is = refl }))

    counted : (op : CapWork) → takes ≡ A ty.unsigned_long ∷ [] → HasKind e to (kinds.Int int.U64)
        → ((c : ℕ) → HasKind e to (kinds.Int int.U64) → HasKind e c (kinds.Int int.U64) → WorkFits e op to c None) →
        WorkFits e op to a b
    counted op s t make = by ts (one_typed ty.unsigned_long (kinds.Int int.U64) args ts refl
        (subst (λ z. fit z args) s h) g) a_is b_is
      where
        by : (us : List ℕ) → HaveKinds e us (kinds.Int int.U64 ∷ []) → a ≡ first us → b ≡ slice_get us 1 →
            WorkFits e op to a b
        by [] w f i = absurd w
        by (u ∷ []) w f i = finish op to a u b None f i (make u t w.0)
        by (u ∷ v ∷ us) w f i = absurd w.1

    -- with a second operand, and a result kept as the first
    pair_fits : (op : CapWork) → takes ≡ Any_capability ∷ A ty.unsigned_long ∷ [] → gives ≡ As_argument
        → ((c d : ℕ) → SameCapability e to c → HasKind e d (kinds.Int int.U64) → WorkFits e op to c (Some d)) →
        WorkFits e op to a b
    pair_fits op s m make =
        let o = two_typed args ts (subst (λ z. fit z args) s h) g in
        let t = derived_result o.argument (o.args_is.0 ∷ []) (kinds.Cap o.sign) o.args_is.1 o.kept m in
        finish op to a o.temp b (Some o.other) (a_is ∙ ap first o.ts_is) (b_is ∙ ap (λ z. slice_get z 1) o.ts_is)
        (make o.temp o.other (record { kind = kinds.Cap o.sign; to = t; from = o.has; is = refl })
        (subst (λ z. HasKind e o.other z) o.other_is o.other_has))

    pub work_fits : (op : CapWork) → ServiceAsks (services.Intrinsic (intrinsics.Work op)) takes gives →
        WorkFits e op to a b
    work_fits cap.Base s = asked cap.Base (kinds.Int int.U64) s.0 (result ty.unsigned_long (kinds.Int int.U64) refl s.1)
        (λ c t w. (t, w))
    work_fits cap.Offset s = asked cap.Offset (kinds.Int int.U64) s.0
        (result ty.unsigned_long (kinds.Int int.U64) refl s.1) (λ c t w. (t, w))
    work_fits cap.Length s = asked cap.Length (kinds.Int int.U64) s.0
        (result ty.unsigned_long (kinds.Int int.U64) refl s.1) (λ c t w. (t, w))
    work_fits cap.Perms s = asked cap.Perms (kinds.Int int.U64) s.0
        (result ty.unsigned_long (kinds.Int int.U64) refl s.1) (λ c t w. (t, w))
    work_fits cap.Tag s = asked cap.Tag (kinds.Int int.Bool) s.0 (result ty.bool (kinds.Int int.Bool) refl s.1)
        (λ c t w. (t, w))
    work_fits cap.Clear s =
        let o = one_capability args ts (subst (λ z. fit z args) s.0 h) g in
        let t = derived_result o.argument [] (kinds.Cap o.sign) o.args_is o.kept s.1 in
        finish cap.Clear to a o.temp b None (a_is ∙ ap first o.ts_is) (b_is ∙ ap (λ z. slice_get z 1) o.ts_is)
        (record { kind = kinds.Cap o.sign; to = t; from = o.has; is = refl })
    work_fits cap.SetAddress s =
        pair_fits cap.SetAddress s.0 s.1 (λ c d w v. (w, record { kind = kinds.Int int.U64; has = v; wide = tt }))
    work_fits cap.AndPerms s = pair_fits cap.AndPerms s.0 s.1 (λ c d w v. (w, v))
    work_fits cap.EqualExact s =
        let o = two_capabilities args ts (subst (λ z. fit z args) s.0 h) g in
        finish cap.EqualExact to a o.temp b (Some o.other) (a_is ∙ ap first o.ts_is)
        (b_is ∙ ap (λ z. slice_get z 1) o.ts_is) (
          result ty.bool (kinds.Int int.Bool) refl s.1,
          record { kind = kinds.Cap o.sign; has = o.has; is = refl },
          record {
            kind = kinds.Cap o.other_is.0;
            has = subst (λ z. HasKind e o.other z) o.other_is.1 o.other_has;
            is = refl;
          },
        )
    work_fits cap.Rounded s =
        counted cap.Rounded s.0 (result ty.unsigned_long (kinds.Int int.U64) refl s.1) (λ c t w. (t, w))
    work_fits cap.Mask s = counted cap.Mask s.0 (result ty.unsigned_long (kinds.Int int.U64) refl s.1) (λ c t w. (t, w))

    -- the address of a capability, which is converted
    pub address_fits : ServiceAsks (services.Intrinsic intrinsics.Address) takes gives →
        HasCapability e a × HasKind e to (kinds.Int int.U64)
    address_fits s =
        let o = one_capability args ts (subst (λ z. fit z args) s.0 h) g in (
          record {
            kind = kinds.Cap o.sign;
            has = subst (λ z. HasKind e z (kinds.Cap o.sign)) (sym (a_is ∙ ap first o.ts_is)) o.has;
            is = refl;
          },
          result ty.unsigned_long (kinds.Int int.U64) refl s.1,
        )

    -- bounds, which are narrowed to a count of bytes
    pub bounds_fit : (exact : Bool) → ServiceAsks (services.Intrinsic (intrinsics.Bounds exact)) takes gives →
        SameCapability e to a × HasKind e (unwrap_or b 0) (kinds.Int int.U64)
    bounds_fit exact s =
        let o = two_typed args ts (subst (λ z. fit z args) s.0 h) g in
        let t = derived_result o.argument (o.args_is.0 ∷ []) (kinds.Cap o.sign) o.args_is.1 o.kept s.1 in (
          record {
            kind = kinds.Cap o.sign;
            to = t;
            from = subst (λ z. HasKind e z (kinds.Cap o.sign)) (sym (a_is ∙ ap first o.ts_is)) o.has;
            is = refl;
          },
          subst (λ z. HasKind e (unwrap_or z 0) (kinds.Int int.U64)) (sym (b_is ∙ ap (λ z. slice_get z 1) o.ts_is))
              (subst (λ z. HasKind e o.other z) o.other_is o.other_has),
        )

-- ---- by their numbers

some_same : (m s : Service) → Some m ≡ Some s → m ≡ s
some_same m s h = cc

at : (n : ℕ) (m s : Service) → slice_get listed n ≡ Some m → slice_get listed n ≡ Some s →
    (s.takes ≡ m.takes) × (s.gives ≡ m.gives)
at n m s f h = let e = some_same m s (sym f ∙ h) in
    (ap (λ (z : Service). z.takes) (sym e), ap (λ (z : Service). z.gives) (sym e))

pub asks_0 : (s : Service) → slice_get listed 0 ≡ Some s → ServiceAsks (services.Library lib.PutChar) s.takes s.gives
unfolding listed
asks_0 s h = at 0 (service (codes "putchar") (A ty.int ∷ []) (Of ty.int)) s refl h

pub asks_1 : (s : Service) → slice_get listed 1 ≡ Some s → ServiceAsks (services.Library lib.GetChar) s.takes s.gives
unfolding listed
asks_1 s h = at 1 (service (codes "getchar") ([]) (Of ty.int)) s refl h

pub asks_2 : (s : Service) → slice_get listed 2 ≡ Some s → ServiceAsks (services.Library lib.Malloc) s.takes s.gives
unfolding listed
asks_2 s h = at 2 (service (codes "malloc") (A ty.unsigned_long ∷ []) (Of (ty.Pointer ty.Void))) s refl h

pub asks_3 : (s : Service) → slice_get listed 3 ≡ Some s → ServiceAsks (services.Exit) s.takes s.gives
unfolding listed
asks_3 s h = at 3 (service (codes "exit") (A ty.int ∷ []) (Of ty.Void)) s refl h

pub asks_4 : (s : Service) → slice_get listed 4 ≡ Some s →
    ServiceAsks (services.Intrinsic intrinsics.Address) s.takes s.gives
unfolding listed
asks_4 s h = at 4 (service (codes "cheri_address_get") (Any_capability ∷ []) (Of ty.unsigned_long)) s refl h

pub asks_5 : (s : Service) → slice_get listed 5 ≡ Some s →
    ServiceAsks (services.Intrinsic (intrinsics.Work cap.Base)) s.takes s.gives
unfolding listed
asks_5 s h = at 5 (service (codes "cheri_base_get") (Any_capability ∷ []) (Of ty.unsigned_long)) s refl h

pub asks_6 : (s : Service) → slice_get listed 6 ≡ Some s →
    ServiceAsks (services.Intrinsic (intrinsics.Work cap.Offset)) s.takes s.gives
unfolding listed
asks_6 s h = at 6 (service (codes "cheri_offset_get") (Any_capability ∷ []) (Of ty.unsigned_long)) s refl h

pub asks_7 : (s : Service) → slice_get listed 7 ≡ Some s →
    ServiceAsks (services.Intrinsic (intrinsics.Work cap.Length)) s.takes s.gives
unfolding listed
asks_7 s h = at 7 (service (codes "cheri_length_get") (Any_capability ∷ []) (Of ty.unsigned_long)) s refl h

pub asks_8 : (s : Service) → slice_get listed 8 ≡ Some s →
    ServiceAsks (services.Intrinsic (intrinsics.Work cap.Tag)) s.takes s.gives
unfolding listed
asks_8 s h = at 8 (service (codes "cheri_tag_get") (Any_capability ∷ []) (Of ty.bool)) s refl h

pub asks_9 : (s : Service) → slice_get listed 9 ≡ Some s →
    ServiceAsks (services.Intrinsic (intrinsics.Work cap.Perms)) s.takes s.gives
unfolding listed
asks_9 s h = at 9 (service (codes "cheri_perms_get") (Any_capability ∷ []) (Of ty.unsigned_long)) s refl h

pub asks_10 : (s : Service) → slice_get listed 10 ≡ Some s →
    ServiceAsks (services.Intrinsic (intrinsics.Work cap.SetAddress)) s.takes s.gives
unfolding listed
asks_10 s h = at 10 (service (codes "cheri_address_set") (Any_capability ∷ A ty.unsigned_long ∷ []) (As_argument)) s
    refl h

pub asks_11 : (s : Service) → slice_get listed 11 ≡ Some s →
    ServiceAsks (services.Intrinsic (intrinsics.Work cap.Clear)) s.takes s.gives
unfolding listed
asks_11 s h = at 11 (service (codes "cheri_tag_clear") (Any_capability ∷ []) (As_argument)) s refl h

pub asks_12 : (s : Service) → slice_get listed 12 ≡ Some s →
    ServiceAsks (services.Intrinsic (intrinsics.Bounds false)) s.takes s.gives
unfolding listed
asks_12 s h = at 12 (service (codes "cheri_bounds_set") (Any_capability ∷ A ty.unsigned_long ∷ []) (As_argument)) s refl
    h

pub asks_13 : (s : Service) → slice_get listed 13 ≡ Some s →
    ServiceAsks (services.Intrinsic (intrinsics.Bounds true)) s.takes s.gives
unfolding listed
asks_13 s h = at 13 (service (codes "cheri_bounds_set_exact") (Any_capability ∷ A ty.unsigned_long ∷ []) (As_argument))
    s refl h

pub asks_14 : (s : Service) → slice_get listed 14 ≡ Some s →
    ServiceAsks (services.Intrinsic (intrinsics.Work cap.AndPerms)) s.takes s.gives
unfolding listed
asks_14 s h = at 14 (service (codes "cheri_perms_and") (Any_capability ∷ A ty.unsigned_long ∷ []) (As_argument)) s refl
    h

pub asks_15 : (s : Service) → slice_get listed 15 ≡ Some s →
    ServiceAsks (services.Intrinsic (intrinsics.Work cap.EqualExact)) s.takes s.gives
unfolding listed
asks_15 s h = at 15 (service (codes "cheri_is_equal_exact") (Any_capability ∷ Any_capability ∷ []) (Of ty.bool)) s refl
    h

pub asks_16 : (s : Service) → slice_get listed 16 ≡ Some s →
    ServiceAsks (services.Intrinsic (intrinsics.Work cap.Rounded)) s.takes s.gives
unfolding listed
asks_16 s h = at 16 (service (codes "cheri_representable_length") (A ty.unsigned_long ∷ []) (Of ty.unsigned_long)) s
    refl h

pub asks_17 : (s : Service) → slice_get listed 17 ≡ Some s →
    ServiceAsks (services.Intrinsic (intrinsics.Work cap.Mask)) s.takes s.gives
unfolding listed
asks_17 s h = at 17 (service (codes "cheri_representable_alignment_mask") (A ty.unsigned_long ∷ [])
    (Of ty.unsigned_long)) s refl h

past : (n : ℕ) → 18 ≤ n → slice_get listed n ≡ None
unfolding listed
past n h = slice_get_past listed n h

-- 3 is that of `exit`, and no number is past the list
pub asks_other : (n : ℕ) (s : Service) → (n ≡ 3) ⊎ (18 ≤ n) → slice_get listed n ≡ Some s →
    ServiceAsks services.Exit s.takes s.gives
asks_other n s w h = ⊎_elim (λ (e : n ≡ 3). asks_3 s (subst (λ z. slice_get listed z ≡ Some s) e h))
    (λ (l : 18 ≤ n). absurd (let q : None ≡ Some s = sym (past n l) ∙ h in cc)) w
