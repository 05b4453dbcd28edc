-- Arguments come into parameters.
use Rattle.std.proofs.Common.{◌≡◌, ◌≢◌, ℕ, ◌+◌, ◌≤◌, ◌<◌, Bool, true, false, List, [], ◌∷◌, length, Option, Some}
use Rattle.std.proofs.Common.{None, refl, sym, ap, subst, ◌∙◌, arith, if◌then◌else◌, length-set}
use Rattle.std.specs.Prelude.{slice_get, slice_set, ◌==◌}
use Rattle.std.proofs.lemmas.Bool.Decides.{nat_tests}
use Rattle.ck_base.specs.World.{World}
use Rattle.ck_base.specs.declared.positions.Pos.{Pos}
use Rattle.cap_ops.specs.Permissions.{data_permissions}
use Rattle.c_tree.specs.declared.typed.Typed.{Typed}
use Rattle.obj_mem.specs.Values.{Value}
use Rattle.cheri_c_sem.specs.Calls.{pass}
use Rattle.cheri_c_sem.specs.Modes.{Store}
use Rattle.cheri_c_sem.specs.Operations.{Operations}
use Rattle.cheri_c_sem.specs.Steps.{State, Fate, Then}
use Rattle.cheri_c_sem.specs.Tree.{Parameter}
use Rattle.tac_ir.specs.Effects.{kind_of}
use Rattle.tac_ir.specs.Meaning.{Running}
use Rattle.tac_ir.specs.declared.code.Tac.{Tac}
use Rattle.tac_ir.specs.declared.code.TacInstr.{TacInstr}
use Rattle.tac_ir.specs.declared.code.TacKind.{TacKind}
use Rattle.lower_runs.specs.States.{Home, Scene, IsScene, IsOf, IsPlaced, Agrees, or_zero}
use Rattle.lower_runs.specs.Operating.{Code}
use Rattle.lower_runs.specs.Statements.{with_spot}
use Rattle.lower_runs.specs.Simulation.{goes}
use Rattle.lower_runs.specs.Following.{Came}
use Rattle.lower_runs.specs.Calling.{AreOf}
use Rattle.lower_runs.specs.Functions.{with_home, AreTaken, AreFrom, ArgumentsAreTaken}
use Rattle.lower_runs.specs.Functions as taken
use Rattle.lower_runs.proofs.Agreement.{get_set_same, get_set_other, onward_same, onward_then, agrees_memory}
use Rattle.lower_runs.proofs.Assignments.{stored}
use Rattle.lower_runs.proofs.Loops.{spot_here, agrees_spot}

some_home : (i j : Home) → Some i ≡ Some j → i ≡ j
some_home i j e = cc

some_value : (v : Value) (o : Option Value) → Some (Some v) ≡ Some o → Some v ≡ o
some_value v o e = cc

some_given : (v z : Value) → Some (Some v) ≡ Some (Some z) → v ≡ z
some_given v z e = cc

-- arguments stay where a temp behind them changes
stay_from : (ks : List TacKind) (vs : List Value) (i at : ℕ) (o : Option Value) (us : List (Option Value)) →
    AreOf ks vs → i + length ks ≤ at → AreFrom i vs us → AreFrom i vs (slice_set us at o)
stay_from [] [] i at o us k le h = tt
stay_from [] (v ∷ vs) i at o us k le h = absurd k
stay_from (j ∷ ks) [] i at o us k le h = absurd k
stay_from (j ∷ ks) (v ∷ vs) i at o us k le h = (
  get_set_other us at i o (λ e. absurd (omega arith)) ∙ h.0,
  stay_from ks vs (i + 1) at o us k.1 (omega arith) h.1,
)

module _ (ops : Operations Store) (placed : IsPlaced ops) (w : World) (t : Tac) (p : Typed)
    (objects : ℕ → List ℕ) (r : Running) (call : ℕ → List Value → Then Store Value) (result : Option TacKind) (q : Pos)
  where
    abbrev Comes : State Store → State Store → Type 0
    Comes = Came ops w t p objects r call result

    -- a variable has the value of the temp that is its home from here on
    agrees_home : (g : Scene) (x i : ℕ) (k : TacKind) → IsScene (with_home x (record { temp = i; kind = k }) g) →
        (s : State Store) (ts : List (Option Value)) (v : Value) → Agrees ops g None s ts →
        slice_get ts i ≡ Some (Some v) → IsOf (kind_of k) v
        → Agrees ops (with_home x (record { temp = i; kind = k }) g) None
        (record s { vars = slice_set s.vars x (Some v) }) ts
    agrees_home g x i k scene s ts v a here typed = record {
      room = a.room;
      count = length-set s.vars x (Some v) ∙ a.count;
      variable = λ y h e z o e2. by y h o (y == x) refl e e2;
      typed = λ y h e z e2. of y h z (y == x) refl e e2;
      object = a.object;
      there = a.there;
      sound = a.sound;
      within = a.within;
      high = a.high;
    }
      where
        new : Home
        new = record { temp = i; kind = k }

        own : (with_home x new g).home x ≡ Some new
        own = let e : (x == x) ≡ true = grind (arith, nat_tests) in ap (λ b. if b then Some new else g.home x) e

        lt : x < length s.vars
        lt = let below = scene.home_counted x new own in let is = a.count in omega arith

        differ : (b : Bool) → b ≡ false → b ≡ true → ⊥
        differ true m n = cc
        differ false m n = cc

        by : (y : ℕ) (h : Home) (o : Option Value) (b : Bool) → (y == x) ≡ b →
            (if b then Some new else g.home y) ≡ Some h → slice_get (slice_set s.vars x (Some v)) y ≡ Some o →
            slice_get ts h.temp ≡ Some (Some (or_zero h.kind o))
        by y h o true b e e2 =
            let yx : y ≡ x = grind (arith, nat_tests) in
            let hn : new ≡ h = some_home new h e in
            let vo : Some v ≡ o = some_value v o (sym (get_set_same s.vars x (Some v) lt)
            ∙ ap (slice_get (slice_set s.vars x (Some v))) (sym yx) ∙ e2) in
            subst (λ z. slice_get ts z.temp ≡ Some (Some (or_zero z.kind o))) hn
            (here ∙ ap (λ z. Some (Some (or_zero k z))) vo)
        by y h o false b e e2 =
            let yx : y ≢ x = λ z. absurd (differ (y == x) b (grind (arith, nat_tests))) in
            a.variable y h e tt o (sym (get_set_other s.vars x y (Some v) yx) ∙ e2)

        of : (y : ℕ) (h : Home) (z : Value) (b : Bool) → (y == x) ≡ b →
            (if b then Some new else g.home y) ≡ Some h → slice_get (slice_set s.vars x (Some v)) y ≡ Some (Some z) →
            IsOf (kind_of h.kind) z
        of y h z true b e e2 =
            let yx : y ≡ x = grind (arith, nat_tests) in
            let hn : new ≡ h = some_home new h e in
            let vz : v ≡ z = some_given v z (sym (get_set_same s.vars x (Some v) lt)
            ∙ ap (slice_get (slice_set s.vars x (Some v))) (sym yx) ∙ e2) in
            subst (λ m. IsOf (kind_of m.kind) z) hn (subst (IsOf (kind_of k)) vz typed)
        of y h z false b e e2 =
            let yx : y ≢ x = λ m. absurd (differ (y == x) b (grind (arith, nat_tests))) in
            a.typed y h e z (sym (get_set_other s.vars x y (Some v) yx) ∙ e2)

    takes : (g h : Scene) (i : ℕ) (ps : List Parameter) (ks : List TacKind) (c : Code) → IsScene g →
        AreTaken q g i ps ks h c
        → (s : State Store) (ts : List (Option Value)) (vs : List Value) (l : Unit {0} → State Store → Fate)
        (rest : List TacInstr) → Agrees ops g None s ts → AreOf ks vs → AreFrom i vs ts
        → ((u : State Store) (us : List (Option Value)) → Comes s u → Agrees ops h None u us →
        l tt u ≡ goes ops w t p objects r call h rest u us)
        → pass ops w q ps vs s l ≡ goes ops w t p objects r call g (c rest) s ts
    takes g h i ps ks c scene taken.none s ts [] l rest a typed from go =
        go s ts (record { left = omega arith; first = refl; frame = refl; onward = onward_same ops s.mem }) a
    takes g h i ps ks c scene taken.none s ts (v ∷ vs) l rest a typed from go = absurd typed
    takes g h i ps ks c scene (taken.variable more e) s ts [] l rest a typed from go = absurd typed
    takes g h i ps ks c scene (taken.variable {x = x} {k = k} {ps = qs} {ks = js} {c = d} more e) s ts (v ∷ vs) l rest a
        typed from go =
        takes (with_home x (record { temp = i; kind = k }) g) h (i + 1) qs js d more e
        (record s { vars = slice_set s.vars x (Some v) }) ts vs l rest
        (agrees_home g x i k more s ts v a from.0 typed.0) typed.1 from.1
        (λ u us came. go u us (record {
          left = came.left;
          first = came.first;
          frame = came.frame;
          onward = came.onward;
        }))
    takes g h i ps ks c scene (taken.object more le e) s ts [] l rest a typed from go = absurd typed
    takes g h i ps ks c scene (taken.object {n = n} {at = at} {k = k} {ps = qs} {ks = js} {c = d} more le e) s ts
        (v ∷ vs)
        l rest a typed from go =
        let on = placed.zero s.mem (s.first + n) in
        let u : State Store = record s { mem = ops.zero s.mem (s.first + n) } in
        let us = slice_set ts at (Some (ops.whole u.mem (u.first + n) data_permissions)) in
        let b = agrees_spot ops placed w t p objects r call result g n at more u ts
        (agrees_memory ops g scene None s ts u.mem on a) in
        let below = more.spot_below n at
        (spot_here ops placed w t p objects r call result g n at) in
        let counted = more.spot_counted n at
        (spot_here ops placed w t p objects r call result g n at) in
        let there = a.there in let room = a.room in let fixed = more.room in
        let stay = stay_from (k ∷ js) (v ∷ vs) i at (Some (ops.whole u.mem (u.first + n) data_permissions)) ts typed le
        from in
        stored ops placed w t p objects r call (with_spot n at g) more k at i q q
        (ops.whole s.mem (s.first + n) data_permissions) v u us (d rest) (λ z. pass ops w q qs vs z l) refl typed.0
        (get_set_same ts at (Some (ops.whole u.mem (u.first + n) data_permissions)) (omega arith)
        ∙ ap (λ z. Some (Some z)) (on.whole (s.first + n) data_permissions (omega arith))) stay.0
        (λ mem next. takes (with_spot n at g) h (i + 1) qs js d more e (record u { mem = mem }) us vs l rest
        (agrees_memory ops (with_spot n at g) more None u us mem next b) typed.1 stay.1
        (λ y ys came. go y ys (record {
          left = came.left;
          first = came.first;
          frame = came.frame;
          onward = onward_then ops s.mem u.mem y.mem on (onward_then ops u.mem mem y.mem next came.onward);
        })))

pub arguments_taken : ArgumentsAreTaken
arguments_taken ops placed w t p objects r call result q g h i ps ks c scene =
    takes ops placed w t p objects r call result q g h i ps ks c scene
