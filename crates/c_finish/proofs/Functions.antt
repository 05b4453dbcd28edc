-- The functions of the finished program.
use Rattle.std.proofs.Common.{◌≡◌, ℕ, ◌+◌, ◌<◌, ◌≤◌, List, [], ◌∷◌, ◌++◌, length, take, map, Option, Some, None, refl}
use Rattle.std.proofs.Common.{sym, ap, subst, ◌∙◌, ⊎_elim, arith}
use Rattle.std.specs.Prelude.{slice_get, flat_map}
use Rattle.std.proofs.Math.ListN.{get_or-map}
use Rattle.std.proofs.lemmas.List.{take_all, map-append, append-nil}
use Rattle.std.proofs.lemmas.Option.{same_Some}
use Rattle.ck_base.specs.declared.positions.Pos.{Pos}
use Rattle.ck_base.specs.declared.positions.Span.{Span}
use Rattle.c_tree.specs.declared.typed.FunDef.{FunDef}
use Rattle.c_tree.specs.declared.typed.VarDef.{VarDef}
use Rattle.c_tree.specs.Types.{Ty}
use Rattle.c_tree.specs.Terms.{Action, Variable, Routine}
use Rattle.c_tree.specs.Scopes.{Body, RoutineState, State}
use Rattle.c_tree.specs.Views.{types_of, no_action, actions_of, action_at, routine_of}
use Rattle.c_tree.specs.Views as views
use Rattle.c_tree.specs.Programs.{numbers_of, action_with, with_body}
use Rattle.c_tree.specs.Programs as programs
use Rattle.c_elaborator.specs.declared.work.Work.{Work}
use Rattle.c_elaborator.specs.declared.work.Definition.{Definition}
use Rattle.c_elaborator.specs.Work.{Shows, Seen, option_seen, body_seen, seen_of, definition_of}
use Rattle.c_copy.proofs.Items.{get-push}
use Rattle.c_plain_rules.proofs.Backwards.{at_some}
use Rattle.c_plain_rules.proofs.Shown.{IsFunction}
use Rattle.c_finish.specs.Finished.{new_actions, AreRoutines, IsRoutine, BodiesThere}
use Rattle.c_finish.proofs.Globals.{flat_taken}

abbrev routine_with : Span → Pos → Ty → List ℕ → List Variable → Action → Routine
routine_with n p t xs us a = record { name = n; place = p; of = t; params = xs; vars = us; body = a }

routine_same : (n m : Span) (p q : Pos) (s t : Ty) (xs ys : List ℕ) (us vs : List Variable) (a b : Action) → n ≡ m →
    p ≡ q → s ≡ t → xs ≡ ys → us ≡ vs → a ≡ b →
    routine_with n p s xs us a ∷ [] ≡ routine_with m q t ys vs b ∷ []
routine_same n m p q s t xs ys us vs a b e f g h i j = rw (e, f, g, h, i, j) refl

body_is : (w : Work) (s : State) (x : FunDef) (r : RoutineState) (o : Option Body) (d : Definition) (params : List ℕ)
    (vars : List VarDef) → IsFunction w x r →
    option_seen body_seen o ≡ Some (seen_of (types_of w.nodes.p.types) (actions_of w.nodes.p) d) →
    params ≡ d.params.items → vars ≡ d.vars.items →
    routine_of (types_of w.nodes.p.types) (new_actions w s)
    (record { name = x.name; pos = x.pos; of = x.of; params = params; vars = vars; body = d.body }) ∷ []
    ≡ with_body s r o
body_is w s x r None d params vars f e p v = absurd cc
body_is w s x r (Some b) d params vars f e p v =
    let ts = types_of w.nodes.p.types in
    let acts = actions_of w.nodes.p in
    let n = numbers_of s in
    let z : body_seen b ≡ seen_of ts acts d = same_Some (body_seen b) (seen_of ts acts d) e in
    let a : action_at (new_actions w s) d.body ≡ action_with n (action_at acts d.body) =
    get_or-map (action_with n) acts d.body no_action in
    routine_same x.name r.name.span x.pos r.name.pos _ r.of params b.params (map (views.variable_of ts) vars)
    (map programs.variable_of b.vars) (action_at (new_actions w s) d.body)
    (action_with n b.action) f.name f.place f.of (p ∙ sym (ap (λ (y : Seen). y.params) z))
    (ap (map (views.variable_of ts)) v ∙ sym (ap (λ (y : Seen). y.vars) z))
    (a ∙ ap (action_with n) (sym (ap (λ (y : Seen). y.body) z)))

pub routine_is : (w : Work) (s : State) (k : ℕ) (x : FunDef) (r : RoutineState) (d : Definition) (params : List ℕ)
    (vars : List VarDef) → Shows w s → IsFunction w x r → slice_get s.routines k ≡ Some r →
    definition_of k w.definitions.items ≡ Some d → params ≡ d.params.items → vars ≡ d.vars.items →
    routine_of (types_of w.nodes.p.types) (new_actions w s)
    (record { name = x.name; pos = x.pos; of = x.of; params = params; vars = vars; body = d.body }) ∷ []
    ≡ programs.routine_of s r
routine_is w s k x r d params vars h f e g p v =
    body_is w s x r r.body d params vars f (h.definitions k r e
    ∙ ap (option_seen (seen_of (types_of w.nodes.p.types) (actions_of w.nodes.p))) g) p v

pub no_routines : (w : Work) (s : State) (fs : List FunDef) → fs ≡ [] → AreRoutines w s 0 fs
no_routines w s fs e = ap (map (routine_of (types_of w.nodes.p.types) (new_actions w s))) e

pub routines_all : (w : Work) (s : State) (k : ℕ) (fs : List FunDef) → length s.routines ≤ k → AreRoutines w s k fs →
    AreRoutines w s (length s.routines) fs
routines_all w s k fs le a =
    a ∙ ap (flat_map (programs.routine_of s)) (take_all k s.routines le
    ∙ sym (take_all (length s.routines) s.routines (omega arith)))

no_body : (s : State) (r : RoutineState) (o : Option Body) (f : Definition → Seen) →
    option_seen body_seen o ≡ option_seen f None → with_body s r o ≡ []
no_body s r None f e = refl
no_body s r (Some b) f e = absurd cc

pub routines_skip : (w : Work) (s : State) (k : ℕ) (fs : List FunDef) → Shows w s → k < length s.routines →
    definition_of k w.definitions.items ≡ None → AreRoutines w s k fs → AreRoutines w s (k + 1) fs
routines_skip w s k fs h lt g a =
    let x = at_some s.routines k lt in
    let f = seen_of (types_of w.nodes.p.types) (actions_of w.nodes.p) in
    let n = no_body s x.0 x.0.body f (h.definitions k x.0 x.1 ∙ ap (option_seen f) g) in
    a ∙ sym (flat_taken (programs.routine_of s) s.routines k x.0 x.1
    ∙ ap (λ zs. flat_map (programs.routine_of s) (take k s.routines) ++ zs) n
    ∙ append-nil (flat_map (programs.routine_of s) (take k s.routines)))

pub routines_push : (w : Work) (s : State) (k : ℕ) (fs gs : List FunDef) (f : FunDef) → Shows w s →
    k < length s.routines → gs ≡ fs ++ f ∷ [] → IsRoutine w k f → AreRoutines w s k fs → AreRoutines w s (k + 1) gs
routines_push w s k fs gs f h lt e i a =
    let z = at_some s.routines k lt in
    let of : FunDef → Routine = routine_of (types_of w.nodes.p.types) (new_actions w s) in
    ap (map of) e ∙ map-append of fs (f ∷ [])
    ∙ ap (λ us. us ++ of f ∷ []) a
    ∙ ap (λ us. flat_map (programs.routine_of s) (take k s.routines) ++ us) (i s z.0 h z.1)
    ∙ sym (flat_taken (programs.routine_of s) s.routines k z.0 z.1)

-- the bodies of functions that are there
pub bodies_push : (w : Work) (fs gs : List FunDef) (f : FunDef) → f.body < length w.nodes.p.stmts →
    gs ≡ fs ++ f ∷ [] → BodiesThere w fs → BodiesThere w gs
bodies_push w fs gs f lt e h = λ k g q.
    ⊎_elim (λ a. h k g a) (λ a. subst (λ (x : FunDef). x.body < length w.nodes.p.stmts) a.1 lt)
    (get-push fs f k g (ap (λ zs. slice_get zs k) (sym e) ∙ q))

pub no_bodies : (w : Work) (fs : List FunDef) → fs ≡ [] → BodiesThere w fs
no_bodies w fs e = λ k f q. absurd (let z : slice_get [] k ≡ Some f = ap (λ zs. slice_get zs k) (sym e) ∙ q in cc)
