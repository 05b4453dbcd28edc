-- The body of a function as it is run, and the function.
use Rattle.std.proofs.Common.{◌≡◌, ℕ, suc, ◌+◌, ◌-◌, List, [], ◌∷◌, ◌++◌, length, get_or, take, map, Some, refl, sym}
use Rattle.std.proofs.Common.{ap, subst, ◌∙◌, ⊎_elim, arith, length-append}
use Rattle.std.specs.Prelude.{slice_get}
use Rattle.std.proofs.lemmas.List.{map-append, take-map}
use Rattle.ck_base.specs.declared.positions.Pos.{Pos}
use Rattle.c_tree.specs.declared.typed.Stmt.{Stmt}
use Rattle.c_tree.specs.declared.typed.StmtKind.TheVariants as stmts
use Rattle.c_tree.specs.declared.typed.VarDef.{VarDef}
use Rattle.c_tree.specs.declared.typed.FunDef.{FunDef}
use Rattle.c_tree.specs.Types.{Ty}
use Rattle.c_tree.specs.Terms as tree
use Rattle.c_tree.specs.Terms.{Variable, terms, Action, action, actions, Routine, numbers_from}
use Rattle.c_tree.specs.Views.{stmt_from, no_action, action_at, variable_of, routine_of}
use Rattle.c_tree.specs.Passed.{Names, Passing, hidden_of, passed_action, passing, param_copies, opened, passed_body}
use Rattle.c_tree.specs.Passed.{passed_routine, result_pointer, written_params, copied_params, named_variables}
use Rattle.c_copy.specs.Copying.{Extends, actions_in, terms_in}
use Rattle.c_copy.proofs.Copies.{forest_front, longer, extends_then, extends_push}
use Rattle.c_copy.proofs.Order.{at_end}
use Rattle.c_copy.proofs.Items.{get-push}
use Rattle.passing_steps.specs.Source.{Source}
use Rattle.passing_steps.specs.Made.{Made}
use Rattle.c_passing.specs.declared.functions.Whole.{Whole}
use Rattle.c_passing.specs.declared.functions.Standing.{Standing}
use Rattle.c_passing.specs.Lists.{hidden_of_each, passed_each_action, copies_of}
use Rattle.c_passing.specs.Passes.{written_action, written_before, AddsActions, ArePassedActions}
use Rattle.c_passing.specs.Routines.{WholeFits, written_routine, source_routine, source_variable, IsNamed}
use Rattle.c_passing.specs.Routines.{AreParamCopies, IsBody, FunctionTyped, IsFunction, AreFunctions}
use Rattle.c_passing.proofs.Hiding.{copies_list}
use Rattle.c_passing.proofs.Stating.{written_action_is, hidden_action, action_passed_is}
use Rattle.passing_steps.specs.Named.{name_in}
use Rattle.passing_steps.specs.Ordered.{Takes, VarsTyped}
use Rattle.passing_steps.specs.Steps.{Fits, HasAction, Hides, AreBlockVars}
use Rattle.passing_steps.proofs.Calling.{hides_vars, hides_count}
use Rattle.passing_steps.proofs.Ordering.{in_stmt, in_stmts}
use Rattle.passing_steps.proofs.Trees.{no_terms_have, action_made, no_actions_have}

-- ---- the body

pub record BodySteps (s : Source) (f : FunDef) (old a b new : Made) (d : Stmt) (vars body js ls vs : List ℕ)
    (params : List VarDef) (before local other hid end j : ℕ) : Type 0 where
  pub there : slice_get s.program.now.stmts f.body ≡ Some d
  pub is : d.kind ≡ stmts.Block vars body
  pub params_are : params ≡ take (length f.params) f.vars
  pub before_is : before ≡ length (result_pointer (source_routine s f))
  pub local_is : local ≡ length f.params + before
  pub other_is : other ≡ local + length (copied_params (source_routine s f))
  pub hidden_is : hid ≡ length old.vars.items
  pub end_is : end ≡ length b.vars.items
  pub copies : AreParamCopies s old a before local (map (source_variable s) params) [] js
  pub inner : AddsActions s a b (λ names. hidden_of_each names (map (written_before s f.body) body))
      (ArePassedActions s a b (map (written_before s f.body) body) js ls)
  pub block_vars : AreBlockVars s (local, other) vars (hid, end) vs
  pub pushed : new.stmts.items ≡ b.stmts.items ++ record { kind = stmts.Block vs ls; pos = d.pos } ∷ []
  pub number : j ≡ length b.stmts.items
  pub rest : new ≡ record b { stmts = new.stmts }

body_read : (s : Source) (f : FunDef) (d : Stmt) (vars body : List ℕ) → slice_get s.program.now.stmts f.body ≡ Some d →
    d.kind ≡ stmts.Block vars body →
    written_action s f.body ≡ action (tree.Block vars) (terms []) (actions (map (written_before s f.body) body)) d.pos
body_read s f d vars body g q = written_action_is s f.body d g ∙ rw q refl

body_hidden : (s : Source) (f : FunDef) (d : Stmt) (vars body : List ℕ) (names : Names) →
    slice_get s.program.now.stmts f.body ≡ Some d → d.kind ≡ stmts.Block vars body →
    hidden_of names (written_action s f.body) ≡ hidden_of_each names (map (written_before s f.body) body)
body_hidden s f d vars body names g q =
    ap (hidden_of names) (body_read s f d vars body g q)
    ∙ hidden_action names (tree.Block vars) [] (map (written_before s f.body) body) d.pos

body_hides : (s : Source) (f : FunDef) (old a b new : Made) (d : Stmt) (vars body js ls vs : List ℕ)
    (params : List VarDef) (before local other hid end j : ℕ) →
    BodySteps s f old a b new d vars body js ls vs params before local other hid end j →
    Hides s old new (λ names. hidden_of names (written_action s f.body))
body_hides s f old a b new d vars body js ls vs params before local other hid end j h =
    hides_vars s a b old new (λ names. hidden_of_each names (map (written_before s f.body) body))
    (λ names. hidden_of names (written_action s f.body)) (sym h.copies.vars) (ap (λ (m : Made). m.vars) h.rest)
    (λ names. sym (body_hidden s f d vars body names h.there h.is)) h.inner.hides

passed_block : (e : Passing) (n : ℕ) (vars : List ℕ) (ys : List Action) (p : Pos) →
    passed_action e n (action (tree.Block vars) (terms []) (actions ys) p)
    ≡ action (tree.Block (map e.number vars)) (terms []) (actions (passed_each_action e n ys)) p
passed_block e n vars ys p =
    let z : n + 0 + 0 ≡ n = omega arith in
    action_passed_is e n (tree.Block vars) [] ys p (λ x q r. absurd cc)
    ∙ ap (λ m. action (tree.Block (map e.number vars)) (terms []) (actions (passed_each_action e m ys)) p) z

body_passed : (s : Source) (f : FunDef) (old a b new : Made) (d : Stmt) (vars body js ls vs : List ℕ)
    (params : List VarDef) (before local other hid end j : ℕ) →
    BodySteps s f old a b new d vars body js ls vs params before local other hid end j →
    IsBody s (source_routine s f) old new j
body_passed s f old a b new d vars body js ls vs params before local other hid end j h = record {
  there = at_end b.stmts.items new.stmts.items _ j h.number h.pushed;
  is = λ ts names fits count.
      let r = source_routine s f in
      let e = passing names r in
      let n = length old.vars.items in
      let ys = map (written_before s f.body) body in
      let result = length (result_pointer r) in
      let copied = result + length f.params in
      let hidden = length (named_variables r) in
      let local_copied : local ≡ copied = let x = h.local_is in let y = h.before_is in omega arith in
      let some : other - local ≡ length (copied_params r) = let x = h.other_is in omega arith in
      let same_count : length a.vars.items ≡ n = ap (λ z. length z.items) h.copies.vars in
      let grown : end ≡ n + length (hidden_of_each names ys) =
      h.end_is ∙ hides_count s a b (λ z. hidden_of_each z ys) ts e h.inner.hides fits
      ∙ ap (λ m. m + length (hidden_of_each names ys)) same_count in
      let others : end - hid ≡ length (hidden_of names r.body) =
      let x = h.hidden_is in
      let y : end - hid ≡ length (hidden_of_each names ys) = omega arith in
      y ∙ ap length (sym (body_hidden s f d vars body names h.there h.is)) in
      let params_are : map (source_variable s) params ≡ written_params r =
      ap (map (source_variable s)) h.params_are ∙ sym (take-map (source_variable s) (length f.params) f.vars) in
      let A = numbers_from copied (length (copied_params r)) in
      let B = numbers_from hidden (length (hidden_of names r.body)) in
      let mid = map e.number vars in
      let copies = copies_of result copied (written_params r) in
      let one = h.copies.are ts e [] fits (no_actions_have ts old.exprs.items old.stmts.items) in
      let two = h.inner.is.are ts e (copies_of before local (map (source_variable s) params)) fits one in
      let zs = copies_of before local (map (source_variable s) params)
      ++ passed_each_action e (length a.vars.items) ys in
      let made = action_made ts b.exprs.items b.stmts.items new.stmts.items
      (record { kind = stmts.Block vs ls; pos = d.pos }) j [] zs h.pushed h.number
      (no_terms_have ts b.exprs.items) two in
      let zs_are : zs ≡ copies ++ passed_each_action e hidden ys =
      ap (λ m. copies_of m local (map (source_variable s) params) ++ passed_each_action e (length a.vars.items) ys)
      h.before_is
      ∙ ap (λ m. copies_of result m (map (source_variable s) params) ++ passed_each_action e (length a.vars.items) ys)
      local_copied
      ∙ ap (λ us. copies_of result copied us ++ passed_each_action e (length a.vars.items) ys) params_are
      ∙ ap (λ m. copies ++ passed_each_action e m ys) (same_count ∙ count) in
      let vs_are : vs ≡ (A ++ mid) ++ B =
      h.block_vars.are ts e fits
      ∙ ap (λ m. (numbers_from local m ++ mid) ++ numbers_from hid (end - hid)) some
      ∙ ap (λ m. (numbers_from m (length (copied_params r)) ++ mid) ++ numbers_from hid (end - hid)) local_copied
      ∙ ap (λ m. (A ++ mid) ++ numbers_from hid m) others
      ∙ ap (λ m. (A ++ mid) ++ numbers_from m (length (hidden_of names r.body))) (h.hidden_is ∙ count) in
      let whole : passed_body names r ≡ action (tree.Block ((A ++ mid) ++ B)) (terms [])
      (actions (copies ++ passed_each_action e hidden ys)) d.pos =
      ap (λ x. opened A B (param_copies result copied (written_params r)) x)
      (ap (passed_action e hidden) (body_read s f d vars body h.there h.is)
      ∙ passed_block e hidden vars ys d.pos)
      ∙ ap (λ z. action (tree.Block ((A ++ mid) ++ B)) (terms []) z d.pos)
      (copies_list result copied (written_params r) (passed_each_action e hidden ys)) in
      let is : action (tree.Block vs) (terms []) (actions zs) d.pos ≡ passed_body names r =
      ap (λ z. action (tree.Block vs) (terms []) (actions z) d.pos) zs_are
      ∙ ap (λ z. action (tree.Block z) (terms []) (actions (copies ++ passed_each_action e hidden ys)) d.pos) vs_are
      ∙ sym whole in
      subst (λ z. HasAction ts new.exprs.items new.stmts.items j z) is (rw (ap (λ (m : Made). m.exprs) h.rest) made);
  ordered = λ t us ws o.
      in_stmt (length s.types.now.list.items) b new (record { kind = stmts.Block vs ls; pos = d.pos }) j [] ls h.pushed
      (ap (λ (m : Made). m.exprs.items) h.rest) h.number refl refl us ws
      (h.inner.is.ordered t us ws (h.copies.ordered t us ws o));
}

pub body_made : (s : Source) (f : FunDef) (old a b new : Made) (d : Stmt) (vars body js ls vs : List ℕ)
    (params : List VarDef) (before local other hid end j : ℕ) →
    BodySteps s f old a b new d vars body js ls vs params before local other hid end j →
    AddsActions s old new (λ names. hidden_of names (written_action s f.body))
    (IsBody s (source_routine s f) old new j)
body_made s f old a b new d vars body js ls vs params before local other hid end j h = record {
  exprs = subst (λ es. Extends old.exprs.items es) (sym (ap (λ (m : Made). m.exprs.items) h.rest))
      (extends_then old.exprs.items a.exprs.items b.exprs.items h.copies.exprs h.inner.exprs);
  stmts = extends_push old.stmts.items b.stmts.items new.stmts.items _
      (extends_then old.stmts.items a.stmts.items b.stmts.items h.copies.stmts h.inner.stmts) h.pushed;
  hides = body_hides s f old a b new d vars body js ls vs params before local other hid end j h;
  is = body_passed s f old a b new d vars body js ls vs params before local other hid end j h;
}

-- ---- the function

pub source_fits : (w : Whole) (s : Source) (f : FunDef) (n : Standing) (all : List Variable) (k : ℕ) (ts : List Ty)
    (names : Names) → s.program ≡ w.program → s.types ≡ w.types → s.names ≡ w.names → s.numbers.now ≡ n.numbers.items →
    IsNamed w f k n all →
    WholeFits w ts → ((p : Pos) → names p ≡ name_in w.names.now p) → Fits s ts (passing names (written_routine w f))
source_fits w s f n all k ts names p t m q h fits g =
    rw (p, t, m, q) (record { types = fits.types; names = g; numbers = λ i v e. h.numbers i v e })

pub record FunctionSteps (w : Whole) (s : Source) (f g : FunDef) (n : Standing) (old new : Made) : Type 0 where
  pub program : s.program ≡ w.program
  pub types : s.types ≡ w.types
  pub names : s.names ≡ w.names
  pub numbers : s.numbers.now ≡ n.numbers.items
  pub standing : IsNamed w f (length f.vars) n (named_variables (written_routine w f))
  pub vars : old.vars.items ≡ n.vars.items
  pub made : AddsActions s old new (λ names. hidden_of names (written_action s f.body))
      (IsBody s (source_routine s f) old new g.body)
  pub name : g.name ≡ f.name
  pub pos : g.pos ≡ f.pos
  pub of : get_or w.types.now.numbers.items f.of 0 ≡ g.of
  pub params : g.params ≡ numbers_from 0 (length f.params + n.before)
  pub all : g.vars ≡ new.vars.items

routine_same : (a b : Routine) → a.name ≡ b.name → a.place ≡ b.place → a.of ≡ b.of → a.params ≡ b.params →
    a.vars ≡ b.vars → a.body ≡ b.body → a ≡ b
routine_same a b n p t k v x =
    ap (λ z. record a { name = z }) n
    ∙ ap (λ z. record a { name = b.name; place = z }) p
    ∙ ap (λ z. record a { name = b.name; place = b.place; of = z }) t
    ∙ ap (λ z. record a { name = b.name; place = b.place; of = b.of; params = z }) k
    ∙ ap (λ z. record a { name = b.name; place = b.place; of = b.of; params = b.params; vars = z }) v
    ∙ ap (λ z. record b { body = z }) x

pub function_made : (w : Whole) (s : Source) (f g : FunDef) (n : Standing) (old new : Made) →
    FunctionSteps w s f g n old new → IsFunction w (written_routine w f) old new g
function_made w s f g n old new h = record {
  exprs = h.made.exprs;
  stmts = h.made.stmts;
  there = h.made.is.there;
  typed = λ z.
      let hidden : VarsTyped w.types.now old.vars.items new.vars.items =
      subst (λ t. VarsTyped t.now old.vars.items new.vars.items) h.types h.made.hides.typed in
      (z.numbers f.of g.of h.of, rw (h.all) (hidden z (rw (h.vars) (h.standing.vars.typed z))));
  ordered = subst (λ t. Takes t.now old new [] [] [] (g.body ∷ [])) h.types h.made.is.ordered;
  is = λ ts names more fits nm.
      let r = written_routine w f in
      let same : source_routine s f ≡ r = rw h.program refl in
      let fit = source_fits w s f n (named_variables r)
      (length f.vars) ts names h.program h.types h.names h.numbers h.standing fits nm in
      let body : IsBody s r old new g.body = subst (λ x. IsBody s x old new g.body) same h.made.is in
      let count : length old.vars.items ≡ length (named_variables r) = ap length h.vars ∙ h.standing.vars.count in
      let made = body.is ts names fit count in
      let vars : map (variable_of ts) g.vars ≡ named_variables r ++ hidden_of names r.body =
      ap (map (variable_of ts)) h.all ∙ h.made.hides.are ts (passing names r) fit
      ∙ ap (λ zs. zs ++ hidden_of names (source_routine s f).body)
      (ap (map (variable_of ts)) h.vars ∙ h.standing.vars.is ts fits)
      ∙ ap (λ (x : Routine). named_variables r ++ hidden_of names x.body) same in
      let params : g.params ≡ numbers_from 0 (length (result_pointer r) + length f.params) =
      h.params ∙ ap (numbers_from 0) (let b = h.standing.before in omega arith) in
      routine_same (routine_of ts (actions_in ts (new.exprs.items ++ more) new.stmts.items) g)
      (passed_routine names r) h.name h.pos (fits.types.numbers f.of g.of h.of) params vars (made.is more);
}

-- ---- one function more

routines_kept : (ts : List Ty) (xs ys : List Action) (fs : List FunDef) →
    ((k : ℕ) (f : FunDef) → slice_get fs k ≡ Some f → action_at xs f.body ≡ action_at ys f.body) →
    map (routine_of ts xs) fs ≡ map (routine_of ts ys) fs
routines_kept ts xs ys [] h = refl
routines_kept ts xs ys (f ∷ fs) h =
    ap (λ b. record (routine_of ts xs f) { body = b } ∷ map (routine_of ts xs) fs) (h 0 f refl)
    ∙ ap (λ zs. routine_of ts ys f ∷ zs) (routines_kept ts xs ys fs (λ k g e. h (suc k) g e))

pub no_functions : (w : Whole) (a : Made) → AreFunctions w [] a a []
no_functions w a = record {
  there = λ k f e. absurd cc;
  typed = λ k f e. absurd cc;
  ordered = λ t us vs o. o;
  are = λ ts names more fits nm. refl;
}

pub functions_push : (w : Whole) (rs : List Routine) (r : Routine) (old a b : Made) (fs gs : List FunDef) (g : FunDef) →
    AreFunctions w rs old a fs → IsFunction w r a b g →
    gs ≡ fs ++ g ∷ [] → AreFunctions w (rs ++ r ∷ []) old b gs
functions_push w rs r old a b fs gs g h is e =
    let ext = is.exprs in
    let sext = is.stmts in
    record {
      there = λ k f q.
          ⊎_elim (λ x. let l = h.there k f x in let m = ap length sext.1 in
          omega (arith, length-append a.stmts.items sext.0)) (λ x. rw (← x.1) is.there)
          (get-push fs g k f (ap (λ zs. slice_get zs k) (sym e) ∙ q));
      typed = λ k f q.
          ⊎_elim (λ x. h.typed k f x) (λ x. subst (FunctionTyped w) x.1 is.typed)
          (get-push fs g k f (ap (λ zs. slice_get zs k) (sym e) ∙ q));
      ordered = λ t.
          let body : FunDef → ℕ = λ f. f.body in
          in_stmts (length w.types.now.list.items) old a b [] [] [] (map body fs) (map body gs) g.body (h.ordered t)
          (is.ordered t) (ap (map body) e ∙ map-append body fs (g ∷ []));
      are = λ ts names more fits nm.
          let now = actions_in ts (b.exprs.items ++ more) b.stmts.items in
          let before = actions_in ts (a.exprs.items ++ (ext.0 ++ more)) a.stmts.items in
          let kept : map (routine_of ts now) fs ≡ map (routine_of ts before) fs =
          routines_kept ts now before fs
          (λ k f q.
          ap (λ ss. action_at (actions_in ts (b.exprs.items ++ more) ss) f.body) sext.1
          ∙ forest_front (stmt_from (terms_in ts (b.exprs.items ++ more))) no_action a.stmts.items sext.0 f.body
          (h.there k f q)
          ∙ ap (λ zs. action_at (actions_in ts zs a.stmts.items) f.body) (longer a.exprs.items b.exprs.items more ext))
          in
          ap (map (routine_of ts now)) e ∙ map-append (routine_of ts now) fs (g ∷ [])
          ∙ ap (λ zs. zs ++ routine_of ts now g ∷ []) (kept ∙ h.are ts names (ext.0 ++ more) fits nm)
          ∙ ap (λ z. map (passed_routine names) rs ++ z ∷ []) (is.is ts names more fits nm)
          ∙ sym (map-append (passed_routine names) rs (r ∷ []));
    }
