-- Code is shown to be that of a `switch`: its value is in a temp of its own, and its statements stand among its labels.
use Rattle.std.proofs.Common.{◌≡◌, ℕ, suc, ◌+◌, ◌<◌, Bool, true, false, List, [], ◌∷◌, ◌++◌, length, Option}
use Rattle.std.proofs.Common.{drop, length-append, Some, None, refl, sym, ap, ◌∙◌, subst, arith, inl, inr}
use Rattle.std.proofs.Common.{if◌then◌else◌}
use Rattle.std.specs.Prelude.{slice_get, ◌⊎◌, ◌==◌}
use Rattle.std.proofs.lemmas.List.{append-nil}
use Rattle.std.proofs.lemmas.Option.{slice_get_within}
use Rattle.std.proofs.lemmas.Bool.Decides.{nat_tests}
use Rattle.c_tree.specs.Views.{IsOrdered}
use Rattle.c_tree.specs.WellTyped.{Inside, AreVars}
use Rattle.c_tree.specs.WellTyped as typed
use Rattle.c_tree.specs.declared.typed.FunDef.{FunDef}
use Rattle.c_tree.specs.declared.typed.StmtKind.TheVariants as stmts
use Rattle.c_tree.specs.declared.typed.SwitchLabel.{SwitchLabel}
use Rattle.c_tree.specs.declared.typed.Typed.{Typed}
use Rattle.cheri_c_sem.specs.Order.{Ordered}
use Rattle.cheri_c_sem.specs.Programs.{statements}
use Rattle.cheri_c_sem.specs.Tree.{Ex, Nil, Declared, Simple, Objects, Label, St, Switch}
use Rattle.cheri_c_sem.specs.Types.{is_simple, objects_before}
use Rattle.tac_ir.specs.Effects.{kind_of, kind_at}
use Rattle.tac_ir.specs.declared.code.TacInstr.TheVariants as instr
use Rattle.tac_ir.specs.declared.code.TacKind.{TacKind}
use Rattle.tac_ir.specs.declared.code.TacKind.TheVariants as kind
use Rattle.tac_lower.specs.declared.context.Home as places
use Rattle.tac_lower.specs.declared.context.Home.TheVariants as home
use Rattle.tac_emit.specs.declared.emitter.Emitter.{Emitter}
use Rattle.tac_lower.specs.declared.switches.Case.{Case}
use Rattle.tac_lower.specs.declared.switches.Cases.{Cases}
use Rattle.tac_lower.specs.declared.writes.Written.TheVariants as write
use Rattle.lower_runs.specs.States.{Home, Scene, IsScene}
use Rattle.lower_runs.specs.Operating.{Code}
use Rattle.lower_runs.specs.Expressions.{Mark, more, labelled, IsInPlace, IsOperand, operand_in_place, operand_fresh}
use Rattle.lower_runs.specs.Expressions.{variable, object, converted, int_kind, Signature}
use Rattle.lower_runs.specs.Statements.{Exits, in_switch, IsEntered, nothing, simple, whole, IsBeside}
use Rattle.lower_runs.specs.Statements.{cases_code, otherwise, stand_code, count_labels, IsOnce, AreAmong}
use Rattle.lower_runs.specs.Statements.{count_statements, IsStatement, IsBody, behind, among, switched}
use Rattle.lower_runs.specs.Trees.{AreOthers, Values, held_by}
use Rattle.tac_emit.specs.Emitted.{Keeps, Labelled, Pushed}
use Rattle.tac_lower.specs.Scenes.{Housed, frame_of}
use Rattle.tac_emit.specs.Adding.{mark, Added, Emits}
use Rattle.tac_lower.specs.Trees.{Setting, tree, HasScalar, signatures, ShowsOperand}
use Rattle.tac_lower.specs.Cases.{labels_as, standing, up_to, Wait, StandAt, Compares, ShowsCases, ShowsAmong}
use Rattle.tac_lower.specs.Cases.{ShowsSwitch}
use Rattle.tac_lower.specs.Stating.{Routine, stmt, Sited, IsStmt, Does, DoAll, Leads}
use Rattle.tac_lower.specs.Stating.{AreInner, ShowsStatement, ShowsEntered, declared_in}
use Rattle.tac_lower.proofs.Bodies.{temp_at, pointer_at}
use Rattle.tac_lower.proofs.Cases.{stood_here, stood_behind, wait_past}
use Rattle.tac_lower.proofs.Deriving.{mark_same, kind_is, cover_none}
use Rattle.tac_emit.proofs.Emitting.{added_then, one_emits, kind_in_end}
use Rattle.tac_lower.proofs.Sites.{no_home}
use Rattle.tac_lower.proofs.Stated.{stmt_is, is_as, all_both}
use Rattle.tac_emit.proofs.Wells.{keeps_same, keeps_then}

-- ---- the temp of the value is none of the block's

-- a temp whose value is there already is a variable's, or has the pointer to an object
abbrev Holder : Scene → Ex → ℕ → Type 0
Holder g e t = ((x : ℕ) × (h : Home) × (held_by e ≡ Some (Simple x)) × (g.home x ≡ Some h) × (h.temp ≡ t))
    ⊎ ((n : ℕ) × (held_by e ≡ Some (Objects n)) × (g.spot n ≡ Some t))

holder_of : {g : Scene} {k : TacKind} {e : Ex} {t : ℕ} → IsInPlace g Nil k e t → Holder g e t
holder_of (variable {x = x} {t = t} {k = k} h s) = inl (x, record { temp = t; kind = k }, refl, h, refl)
holder_of (object {n = n} h) = inr (n, refl, h)
holder_of (converted h) = holder_of h

placed_or_new : {p : Typed} {signs : ℕ → Signature} {kinds : List TacKind} {g : Scene} {k : TacKind} {e : Ex} {t : ℕ}
    {m n : Mark} {c : Code} → IsOperand p signs kinds g Nil k e t m n c → IsInPlace g Nil k e t ⊎ (t ≡ m.temps)
placed_or_new (operand_in_place h) = inl h
placed_or_new (operand_fresh h) = inr refl

-- a block that is entered keeps what stands
entered_homes : {g h : Scene} {ds : List Declared} {c : Code} → IsEntered g ds h c → h.home ≡ g.home
entered_homes nothing = refl
entered_homes (simple e h) = entered_homes h
entered_homes (whole s e h) = entered_homes h

entered_spots : {g h : Scene} {ds : List Declared} {c : Code} (n t : ℕ) → IsEntered g ds h c → g.spot n ≡ Some t →
    h.spot n ≡ Some t
entered_spots n t nothing s = s
entered_spots n t (simple e h) s = entered_spots n t h s
entered_spots {g = g} n t (whole {n = m} {t = u} scene same h) s = entered_spots n t h (by (n == m) refl)
  where
    by : (b : Bool) → (n == m) ≡ b → (if b then Some u else g.spot n) ≡ Some t
    by true e =
        let at : n ≡ m = grind (arith, nat_tests) in ap Some (sym (same t (subst (λ z. g.spot z ≡ Some t) at s)))
    by false e = s

-- the value is in a temp of the scene around the block
others_beside : {g h : Scene} (e : Ex) (t : ℕ) {es : List Declared} {c : Code} → IsScene h → IsEntered g es h c →
    Holder g e t → (ds : List Declared) → AreOthers (held_by e) ds → IsBeside h ds t
others_beside e t scene entered holder [] others = tt
others_beside {g = g} {h = h} e t scene entered holder (Simple x ∷ ds) others =
    (λ i home same. by holder i home same, others_beside e t scene entered holder ds others.1)
  where
    by : Holder g e t → (i : Home) → h.home x ≡ Some i → t ≡ i.temp → ⊥
    by (inl (y, j, held, there, is)) i home same =
        let at : h.home y ≡ Some j = ap (λ z. z y) (entered_homes entered) ∙ there in
        others.0 (held ∙ ap (λ z. Some (Simple z)) (scene.homes_differ y x j i at home (is ∙ same)))
    by (inr (n, held, there)) i home same =
        scene.apart x n t i home (entered_spots n t entered there) same
others_beside {g = g} {h = h} e t scene entered holder (Objects m ∷ ds) others =
    (λ u spot same. by holder u spot same, others_beside e t scene entered holder ds others.1)
  where
    by : Holder g e t → (u : ℕ) → h.spot m ≡ Some u → t ≡ u → ⊥
    by (inl (y, j, held, there, is)) u spot same =
        let at : h.home y ≡ Some j = ap (λ z. z y) (entered_homes entered) ∙ there in
        scene.apart y m u j at spot (sym same ∙ sym is)
    by (inr (n, held, there)) u spot same =
        others.0 (held ∙ ap (λ z. Some (Objects z))
        (scene.spots_differ n m t u (entered_spots n t entered there) spot same))

-- a new temp is beside all of them
module _ (s : Setting) {d : FunDef} {e : Emitter} (vars : s.vars ≡ d.vars) (housed : Housed s.program d s.homes e)
    (h : Scene) (sited : Sited s h) where
  new_home : (x : ℕ) (i : Home) → x < length d.vars → is_simple (slice_get s.vars x) ≡ true → h.home x ≡ Some i →
      i.temp < length e.kinds.items
  new_home x i there is_one at = by (slice_get s.homes x) refl
    where
      by : (o : Option places.Home) → slice_get s.homes x ≡ o → i.temp < length e.kinds.items
      by None none = no_home x housed there none
      by (Some (home.Temp t k)) is =
          let value = sited.suits.value x t k is in
          let same : Some i ≡ Some (record { temp = t; kind = k }) = sym at ∙ value.1 in
          let temp : i.temp ≡ t = ap (λ (z : Home). z.temp) (let q : i ≡ record { temp = t; kind = k } = cc in q) in
          let below = slice_get_within e.kinds.items t k (temp_at x t k housed is).there in omega (arith, temp, below)
      by (Some (home.Object n t)) is =
          absurd (let q : false ≡ true = sym (sited.suits.object x n t is).0 ∙ is_one in cc)

  new_spot : (n t : ℕ) → h.spot n ≡ Some t → t < length e.kinds.items
  new_spot n t at =
      let points = sited.spots n t at in
      slice_get_within e.kinds.items t (kind.Cap false) (pointer_at points.0 n t housed points.1).there

  new_beside : (xs : List ℕ) (t : ℕ) → AreVars (frame_of s.program d) xs → t ≡ length e.kinds.items →
      IsBeside h (declared_in s xs) t
  new_beside [] t there is = tt
  new_beside (x ∷ xs) t there is =
      by (is_simple (slice_get s.vars x)) refl (new_beside xs t (λ j k at. there (suc j) k at) is)
    where
      by : (b : Bool) → is_simple (slice_get s.vars x) ≡ b → IsBeside h (declared_in s xs) t →
          IsBeside h ((if b then Simple x else Objects (objects_before s.vars x)) ∷ declared_in s xs) t
      by true value rest = (
        λ i at same. (let l = new_home x i (there 0 x refl) value at in omega (arith, same, is, l)),
        rest,
      )
      by false other rest = (λ u at same. (let l = new_spot _ u at in omega (arith, same, is, l)), rest)

-- ---- statements among labels

module _ (r : Routine) (o : Ordered r.setting.program) (t : IsOrdered r.setting.program) where
  abbrev s : Setting
  s = r.setting

  abbrev p : Typed
  p = r.setting.program

  pub among_no : (ls : List Label) (label : ℕ) (x : Exits) (a : Emitter) → ShowsAmong r ls label x [] a a
  among_no ls label x a = record {
    code = λ q. q;
    added = record { is = λ q. refl };
    keeps = keeps_same a.kinds.items a.kinds.items refl;
    is = λ g kinds sited keeps i leads does js n d body. body;
  }

  pub among_more : {ls : List Label} {label : ℕ} {x : Exits} {ks js : List ℕ} {cs : List Case} (k : ℕ)
      {a b c e : Emitter} → js ≡ ks ++ k ∷ [] → ShowsAmong r ls label x ks a b → Wait ls label cs (length ks) →
      Emits b c 0 (standing (up_to (length ks) cs)) → ShowsStatement r k x c e → ShowsAmong r ls label x js a e
  among_more {ls = ls} {label = label} {x = x} {ks = ks} {cs = cs} k {a = a} {b = b} {c = c} {e = e} more so_far waits
      stand one =
      let n = length ks in
      let here = stood_here waits in
      subst (λ z. ShowsAmong r ls label x z a e) (sym more) (record {
        code = λ q. so_far.code (standing (up_to n cs) (one.code q));
        added = added_then so_far.added (added_then stand.added one.added);
        keeps = keeps_then a.kinds.items b.kinds.items e.kinds.items so_far.keeps
            (keeps_then b.kinds.items c.kinds.items e.kinds.items stand.keeps one.keeps);
        is = λ g kinds sited keeps i leads does zs m d body.
            let in_c = keeps_then c.kinds.items e.kinds.items kinds one.keeps keeps in
            let in_b = keeps_then b.kinds.items c.kinds.items kinds stand.keeps in_c in
            let both = all_both r o t i g (stmt s) ks k does in
            let first = one.is g kinds sited keeps i leads both.1 in
            let IsFrom : ℕ → List ℕ → Mark → Code → Type 0 = λ number ys l f. IsBody p (signatures p) kinds r.gives g x
            label ls number (statements (stmt s) ys) l m f in
            let rest : IsFrom (length ks + 1) zs (mark e) d =
            subst (λ z. IsFrom z zs (mark e) d) (length-append ks (k ∷ [])) body in
            let at : IsFrom (length ks) (k ∷ zs) (mark c) (λ q. stand_code label (length ks) ls (one.code (d q))) =
            among first rest in
            let from : IsFrom (length ks) (k ∷ zs) (mark b) (λ q. standing (up_to n cs) (one.code (d q))) =
            subst (λ z. IsFrom (length ks) (k ∷ zs) z (λ q. standing (up_to n cs) (one.code (d q))))
            (mark_same stand)
            (subst (λ z. IsFrom (length ks) (k ∷ zs) (mark c) (λ q. z (one.code (d q)))) (sym here) at) in
            let all = so_far.is g kinds sited in_b i leads both.0 (k ∷ zs) m
            (λ q. standing (up_to n cs) (one.code (d q))) from in
            subst (λ z. IsFrom 0 z (mark a) (λ q. so_far.code (standing (up_to n cs) (one.code (d q)))))
            (sym (one_behind ks k zs)) all;
      })
    where
      one_behind : (ks : List ℕ) (k : ℕ) (zs : List ℕ) → (ks ++ k ∷ []) ++ zs ≡ ks ++ k ∷ zs
      one_behind [] k zs = refl
      one_behind (j ∷ ks) k zs = ap (λ z. j ∷ z) (one_behind ks k zs)

  -- ---- a `switch` so far

  pub switch_begun : {on v end : ℕ} {xs : List ℕ} {ls : List Label} {x : Exits} {i j : TacKind} (cs : Cases)
      {a b c e f : Emitter} → i ≡ j → ShowsOperand s write.Nothing on v a b → ShowsEntered r xs b c →
      Labelled c e end → ShowsCases ls i v end cs e f → ShowsSwitch r on xs ls x j v end cs.cases.items [] a f
  switch_begun {v = v} {end = end} {ls = ls} {x = x} cs {b = b} {c = c} {e = e}
      {f = f} same operand entered label shown =
      record {
        valued = b;
        entry = c;
        made = e;
        compared = f;
        operand = operand;
        entered = entered;
        label = label;
        compares = subst (λ z. Compares ls z v end e f) same shown.compares;
        body = among_no ls e.labels (in_switch end x) f;
        waits = shown.waits;
      }

  pub switch_more : {on v end n : ℕ} {xs : List ℕ} {ls : List Label} {x : Exits} {j : TacKind} {cs : List Case}
      {first at : ℕ} {ks js : List ℕ} (k : ℕ) {a b c e : Emitter} → js ≡ ks ++ k ∷ [] → n ≡ length ks →
      ShowsSwitch r on xs ls x j v end (drop first cs) ks a b → StandAt cs first n at b c →
      ShowsStatement r k (in_switch end x) c e → ShowsSwitch r on xs ls x j v end (drop at cs) js a e
  switch_more {ls = ls} {cs = cs} {first = first} {at = at} {ks = ks} {js = js} k {b = b}
      {c = c} more count h stand one =
      let stood = subst (λ z. StandAt cs first z at b c) count stand in
      let long : length js ≡ length ks + 1 = ap length more ∙ length-append ks (k ∷ []) in
      record {
        valued = h.valued;
        entry = h.entry;
        made = h.made;
        compared = h.compared;
        operand = h.operand;
        entered = h.entered;
        label = h.label;
        compares = h.compares;
        body = among_more k more h.body h.waits stood.emits one;
        waits = subst (λ z. Wait ls h.made.labels (drop at cs) z) (sym long) (wait_past h.waits stood.left);
      }

  pub switch_same : {on v end : ℕ} {xs : List ℕ} {ls : List Label} {x : Exits} {j : TacKind} {cs : List Case}
      {ks js : List ℕ} {a b : Emitter} → ks ≡ js → ShowsSwitch r on xs ls x j v end cs ks a b →
      ShowsSwitch r on xs ls x j v end cs js a b
  switch_same {on = on} {v = v} {end = end} {xs = xs} {ls = ls} {x = x} {j = j} {cs = cs} {a = a} {b = b} e h =
      subst (λ z. ShowsSwitch r on xs ls x j v end cs z a b) e h

  -- ---- the whole

  -- all labels are numbered, and all statements are counted
  counted_statements : (t : ℕ → St) (ks : List ℕ) → count_statements (statements t ks) ≡ length ks
  counted_statements t [] = refl
  counted_statements t (k ∷ ks) = ap suc (counted_statements t ks)

  leads_in : {i : Inside} {x : Exits} (end : ℕ) → Leads i x → Leads (typed.in_switch i) (in_switch end x)
  leads_in end leads = record { breaks = λ h. (end, refl); continues = leads.continues }

  -- the code, by the temp of a label's value and the numbers of the first label and of the last
  abbrev switch_code : (a d e : Code) (k : TacKind) (v : ℕ) (ls : List Label) (t l end : ℕ) → Code
  switch_code a d e k v ls t l end q =
      a (d (cases_code k v t l ls (instr.Jump (otherwise l end ls) ∷ e (instr.Label end ∷ q))))

  pub states_switch : {k on : ℕ} {xs ks : List ℕ} {labels : List SwitchLabel} {x : Exits} {j : TacKind} {v end : ℕ}
      {cs : List Case} {d : FunDef} {a b c u : Emitter} → IsStmt p k (stmts.Switch on xs labels ks) →
      (scalar : HasScalar p on) → j ≡ scalar.kind → s.vars ≡ d.vars → Housed p d s.homes a →
      AreVars (frame_of p d) xs → ShowsSwitch r on xs (labels_as labels) x j v end cs ks a b →
      Emits b c 0 (standing cs) → Pushed c u (instr.Label end) → ShowsStatement r k x a u
  states_switch {on = on} {xs = xs} {ks = ks} {labels = labels} {x = x} {j = j} {v = v} {end = end} {cs = cs} {d = d}
      {a = a} {b = b} {c = c} {u = u} n scalar same vars housed there h stand label =
      let ls = labels_as labels in
      let m = mark h.valued in
      let made = h.made in
      let join = one_emits c u (instr.Label end) refl label in
      let first : Added h.entry made (λ q. q) = record { is = λ q. ap (λ z. z ++ q) h.label.code } in
      let in_made : Keeps a.kinds.items made.kinds.items =
      keeps_then a.kinds.items h.valued.kinds.items made.kinds.items h.operand.keeps
      (keeps_then h.valued.kinds.items h.entry.kinds.items made.kinds.items h.entered.keeps
      (keeps_same h.entry.kinds.items made.kinds.items h.label.kinds)) in
      let is = stmt_is r o t n ∙ ap (λ z. Switch n.node.pos z (tree s on) (declared_in s xs) ls
      (statements (stmt s) ks)) (kind_is s o t scalar.is) in
      let temps : length made.kinds.items ≡ m.temps = ap length h.label.kinds ∙ h.entered.temps in
      let number : made.labels ≡ m.labels + 1 = h.label.labels ∙ ap (λ z. z + 1) h.entered.labels in
      let last : end ≡ m.labels = h.label.label ∙ h.entered.labels in
      record {
        code = switch_code h.operand.code h.entered.code (λ q. h.body.code (standing cs q)) j v ls
            (length made.kinds.items) made.labels end;
        added = added_then h.operand.added (added_then h.entered.added (added_then first
            (added_then h.compares.added (added_then h.body.added (added_then stand.added join.added)))));
        keeps = keeps_then a.kinds.items made.kinds.items u.kinds.items in_made
            (keeps_then made.kinds.items h.compared.kinds.items u.kinds.items h.compares.keeps
            (keeps_then h.compared.kinds.items b.kinds.items u.kinds.items h.body.keeps
            (keeps_then b.kinds.items c.kinds.items u.kinds.items stand.keeps join.keeps)));
        is = λ g kinds sited keeps i leads does.
            let ds = declared_in s xs in
            let ss = statements (stmt s) ks in
            let parts : AreInner r ds × Values g (tree s on) × AreOthers (held_by (tree s on)) ds × IsOnce ls ×
            AreAmong ls (count_statements ss) × ((h : Scene) (c : Code) → IsEntered g ds h c →
            DoAll r (typed.in_switch i) h ss) = subst (λ z. Does r i g z) is does in
            let in_c = keeps_then c.kinds.items u.kinds.items kinds join.keeps keeps in
            let in_b = keeps_then b.kinds.items c.kinds.items kinds stand.keeps in_c in
            let in_compared = keeps_then h.compared.kinds.items b.kinds.items kinds h.body.keeps in_b in
            let in_entry = keeps_then h.entry.kinds.items h.compared.kinds.items kinds
            (keeps_then h.entry.kinds.items made.kinds.items h.compared.kinds.items
            (keeps_same h.entry.kinds.items made.kinds.items h.label.kinds) h.compares.keeps) in_compared in
            let in_valued = keeps_then h.valued.kinds.items h.entry.kinds.items kinds h.entered.keeps in_entry in
            let value = h.operand.is g kinds sited.suits in_valued Nil scalar.kind (cover_none write.Nothing) scalar.is
            parts.1 in
            let entry = h.entered.enters g sited parts.0 in
            let inner = entry.inner in
            let beside : IsBeside inner ds v =
            beside_by inner entry.sited entry.is (placed_or_new value) parts.2 in
            let among : AreAmong ls (length ks) = subst (λ z. AreAmong ls z) (counted_statements (stmt s) ks) parts.4 in
            let Body : ℕ → ℕ → Mark → Code → Type 0 = λ e l f w. IsBody p (signatures p) kinds r.gives inner
            (in_switch e x) l ls 0 ss f (mark b) w in
            let w : Code = λ q. h.body.code (stand_code made.labels (length ks) ls q) in
            let body = h.body.is inner kinds entry.sited in_b (typed.in_switch i) (leads_in end leads)
            (parts.5 inner h.entered.code entry.is) [] (mark b) (stand_code made.labels (length ks) ls) behind in
            let all : Body end made.labels (mark h.compared) w =
            subst (λ z. IsBody p (signatures p) kinds r.gives inner (in_switch end x) made.labels ls 0
            (statements (stmt s) z) (mark h.compared) (mark b) w) (append-nil ks) body in
            let stood : Body end made.labels (mark h.compared) (λ q. h.body.code (standing cs q)) =
            subst (λ z. Body end made.labels (mark h.compared) (λ q. h.body.code (z q)))
            (sym (stood_behind h.waits among)) all in
            let one = subst (λ z. Body z made.labels (mark h.compared) (λ q. h.body.code (standing cs q))) last stood in
            let two = subst (λ z. Body m.labels z (mark h.compared) (λ q. h.body.code (standing cs q))) number one in
            let three = subst (λ z. Body m.labels (m.labels + 1) z (λ q. h.body.code (standing cs q)))
            (compared_mark made h.compared m h.compares.temps h.compares.labels temps number) two in
            let answer : kind_at kinds (m.temps + 1) ≡ kind_of int_kind =
            ap (λ z. kind_at kinds (z + 1)) (sym temps)
            ∙ kind_in_end h.compared (length made.kinds.items + 1) int_kind h.compares.integer kinds in_compared in
            let rule = switched {q = n.node.pos} value entry.is beside answer parts.3 parts.4 three in
            let Now : TacKind → ℕ → ℕ → ℕ → Type 0 = λ i y l e. IsStatement p (signatures p) kinds r.gives g x
            (Switch n.node.pos (kind_of scalar.kind) (tree s on) ds ls ss) (mark a) (mark b)
            (switch_code h.operand.code h.entered.code (λ q. h.body.code (standing cs q)) i v ls y l e) in
            let now : Now scalar.kind m.temps (m.labels + 1) m.labels = rule in
            let kinded = subst (λ z. Now z m.temps (m.labels + 1) m.labels) (sym same) now in
            let by_temp = subst (λ z. Now j z (m.labels + 1) m.labels) (sym temps) kinded in
            let by_label = subst (λ z. Now j (length made.kinds.items) z m.labels) (sym number) by_temp in
            let by_last = subst (λ z. Now j (length made.kinds.items) made.labels z) (sym last) by_label in
            is_as r g kinds is (mark_same join ∙ mark_same stand) by_last;
      }
    where
      beside_by : {g : Scene} (h : Scene) {w : Code} → Sited s h → IsEntered g (declared_in s xs) h w →
          IsInPlace g Nil scalar.kind (tree s on) v ⊎ (v ≡ (mark a).temps) →
          AreOthers (held_by (tree s on)) (declared_in s xs) → IsBeside h (declared_in s xs) v
      beside_by h sited entered (inl held) others =
          others_beside (tree s on) v sited.scene entered (holder_of held) (declared_in s xs) others
      beside_by h sited entered (inr new) others = new_beside s vars housed h sited xs v there new

      compared_mark : (e f : Emitter) (m : Mark) → length f.kinds.items ≡ length e.kinds.items + 2 →
          f.labels ≡ e.labels + count_labels (labels_as labels) → length e.kinds.items ≡ m.temps →
          e.labels ≡ m.labels + 1 → mark f ≡ labelled (1 + count_labels (labels_as labels)) (more 2 m)
      compared_mark e f m temps labelled at from =
          let t : length f.kinds.items ≡ m.temps + 2 = omega (arith, temps, at) in
          let l : f.labels ≡ m.labels + (1 + count_labels (labels_as labels)) = omega (arith, labelled, from) in
          λ i. record { temps = t i; labels = l i }
