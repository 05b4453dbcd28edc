-- The code of a `switch`: comparisons, which jump to the labels among its statements.
use Rattle.std.proofs.Common.{◌≡◌, ℕ, ◌+◌, ◌<◌, ◌≤◌, Bool, true, false, List, [], ◌∷◌}
use Rattle.std.proofs.Common.{◌⊎◌, inl, inr, refl, subst, sym, arith, ◌∙◌}
use Rattle.std.specs.Prelude.{◌==◌, if◌then◌else◌}
use Rattle.std.proofs.lemmas.Option.{same_Some}
use Rattle.ck_int.specs.declared.kinds.CmpOp.TheVariants.{Eq}
use Rattle.cheri_c_sem.specs.Tree.{Declared, Label, Case, Default}
use Rattle.tac_ir.specs.Temps.{behind}
use Rattle.tac_ir.specs.declared.code.TacInstr.{TacInstr}
use Rattle.tac_ir.specs.declared.code.TacInstr.TheVariants as instr
use Rattle.tac_ir.specs.declared.code.TacKind.{TacKind}
use Rattle.lower_runs.specs.Operating.{Code}
use Rattle.lower_runs.specs.Expressions.{Mark, more, labelled}
use Rattle.lower_runs.specs.Statements.{Exits, IsEntered, in_switch, cases_code, kept_number, otherwise, stand_code}
use Rattle.lower_runs.specs.Statements.{stands_before, count_labels}
use Rattle.lower_runs.specs.States.{Scene}
use Rattle.lower_runs.proofs.Cases.{cases_own}
use Rattle.lower_runs.proofs.Labels.{pass_label, found_label}
use Rattle.lower_writes.specs.Naming.{within_block}
use Rattle.lower_writes.proofs.Waiting.{Have, Only, only_more, only_nothing, step, step_branch, step_jump, step_label}
use Rattle.lower_writes.proofs.Waiting.{past_label}
use Rattle.lower_writes.proofs.Pieces.{Covers, Passes, covers_more}
use Rattle.lower_writes.proofs.Parts.{Part, Stands, Leads, stands_in, leads_past}
use Rattle.lower_writes.proofs.Blocks.{entered, entered_plain}

-- ---- labels before a statement

-- other labels are looked for behind them
stand_own : (label number : ℕ) (ls : List Label) (q : ℕ) (rest : List TacInstr) →
    (label ≤ q → label + count_labels ls ≤ q) → behind q (stand_code label number ls rest) ≡ behind q rest
stand_own label number [] q rest h = refl
stand_own label number (x ∷ ls) q rest h =
    by (stands_before x == number)
    (stand_own (label + 1) number ls q rest (λ le. let u = h (omega arith) in omega arith))
  where
    by : (b : Bool) → behind q (stand_code (label + 1) number ls rest) ≡ behind q rest →
        behind q (if b then instr.Label label ∷ stand_code (label + 1) number ls rest
        else stand_code (label + 1) number ls rest) ≡ behind q rest
    by true next = pass_label label q (stand_code (label + 1) number ls rest)
        (λ e. let u = h (omega arith) in absurd (omega arith)) ∙ next
    by false next = next

otherwise_within : (label end : ℕ) (ls : List Label) (low : ℕ) → low ≤ end → low ≤ label →
    end < label + count_labels ls + 1
    → end < label → (low ≤ otherwise label end ls) × (otherwise label end ls < label + count_labels ls)
    ⊎ (otherwise label end ls ≡ end)
otherwise_within label end [] low a b c d = inr refl
otherwise_within label end (Case n before ∷ ls) low a b c d =
    by (otherwise_within (label + 1) end ls low a (omega arith) (omega arith) (omega arith))
  where
    by : (low ≤ otherwise (label + 1) end ls) × (otherwise (label + 1) end ls < label + 1 + count_labels ls)
        ⊎ (otherwise (label + 1) end ls ≡ end)
        → (low ≤ otherwise (label + 1) end ls) × (otherwise (label + 1) end ls < label + count_labels
        (Case n before ∷ ls))
        ⊎ (otherwise (label + 1) end ls ≡ end)
    by (inl (g, lt)) = inl (g, (omega arith))
    by (inr e) = inr e
otherwise_within label end (Default before ∷ ls) low a b c d =
    by (otherwise_within (label + 1) label ls low b (omega arith) (omega arith) (omega arith))
  where
    by : (low ≤ otherwise (label + 1) label ls) × (otherwise (label + 1) label ls < label + 1 + count_labels ls)
        ⊎ (otherwise (label + 1) label ls ≡ label)
        → (low ≤ otherwise (label + 1) label ls)
        × (otherwise (label + 1) label ls < label + count_labels (Default before ∷ ls))
        ⊎ (otherwise (label + 1) label ls ≡ end)
    by (inl (g, lt)) = inl (g, (omega arith))
    by (inr e) = inl (omega arith, omega arith)

module _ (params : ℕ) (whole : List TacInstr) where
  stand_passes : (often : ℕ) (ws : List ℕ) (label number : ℕ) (ls : List Label) (rest : List TacInstr) →
      Only params whole often ws rest → Only params whole often ws (stand_code label number ls rest)
  stand_passes often ws label number [] rest h = h
  stand_passes often ws label number (x ∷ ls) rest h =
      by (stands_before x == number) (stand_passes often ws (label + 1) number ls rest h)
    where
      by : (b : Bool) → Only params whole often ws (stand_code (label + 1) number ls rest) →
          Only params whole often ws (if b then instr.Label label ∷ stand_code (label + 1) number ls rest
          else stand_code (label + 1) number ls rest)
      by true g = step_label params whole often ws label (stand_code (label + 1) number ls rest) g
      by false g = g

  -- one of them, or one behind them
  stand_jump : (often : ℕ) (ws : List ℕ) (label number : ℕ) (ls : List Label) (q : ℕ) (rest : List TacInstr) →
      Only params whole often ws rest → Only params whole often ws (behind q rest) →
      Only params whole often ws (behind q (stand_code label number ls rest))
  stand_jump often ws label number [] q rest h g = g
  stand_jump often ws label number (x ∷ ls) q rest h g =
      by (stands_before x == number) (stand_jump often ws (label + 1) number ls q rest h g)
    where
      by : (b : Bool) → Only params whole often ws (behind q (stand_code (label + 1) number ls rest)) →
          Only params whole often ws (behind q (if b then instr.Label label ∷ stand_code (label + 1) number ls rest
          else stand_code (label + 1) number ls rest))
      by true f = past_label params whole often ws label q (stand_code (label + 1) number ls rest)
          (stand_passes often ws (label + 1) number ls rest h) f
      by false f = f

  -- ---- the statements

  -- a mark with this label
  abbrev at_label : ℕ → Mark → Mark
  at_label label m = record m { labels = label }

  -- the statements of a `switch` whose labels, of which there are so many, have their numbers from one on
  pub record BodyPart (g : Scene) (ds : List Declared) (x : Exits) (label count : ℕ) (m n : Mark) (c : Code) :
      Type 0 where
    pub temps : m.temps ≤ n.temps
    pub labels : m.labels ≤ n.labels
    pub own : (q : ℕ) (r : List TacInstr) → (label ≤ q → label + count ≤ q) → (m.labels ≤ q → n.labels ≤ q) →
        behind q (c r) ≡ behind q r
    pub only : (often : ℕ) (ws : List ℕ) (r : List TacInstr) → Covers params g ds ws →
        Stands params whole m n (c r) r → Leads params whole often ws x (at_label label m) r →
        Only params whole often ws r → Only params whole often ws (c r)
    pub jumps : (often : ℕ) (ws : List ℕ) (r : List TacInstr) → Covers params g ds ws →
        Stands params whole m n (c r) r → Leads params whole often ws x (at_label label m) r →
        Only params whole often ws r → (q : ℕ) → q < m.labels → Only params whole often ws (behind q r) →
        Only params whole often ws (behind q (c r))

  module _ (g : Scene) (ds : List Declared) (x : Exits) (label : ℕ) (ls : List Label) where
    pub body_end : (number : ℕ) (m : Mark) →
        BodyPart g ds x label (count_labels ls) m m (stand_code label number ls)
    body_end number m = record {
      temps = omega arith;
      labels = omega arith;
      own = λ q r h i. stand_own label number ls q r h;
      only = λ often ws r k st leads next. stand_passes often ws label number ls r next;
      jumps = λ often ws r k st leads next q lt over. stand_jump often ws label number ls q r next over;
    }

    pub body_more : (number : ℕ) (l m n : Mark) (c d : Code) → label + count_labels ls ≤ l.labels →
        Part params whole g ds x l m c → BodyPart g ds x label (count_labels ls) m n d →
        BodyPart g ds x label (count_labels ls) l n (λ r. stand_code label number ls (c (d r)))
    body_more number l m n c d room a b = record {
      temps = let u = a.piece.temps in let v = b.temps in omega arith;
      labels = let u = a.piece.labels in let v = b.labels in omega arith;
      own = λ q r h i.
          let u = a.piece.labels in let v = b.labels in
          stand_own label number ls q (c (d r)) h ∙ a.piece.own q (d r) (λ le. let w = i (omega arith) in omega arith)
          ∙ b.own q r h (λ le. i (omega arith));
      only = λ often ws r k st leads next.
          stand_passes often ws label number ls (c (d r)) (here often ws r k st leads next);
      jumps = λ often ws r k st leads next q lt over.
          let u = a.piece.labels in
          stand_jump often ws label number ls q (c (d r)) (here often ws r k st leads next)
          (subst (Only params whole often ws) (sym (a.piece.own q (d r) (λ le. absurd (omega arith))))
          (b.jumps often ws r k (inner r st) (same_leads often ws r leads) next q (omega arith) over));
    }
      where
        inner : (r : List TacInstr) → Stands params whole l n (stand_code label number ls (c (d r))) r →
            Stands params whole m n (d r) r
        inner r st = let u = a.piece.labels in
            stands_in params whole l n m n (stand_code label number ls (c (d r))) r (d r) r u (omega arith)
            (λ q le lt. stand_own label number ls q (c (d r)) (λ f. omega arith) ∙ a.piece.own q (d r) (λ f. le))
            (λ q le lt. refl) st

        same_leads : (often : ℕ) (ws : List ℕ) (r : List TacInstr) →
            Leads params whole often ws x (at_label label l) r → Leads params whole often ws x (at_label label m) r
        same_leads often ws r leads =
            leads_past params whole often ws x (at_label label l) (at_label label m) r r (omega arith)
            (λ q lt. refl) leads

        here : (often : ℕ) (ws : List ℕ) (r : List TacInstr) → Covers params g ds ws →
            Stands params whole l n (stand_code label number ls (c (d r))) r →
            Leads params whole often ws x (at_label label l) r → Only params whole often ws r →
            Only params whole often ws (c (d r))
        here often ws r k st leads next =
            let u : l.labels ≤ m.labels = a.piece.labels in let v : m.labels ≤ n.labels = b.labels in
            a.only often ws (d r) k
            (stands_in params whole l n l m (stand_code label number ls (c (d r))) r (c (d r)) (d r) (omega arith) v
            (λ q le lt. stand_own label number ls q (c (d r)) (λ f. omega arith))
            (λ q le lt. b.own q r (λ f. omega arith) (λ f. absurd (omega arith))) st)
            (leads_past params whole often ws x (at_label label l) l r (d r) (omega arith)
            (λ q lt. b.own q r (λ f. absurd (omega arith)) (λ f. absurd (omega arith))) leads)
            (b.only often ws r k (inner r st) (same_leads often ws r leads) next)

  -- ---- comparisons

  cases : (often : ℕ) (ws : List ℕ) (k : TacKind) (at v label : ℕ) (ls : List Label) (rest : List TacInstr) →
      Have params ws at → Only params whole often ws rest
      → ((q : ℕ) → label ≤ q → q < label + count_labels ls → Only params whole often ws (behind q rest)) →
      Only params whole often ws (cases_code k at v label ls rest)
  cases often ws k at v label [] rest has next each = next
  cases often ws k at v label (Case n before ∷ ls) rest has next each =
      let others = cases often ws k at v (label + 1) ls rest has next
      (λ q le lt. each q (omega arith) (omega arith)) in
      let grown : (t : ℕ) → Have params ws t → Have params ((v + 1) ∷ v ∷ ws) t = λ t h. inr (inr h) in
      step params whole often ws (instr.Const v k (kept_number k n))
      (instr.Cmp Eq k (v + 1) at v ∷ instr.Branch (v + 1) true label ∷ cases_code k at v (label + 1) ls rest) tt tt
      (step params whole often (v ∷ ws) (instr.Cmp Eq k (v + 1) at v)
      (instr.Branch (v + 1) true label ∷ cases_code k at v (label + 1) ls rest) tt (inr has, (inl refl, tt))
      (step_branch params whole often ((v + 1) ∷ v ∷ ws) (v + 1) true label (cases_code k at v (label + 1) ls rest)
      (inl refl) (only_more params whole often ws ((v + 1) ∷ v ∷ ws) (cases_code k at v
      (label + 1) ls rest) grown others)
      (only_more params whole often ws ((v + 1) ∷ v ∷ ws) (behind label (cases_code k at v (label + 1) ls rest)) grown
      (subst (Only params whole often ws) (sym (cases_own k at v (label + 1) ls label rest))
      (each label (omega arith) (omega arith))))))
  cases often ws k at v label (Default before ∷ ls) rest has next each =
      cases often ws k at v (label + 1) ls rest has next (λ q le lt. each q (omega arith) (omega arith))

  -- ---- a whole `switch`

  abbrev switch_tail : TacKind → (v : ℕ) → Mark → List Label → Code → Code
  switch_tail j v m ls d r = cases_code j v m.temps (m.labels + 1) ls
      (instr.Jump (otherwise (m.labels + 1) m.labels ls) ∷ d (instr.Label m.labels ∷ r))

  pub part_switch : (g h : Scene) (ds es : List Declared) (x : Exits) (j : TacKind) (v : ℕ) (ls : List Label)
      (l m n : Mark) (c a d : Code) → ((often : ℕ) → Passes params whole often g ds [] (v ∷ []) l m c) →
      IsEntered g es h a →
      BodyPart h (within_block es ds) (in_switch m.labels x) (m.labels + 1) (count_labels ls)
      (labelled (1 + count_labels ls) (more 2 m)) n d
      → Part params whole g ds x l n (λ r. c (a (switch_tail j v m ls d r)))
  part_switch g h ds es x j v ls l m n c a d operand e b = record {
    piece = record {
      temps = let u = (operand 0).piece.temps in let w = b.temps in omega arith;
      labels = let u = (operand 0).piece.labels in let w = b.labels in omega arith;
      own = λ q r own.
          let u = (operand 0).piece.labels in let w = b.labels in
          (operand 0).piece.own q (a (switch_tail j v m ls d r)) (λ le. let z = own (omega arith) in omega arith)
          ∙ to_body q r
          ∙ b.own q (instr.Label m.labels ∷ r) (λ le. let z = own (omega arith) in omega arith)
          (λ le. own (omega arith))
          ∙ pass_label m.labels q r (λ f. let z = own (omega arith) in omega arith);
    };
    only = λ often ws r k st leads next.
        let low : l.labels ≤ m.labels = (operand 0).piece.labels in
        let high : m.labels + (1 + count_labels ls) ≤ n.labels = b.labels in
        let k2 : Covers params g ds (v ∷ ws) = covers_more params g ds ws (v ∷ ws) (λ t f. inr f) k in
        let w = entered params whole ds (v ∷ ws) e k2 in
        let grown : (t : ℕ) → Have params ws t → Have params w.now t = λ t f. w.more t (inr f) in
        let after : Only params whole often w.now r = only_more params whole often ws w.now r grown next in
        let st2 : Stands params whole (labelled (1 + count_labels ls) (more 2 m)) n (d (instr.Label m.labels ∷ r))
        (instr.Label m.labels ∷ r) =
        stands_in params whole l n (labelled (1 + count_labels ls) (more 2 m)) n (c (a (switch_tail j v m ls d r))) r
        (d (instr.Label m.labels ∷ r)) (instr.Label m.labels ∷ r) (omega arith) (omega arith)
        (λ q le lt. (operand 0).piece.own q (a (switch_tail j v m ls d r)) (λ f. omega arith) ∙ to_body q r)
        (λ q le lt. pass_label m.labels q r (λ f. absurd (omega arith))) st in
        let out : Leads params whole often w.now (in_switch m.labels x)
        (at_label (m.labels + 1) (labelled (1 + count_labels ls) (more 2 m))) (instr.Label m.labels ∷ r) =
        record {
          breaks = λ i eq. let same : m.labels ≡ i = same_Some m.labels i eq in (
            omega arith,
            subst (λ z. Only params whole often w.now (behind z (instr.Label m.labels ∷ r))) same
                (subst (Only params whole often w.now) (sym (found_label m.labels r)) after),
          );
          continues = λ i eq. let f = leads.continues i eq in let lt : i < l.labels = f.0 in (
            omega arith,
            subst (Only params whole often w.now) (sym (pass_label m.labels i r (λ u. absurd (omega arith))))
                (only_more params whole often ws w.now (behind i r) grown f.1),
          );
        } in
        let here : Only params whole often w.now (instr.Label m.labels ∷ r) =
        step_label params whole often w.now m.labels r after in
        let each : (q : ℕ) → m.labels ≤ q → q < m.labels + (1 + count_labels ls) →
        Only params whole often w.now (behind q (d (instr.Label m.labels ∷ r))) =
        λ q le lt. b.jumps often w.now (instr.Label m.labels ∷ r) w.covers st2 out here q lt
        (past_label params whole often w.now m.labels q r after
        (subst (Only params whole often w.now) (sym (st.past q (omega arith) (omega arith)))
        (only_nothing params whole often w.now))) in
        (operand often).only ws (a (switch_tail j v m ls d r)) k tt
        (w.only often (switch_tail j v m ls d r)
        (cases often w.now j v m.temps (m.labels + 1) ls
        (instr.Jump (otherwise (m.labels + 1) m.labels ls) ∷ d (instr.Label m.labels ∷ r)) (w.more v (inl refl))
        (step_jump params whole often w.now (otherwise (m.labels + 1) m.labels ls) (d (instr.Label m.labels ∷ r))
        (chosen (λ q. Only params whole often w.now (behind q (d (instr.Label m.labels ∷ r)))) each))
        (λ q le lt. each q (omega arith) (omega arith))));
  }
    where
      to_body : (q : ℕ) (r : List TacInstr) →
          behind q (a (switch_tail j v m ls d r)) ≡ behind q (d (instr.Label m.labels ∷ r))
      to_body q r = entered_plain params whole e q (switch_tail j v m ls d r)
          ∙ cases_own j v m.temps (m.labels + 1) ls q
          (instr.Jump (otherwise (m.labels + 1) m.labels ls) ∷ d (instr.Label m.labels ∷ r))

      chosen : (P : ℕ → Type 0) → ((q : ℕ) → m.labels ≤ q → q < m.labels + (1 + count_labels ls) → P q) →
          P (otherwise (m.labels + 1) m.labels ls)
      chosen P each = by (otherwise_within (m.labels + 1) m.labels ls m.labels (omega arith) (omega arith) (omega arith)
          (omega arith))
        where
          by : (m.labels ≤ otherwise (m.labels + 1) m.labels ls)
              × (otherwise (m.labels + 1) m.labels ls < m.labels + 1 + count_labels ls)
              ⊎ (otherwise (m.labels + 1) m.labels ls ≡ m.labels) → P (otherwise (m.labels + 1) m.labels ls)
          by (inl (le, lt)) = each (otherwise (m.labels + 1) m.labels ls) le (omega arith)
          by (inr f) = each (otherwise (m.labels + 1) m.labels ls) (omega arith) (omega arith)
