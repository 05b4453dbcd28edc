-- Code of statements: its labels are found in the function's code where it stands, and its jumps lead where code awaits
-- only what has been written.
use Rattle.std.proofs.Common.{◌≡◌, ◌≢◌, ℕ, ◌+◌, ◌<◌, ◌≤◌, List, [], ◌∷◌, Some}
use Rattle.std.proofs.Common.{refl, subst, sym, arith, ◌∙◌}
use Rattle.cheri_c_sem.specs.Tree.{Declared}
use Rattle.tac_ir.specs.Temps.{behind}
use Rattle.tac_ir.specs.declared.code.TacInstr.{TacInstr}
use Rattle.tac_ir.specs.declared.code.TacInstr.TheVariants as instr
use Rattle.lower_runs.specs.Operating.{Code}
use Rattle.lower_runs.specs.Expressions.{Mark, labelled, choice_code, guarded_code}
use Rattle.lower_runs.specs.Statements.{Exits}
use Rattle.lower_runs.specs.Simulation.{IsPiece}
use Rattle.lower_runs.specs.States.{Scene}
use Rattle.lower_runs.proofs.Labels.{both_own, choice_own, guarded_own, to_other, to_end}
use Rattle.lower_runs.proofs.Labels.{pass_label, found_label}
use Rattle.lower_writes.proofs.Waiting.{Have, Only, only_more, step_jump, step_label}
use Rattle.lower_writes.proofs.Pieces.{Covers, Passes, Branches, second_way}

module _ (params : ℕ) (whole : List TacInstr) where
  -- labels of a part are found where it is, and not behind it
  pub record Stands (m n : Mark) (here rest : List TacInstr) : Type 0 where
    pub found : (q : ℕ) → m.labels ≤ q → q < n.labels → behind q whole ≡ behind q here
    pub past : (q : ℕ) → m.labels ≤ q → q < n.labels → behind q rest ≡ []

  -- `break` and `continue` lead to labels below a mark
  pub record Leads (often : ℕ) (ws : List ℕ) (x : Exits) (m : Mark) (rest : List TacInstr) : Type 0 where
    pub breaks : (l : ℕ) → x.breaks ≡ Some l → (l < m.labels) × Only params whole often ws (behind l rest)
    pub continues : (l : ℕ) → x.continues ≡ Some l → (l < m.labels) × Only params whole often ws (behind l rest)

  -- the code of a statement, where these variables are declared
  pub record Part (g : Scene) (ds : List Declared) (x : Exits) (m n : Mark) (c : Code) : Type 0 where
    pub piece : IsPiece m n c
    pub only : (often : ℕ) (ws : List ℕ) (r : List TacInstr) → Covers params g ds ws → Stands m n (c r) r →
        Leads often ws x m r → Only params whole often ws r → Only params whole often ws (c r)

  pub leads_past : (often : ℕ) (ws : List ℕ) (x : Exits) (m n : Mark) (r s : List TacInstr) → m.labels ≤ n.labels
      → ((q : ℕ) → q < m.labels → behind q s ≡ behind q r) → Leads often ws x m r → Leads often ws x n s
  leads_past often ws x m n r s le same h = record {
    breaks = λ l e. let b = h.breaks l e in let lt = b.0 in
        (omega arith, subst (Only params whole often ws) (sym (same l lt)) b.1);
    continues = λ l e. let b = h.continues l e in let lt = b.0 in
        (omega arith, subst (Only params whole often ws) (sym (same l lt)) b.1);
  }

  pub leads_more : (often : ℕ) (vs ws : List ℕ) (x : Exits) (m : Mark) (r : List TacInstr) →
      ((t : ℕ) → Have params vs t → Have params ws t) → Leads often vs x m r → Leads often ws x m r
  leads_more often vs ws x m r has h = record {
    breaks = λ l e. let b = h.breaks l e in (b.0, only_more params whole often vs ws (behind l r) has b.1);
    continues = λ l e. let b = h.continues l e in (b.0, only_more params whole often vs ws (behind l r) has b.1);
  }

  pub stands_in : (m n j k : Mark) (here rest there after : List TacInstr) → m.labels ≤ j.labels → k.labels ≤ n.labels
      → ((q : ℕ) → j.labels ≤ q → q < k.labels → behind q here ≡ behind q there)
      → ((q : ℕ) → j.labels ≤ q → q < k.labels → behind q after ≡ behind q rest)
      → Stands m n here rest → Stands j k there after
  stands_in m n j k here rest there after low high in_front ahead h = record {
    found = λ q le lt. h.found q (omega arith) (omega arith) ∙ in_front q le lt;
    past = λ q le lt. ahead q le lt ∙ h.past q (omega arith) (omega arith);
  }

  module _ (g : Scene) (ds : List Declared) where
    pub of_expression : (x : Exits) (m n : Mark) (c : Code) →
        ((often : ℕ) → Passes params whole often g ds [] [] m n c) → Part g ds x m n c
    of_expression x m n c h = record {
      piece = (h 0).piece;
      only = λ often ws r k st leads next. (h often).only ws r k tt next;
    }

    pub sequence : (x : Exits) (l m n : Mark) (c d : Code) → Part g ds x l m c → Part g ds x m n d →
        Part g ds x l n (λ r. c (d r))
    sequence x l m n c d a b = record {
      piece = both_own l m n c d a.piece b.piece;
      only = λ often ws r k st leads next.
          let low : l.labels ≤ m.labels = a.piece.labels in
          let high : m.labels ≤ n.labels = b.piece.labels in
          a.only often ws (d r) k
          (stands_in l n l m (c (d r)) r (c (d r)) (d r) (omega arith) high (λ q le lt. refl)
          (λ q le lt. b.piece.own q r (λ u. absurd (omega arith))) st)
          (leads_past often ws x l l r (d r) (omega arith) (λ q lt. b.piece.own q r (λ u. absurd (omega arith))) leads)
          (b.only often ws r k
          (stands_in l n m n (c (d r)) r (d r) r low (omega arith)
          (λ q le lt. a.piece.own q (d r) (λ u. le)) (λ q le lt. refl) st)
          (leads_past often ws x l m r r low (λ q lt. refl) leads) next);
    }

    -- ---- choices

    pub part_choice : (x : Exits) (l m n o : Mark) (c d f : Code) →
        ((often : ℕ) → Branches params whole often g ds l.labels (labelled 2 l) m c) → Part g ds x m n d →
        Part g ds x n o f → Part g ds x l o (choice_code l.labels c d f)
    part_choice x l m n o c d f a b e = record {
      piece = choice_own l m n o c d f (a 0).piece b.piece e.piece;
      only = λ often ws r k st leads next.
          let low : l.labels + 2 ≤ m.labels = (a 0).piece.labels in
          let mid : m.labels ≤ n.labels = b.piece.labels in
          let high : n.labels ≤ o.labels = e.piece.labels in
          let past_second : (q : ℕ) → (n.labels ≤ q → o.labels ≤ q) → q ≢ l.labels → q ≢ l.labels + 1
          → behind q (instr.Label l.labels ∷ f (instr.Label (l.labels + 1) ∷ r)) ≡ behind q r =
          λ q own ne nf. pass_label l.labels q (f (instr.Label (l.labels + 1) ∷ r)) (λ u. ne (sym u))
          ∙ e.piece.own q (instr.Label (l.labels + 1) ∷ r) own ∙ pass_label (l.labels + 1) q r (λ u. nf (sym u)) in
          let other : Only params whole often ws (f (instr.Label (l.labels + 1) ∷ r)) =
          e.only often ws (instr.Label (l.labels + 1) ∷ r) k
          (stands_in l o n o (choice_code l.labels c d f r) r (f (instr.Label (l.labels + 1) ∷ r))
          (instr.Label (l.labels + 1) ∷ r) (omega arith) (omega arith)
          (λ q le lt. (a 0).piece.own q (d (second_way l.labels f r)) (λ u. omega arith)
          ∙ b.piece.own q (second_way l.labels f r) (λ u. le)
          ∙ pass_label l.labels q (f (instr.Label (l.labels + 1) ∷ r)) (λ u. absurd (omega arith)))
          (λ q le lt. pass_label (l.labels + 1) q r (λ u. absurd (omega arith))) st)
          (leads_past often ws x l n r (instr.Label (l.labels + 1) ∷ r) (omega arith)
          (λ q lt. pass_label (l.labels + 1) q r (λ u. absurd (omega arith))) leads)
          (step_label params whole often ws (l.labels + 1) r next) in
          (a often).only ws (d (second_way l.labels f r)) k
          (b.only often ws (second_way l.labels f r) k
          (stands_in l o m n (choice_code l.labels c d f r) r (d (second_way l.labels f r)) (second_way l.labels f r)
          (omega arith) high (λ q le lt. (a 0).piece.own q (d (second_way l.labels f r)) (λ u. le))
          (λ q le lt. past_second q (λ u. absurd (omega arith)) (λ u. absurd (omega arith))
          (λ u. absurd (omega arith))) st)
          (leads_past often ws x l m r (second_way l.labels f r) (omega arith)
          (λ q lt. past_second q (λ u. absurd (omega arith)) (λ u. absurd (omega arith))
          (λ u. absurd (omega arith))) leads)
          (step_jump params whole often ws (l.labels + 1)
          (instr.Label l.labels ∷ f (instr.Label (l.labels + 1) ∷ r))
          (subst (Only params whole often ws) (sym (to_end l n o f r (omega arith) e.piece)) next)))
          (subst (Only params whole often ws) (sym (to_other l m n o d f r low b.piece)) other);
    }

    pub part_guarded : (x : Exits) (l m n : Mark) (c d : Code) →
        ((often : ℕ) → Branches params whole often g ds l.labels (labelled 1 l) m c) → Part g ds x m n d →
        Part g ds x l n (guarded_code l.labels c d)
    part_guarded x l m n c d a b = record {
      piece = guarded_own l m n c d (a 0).piece b.piece;
      only = λ often ws r k st leads next.
          let low : l.labels + 1 ≤ m.labels = (a 0).piece.labels in
          let high : m.labels ≤ n.labels = b.piece.labels in
          (a often).only ws (d (instr.Label l.labels ∷ r)) k
          (b.only often ws (instr.Label l.labels ∷ r) k
          (stands_in l n m n (guarded_code l.labels c d r) r (d (instr.Label l.labels ∷ r)) (instr.Label l.labels ∷ r)
          (omega arith) (omega arith) (λ q le lt. (a 0).piece.own q (d (instr.Label l.labels ∷ r)) (λ u. le))
          (λ q le lt. pass_label l.labels q r (λ u. absurd (omega arith))) st)
          (leads_past often ws x l m r (instr.Label l.labels ∷ r) (omega arith)
          (λ q lt. pass_label l.labels q r (λ u. absurd (omega arith))) leads)
          (step_label params whole often ws l.labels r next))
          (subst (Only params whole often ws)
          (sym (b.piece.own l.labels (instr.Label l.labels ∷ r) (λ u. absurd (omega arith)) ∙ found_label l.labels r))
          next);
    }
