-- Code of parts of a function: what it has at its front, and what it leaves written behind it.
use Rattle.std.proofs.Common.{◌≡◌, ℕ, ◌+◌, ◌<◌, ◌≤◌, Bool, true, false, List, [], ◌∷◌, Some}
use Rattle.std.proofs.Common.{inl, inr, refl, subst, sym, arith, ◌∙◌}
use Rattle.cheri_c_sem.specs.Tree.{Declared, Simple, Objects}
use Rattle.tac_ir.specs.Temps.{behind}
use Rattle.tac_ir.specs.declared.code.TacInstr.{TacInstr}
use Rattle.tac_ir.specs.declared.code.TacInstr.TheVariants as instr
use Rattle.lower_runs.specs.Operating.{Code}
use Rattle.lower_runs.specs.Expressions.{Mark, int_kind, more, labelled, choice_code, guarded_code, jump_if}
use Rattle.lower_runs.specs.Simulation.{IsPiece}
use Rattle.lower_runs.specs.States.{Home, Scene}
use Rattle.lower_runs.proofs.Labels.{nothing_own, both_own, then_own, choice_own, guarded_own, to_other, to_end}
use Rattle.lower_runs.proofs.Labels.{pass_label, found_label}
use Rattle.lower_writes.specs.Naming.{IsDeclared}
use Rattle.lower_writes.proofs.Waiting.{Have, HaveAll, joined, joined_more, joined_has, joined_least, Only}
use Rattle.lower_writes.proofs.Waiting.{only_more, step, step_jump, step_branch, step_label, past_label}
use Rattle.lower_writes.proofs.Straight.{IsStraight}

-- the homes of variables that are declared have been written, and the pointers to objects
pub record Covers (params : ℕ) (g : Scene) (ds : List Declared) (ws : List ℕ) : Type 0 where
  pub home : (x : ℕ) (h : Home) → IsDeclared ds (Simple x) → g.home x ≡ Some h → Have params ws h.temp
  pub spot : (o t : ℕ) → IsDeclared ds (Objects o) → g.spot o ≡ Some t → Have params ws t

pub covers_more : (params : ℕ) (g : Scene) (ds : List Declared) (vs ws : List ℕ) →
    ((t : ℕ) → Have params vs t → Have params ws t) → Covers params g ds vs → Covers params g ds ws
covers_more params g ds vs ws more h = record {
  home = λ x i d e. more i.temp (h.home x i d e);
  spot = λ o t d e. more t (h.spot o t d e);
}

-- a jump over the second way of a choice
abbrev pub second_way : ℕ → Code → Code
second_way l f r = instr.Jump (l + 1) ∷ instr.Label l ∷ f (instr.Label (l + 1) ∷ r)

abbrev after_one : (to : ℕ) → Mark → List TacInstr → List TacInstr
after_one to m r = instr.Jump (m.labels + 1) ∷ instr.Label m.labels ∷ instr.Const to int_kind 0
    ∷ instr.Label (m.labels + 1) ∷ r

module _ (params : ℕ) (whole : List TacInstr) (often : ℕ) (g : Scene) (ds : List Declared) where
  abbrev Awaits_only : List ℕ → List TacInstr → Type 0
  Awaits_only = Only params whole often

  -- where some temps have been written, code writes others
  pub record Passes (ins outs : List ℕ) (m n : Mark) (c : Code) : Type 0 where
    pub piece : IsPiece m n c
    pub only : (ws : List ℕ) (r : List TacInstr) → Covers params g ds ws → HaveAll params ws ins →
        Awaits_only (joined params outs ws) r → Awaits_only ws (c r)

  -- code goes on, or to a label
  pub record Branches (label : ℕ) (m n : Mark) (c : Code) : Type 0 where
    pub piece : IsPiece m n c
    pub only : (ws : List ℕ) (r : List TacInstr) → Covers params g ds ws → Awaits_only ws r →
        Awaits_only ws (behind label r) → Awaits_only ws (c r)

module _ {params : ℕ} {whole : List TacInstr} {often : ℕ} {g : Scene} {ds : List Declared} where
  pub no_code : (outs : List ℕ) (m : Mark) →
      ((ws : List ℕ) → Covers params g ds ws → HaveAll params ws outs) →
      Passes params whole often g ds [] outs m m (λ r. r)
  no_code outs m has = record {
    piece = nothing_own m;
    only = λ ws r k h next. only_more params whole often (joined params outs ws) ws r
        (joined_least params outs ws ws (λ t a. a) (has ws k)) next;
  }

  -- instructions behind a part
  pub ends : {ins mid all outs : List ℕ} {m n : Mark} {c d : Code} (o : Mark) → n.temps ≤ o.temps →
      n.labels ≡ o.labels → Passes params whole often g ds ins mid m n c → IsStraight params whole often all outs d
      → ((ws : List ℕ) → Covers params g ds ws → HaveAll params ws ins →
      HaveAll params (joined params mid ws) all)
      → Passes params whole often g ds ins outs m o (λ r. c (d r))
  ends {mid = mid} {outs = outs} {m = m} {n = n} {c = c} {d = d} o le same a b fits = record {
    piece = then_own m n o c d le same b.plain a.piece;
    only = λ ws r k h next. a.only ws (d r) k h (b.only (joined params mid ws) r (fits ws k h)
        (only_more params whole often (joined params outs ws) (joined params outs (joined params mid ws)) r
        (joined_least params outs ws (joined params outs (joined params mid ws))
        (λ t u. joined_more params outs (joined params mid ws) t (joined_more params mid ws t u))
        (joined_has params outs (joined params mid ws))) next));
  }

  pub after : {ins mid outs : List ℕ} {m n : Mark} {c d : Code} → Passes params whole often g ds ins mid m n c →
      IsStraight params whole often mid outs d → Passes params whole often g ds ins outs m n (λ r. c (d r))
  after {mid = mid} {n = n} a b = ends n (omega arith) refl a b (λ ws k h. joined_has params mid ws)

  pub after_more : {ins mid outs : List ℕ} {m n : Mark} {c d : Code} (j : ℕ) →
      Passes params whole often g ds ins mid m n c →
      IsStraight params whole often mid outs d → Passes params whole often g ds ins outs m (more j n) (λ r. c (d r))
  after_more {mid = mid} {n = n} j a b = ends (more j n) (omega arith) refl a b (λ ws k h. joined_has params mid ws)

  pub alone : {ins outs : List ℕ} {c : Code} (m o : Mark) → m.temps ≤ o.temps → m.labels ≡ o.labels →
      IsStraight params whole often ins outs c
      → ((ws : List ℕ) → Covers params g ds ws → HaveAll params ws ins) → Passes params whole often g ds [] outs m o c
  alone m o le same b has = ends o le same (no_code [] m (λ ws k. tt)) b (λ ws k h. has ws k)

  -- one part behind the other
  pub both : {ins mid some outs : List ℕ} {l m n : Mark} {c d : Code} (all : List ℕ) →
      Passes params whole often g ds ins mid l m c →
      Passes params whole often g ds some outs m n d
      → ((ws : List ℕ) → HaveAll params ws ins → HaveAll params (joined params mid ws) some)
      → ((ws : List ℕ) → HaveAll params (joined params outs (joined params mid ws)) all) →
      Passes params whole often g ds ins all l n (λ r. c (d r))
  both {mid = mid} {outs = outs} {l = l} {m = m} {n = n} {c = c} {d = d} all a b fits has = record {
    piece = both_own l m n c d a.piece b.piece;
    only = λ ws r k h next. a.only ws (d r) k h (b.only (joined params mid ws) r
        (covers_more params g ds ws (joined params mid ws) (joined_more params mid ws) k) (fits ws h)
        (only_more params whole often (joined params all ws) (joined params outs (joined params mid ws)) r
        (joined_least params all ws (joined params outs (joined params mid ws))
        (λ t u. joined_more params outs (joined params mid ws) t (joined_more params mid ws t u)) (has ws)) next));
  }

  pub comma : {ins outs : List ℕ} {l m n : Mark} {c d : Code} → Passes params whole often g ds [] [] l m c →
      Passes params whole often g ds ins outs m n d →
      Passes params whole often g ds ins outs l n (λ r. c (d r))
  comma {ins = ins} {outs = outs} {l = l} {m = m} {n = n} {c = c} {d = d} a b = record {
    piece = both_own l m n c d a.piece b.piece;
    only = λ ws r k h next. a.only ws (d r) k tt (b.only ws r k h next);
  }

  -- ---- jumps

  pub choice : {ins outs : List ℕ} {l m n o : Mark} {c d f : Code} →
      Branches params whole often g ds l.labels (labelled 2 l) m c →
      Passes params whole often g ds ins outs m n d → Passes params whole often g ds ins outs n o f →
      Passes params whole often g ds ins outs l o (choice_code l.labels c d f)
  choice {ins = ins} {outs = outs} {l = l} {m = m} {n = n} {o = o} {c = c} {d = d} {f = f} a b e = record {
    piece = choice_own l m n o c d f a.piece b.piece e.piece;
    only = λ ws r k h next.
        let other : Only params whole often ws (f (instr.Label (l.labels + 1) ∷ r)) =
        e.only ws (instr.Label (l.labels + 1) ∷ r) k h
        (step_label params whole often (joined params outs ws) (l.labels + 1) r next) in
        let low : l.labels + 2 ≤ m.labels = a.piece.labels in
        let high : m.labels ≤ n.labels = b.piece.labels in
        a.only ws (d (second_way l.labels f r)) k
        (b.only ws (second_way l.labels f r) k h
        (step_jump params whole often (joined params outs ws) (l.labels + 1)
        (instr.Label l.labels ∷ f (instr.Label (l.labels + 1) ∷ r))
        (subst (Only params whole often (joined params outs ws)) (sym (to_end l n o f r (omega arith) e.piece)) next)))
        (subst (Only params whole often ws) (sym (to_other l m n o d f r low b.piece)) other);
  }

  pub guarded : {ins : List ℕ} {l m n : Mark} {c d : Code} →
      Branches params whole often g ds l.labels (labelled 1 l) m c →
      Passes params whole often g ds ins [] m n d →
      Passes params whole often g ds ins [] l n (guarded_code l.labels c d)
  guarded {ins = ins} {l = l} {m = m} {n = n} {c = c} {d = d} a b = record {
    piece = guarded_own l m n c d a.piece b.piece;
    only = λ ws r k h next.
        let low : l.labels + 1 ≤ m.labels = a.piece.labels in
        a.only ws (d (instr.Label l.labels ∷ r)) k
        (b.only ws (instr.Label l.labels ∷ r) k h (step_label params whole often ws l.labels r next))
        (subst (Only params whole often ws) (sym (b.piece.own l.labels (instr.Label l.labels ∷ r)
        (λ q. absurd (omega arith))
        ∙ found_label l.labels r)) next);
  }

  pub branch_both : {label : ℕ} {l m n : Mark} {c d : Code} → label < l.labels →
      Branches params whole often g ds label l m c →
      Branches params whole often g ds label m n d → Branches params whole often g ds label l n (λ r. c (d r))
  branch_both {label = label} {l = l} {m = m} {n = n} {c = c} {d = d} below a b = record {
    piece = both_own l m n c d a.piece b.piece;
    only = λ ws r k next over.
        let low : l.labels ≤ m.labels = a.piece.labels in
        a.only ws (d r) k (b.only ws r k next over)
        (subst (Only params whole often ws) (sym (b.piece.own label r (λ q. absurd (omega arith)))) over);
  }

  pub branch_around : {label : ℕ} {l m n : Mark} {c d : Code} → label < l.labels →
      Branches params whole often g ds l.labels (labelled 1 l) m c → Branches params whole often g ds label m n d →
      Branches params whole often g ds label l n (guarded_code l.labels c d)
  branch_around {label = label} {l = l} {m = m} {n = n} {c = c} {d = d} below a b = record {
    piece = guarded_own l m n c d a.piece b.piece;
    only = λ ws r k next over.
        let low : l.labels + 1 ≤ m.labels = a.piece.labels in
        a.only ws (d (instr.Label l.labels ∷ r)) k
        (b.only ws (instr.Label l.labels ∷ r) k (step_label params whole often ws l.labels r next)
        (past_label params whole often ws l.labels label r next over))
        (subst (Only params whole often ws) (sym (b.piece.own l.labels (instr.Label l.labels ∷ r)
        (λ q. absurd (omega arith))
        ∙ found_label l.labels r)) next);
  }

  pub jumps : (b : Bool) (label : ℕ) (m : Mark) → Branches params whole often g ds label m m (jump_if b label)
  jumps true label m = record {
    piece = record { temps = omega arith; labels = omega arith; own = λ o r h. refl };
    only = λ ws r k next over. step_jump params whole often ws label r over;
  }
  jumps false label m = record { piece = nothing_own m; only = λ ws r k next over. next }

  pub branch_on : {m n : Mark} {c : Code} (t : ℕ) (when : Bool) (label : ℕ) →
      Passes params whole often g ds [] (t ∷ []) m n c →
      Branches params whole often g ds label m n (λ r. c (instr.Branch t when label ∷ r))
  branch_on {m = m} {n = n} {c = c} t when label a = record {
    piece = then_own m n n c (λ r. instr.Branch t when label ∷ r) (omega arith) refl (λ l r. refl) a.piece;
    only = λ ws r k next over. a.only ws (instr.Branch t when label ∷ r) k tt
        (step_branch params whole often (t ∷ ws) t when label r (inl refl)
        (only_more params whole often ws (t ∷ ws) r (λ u h. inr h) next)
        (only_more params whole often ws (t ∷ ws) (behind label r) (λ u h. inr h) over));
  }

  -- what is written is not asked for
  pub unneeded : {ins outs : List ℕ} {m n : Mark} {c : Code} → Passes params whole often g ds ins outs m n c →
      Passes params whole often g ds ins [] m n c
  unneeded {outs = outs} a = record {
    piece = a.piece;
    only = λ ws r k h next.
        a.only ws r k h (only_more params whole often ws (joined params outs ws) r (joined_more params outs ws) next);
  }

  -- 1, or 0 where a condition is false
  pub truth : (to : ℕ) (m n : Mark) (c : Code) → Branches params whole often g ds m.labels (labelled 2 m) n c →
      Passes params whole often g ds [] (to ∷ []) m n (λ r. c (instr.Const to int_kind 1 ∷ instr.Jump (m.labels + 1)
      ∷ instr.Label m.labels ∷ instr.Const to int_kind 0 ∷ instr.Label (m.labels + 1) ∷ r))
  truth to m n c a = record {
    piece = record {
      temps = a.piece.temps;
      labels = let x = a.piece.labels in omega arith;
      own = λ i r h.
          let x = a.piece.labels in
          a.piece.own i (instr.Const to int_kind 1 ∷ after_one to m r) (λ le. let q = h (omega arith) in omega arith)
          ∙ pass_label m.labels i (instr.Const to int_kind 0 ∷ instr.Label (m.labels + 1) ∷ r)
          (λ q. let q2 = h (omega arith) in omega arith)
          ∙ pass_label (m.labels + 1) i r (λ q. let q2 = h (omega arith) in omega arith);
    };
    only = λ ws r k h next.
        let last : Only params whole often (to ∷ ws) (instr.Label (m.labels + 1) ∷ r) =
        step_label params whole often (to ∷ ws) (m.labels + 1) r next in
        a.only ws (instr.Const to int_kind 1 ∷ after_one to m r) k
        (step params whole often ws (instr.Const to int_kind 1) (after_one to m r) tt tt
        (step_jump params whole often (to ∷ ws) (m.labels + 1)
        (instr.Label m.labels ∷ instr.Const to int_kind 0 ∷ instr.Label (m.labels + 1) ∷ r)
        (subst (Only params whole often (to ∷ ws))
        (sym (pass_label m.labels (m.labels + 1) (instr.Const to int_kind 0 ∷ instr.Label (m.labels + 1) ∷ r)
        (λ q. absurd (omega arith)) ∙ found_label (m.labels + 1) r)) next)))
        (subst (Only params whole often ws)
        (sym (found_label m.labels (instr.Const to int_kind 0 ∷ instr.Label (m.labels + 1) ∷ r)))
        (step params whole often ws (instr.Const to int_kind 0) (instr.Label (m.labels + 1) ∷ r) tt tt last));
  }

  -- temps may be left out before a part, and some be there that it does not read
  pub earlier : {ins outs : List ℕ} {m n : Mark} {c : Code} (l : Mark) → (l.temps ≤ m.temps) × (l.labels ≡ m.labels) →
      Passes params whole often g ds ins outs m n c → Passes params whole often g ds ins outs l n c
  earlier l le a = record {
    piece = record {
      temps = let x = a.piece.temps in omega arith;
      labels = let x = a.piece.labels in omega arith;
      own = λ o r h. a.piece.own o r (λ q. h (omega arith));
    };
    only = a.only;
  }

  pub asking : {ins outs : List ℕ} {m n : Mark} {c : Code} → Passes params whole often g ds [] outs m n c →
      Passes params whole often g ds ins outs m n c
  asking a = record { piece = a.piece; only = λ ws r k h next. a.only ws r k tt next }

  pub asked : {ins outs : List ℕ} {m n : Mark} {c : Code} → Passes params whole often g ds ins outs m n c
      → ((ws : List ℕ) → Covers params g ds ws → HaveAll params ws ins) → Passes params whole often g ds [] outs m n c
  asked a has = record { piece = a.piece; only = λ ws r k h next. a.only ws r k (has ws k) next }
