-- The code of statements writes temps before it reads them, by induction on how it is made.
use Rattle.std.proofs.Common.{◌≡◌, ℕ, zero, suc, ◌+◌, ◌<◌, ◌≤◌, List, [], ◌∷◌, Option, Some, None, inl, inr, refl}
use Rattle.std.proofs.Common.{arith}
use Rattle.ck_base.specs.declared.positions.Pos.{Pos}
use Rattle.c_tree.specs.declared.typed.Typed.{Typed}
use Rattle.cheri_c_sem.specs.Kinds.{Kind}
use Rattle.cheri_c_sem.specs.Tree.{Ex, Declared, Label, St, Sts}
use Rattle.tac_ir.specs.Temps.{behind, in_option}
use Rattle.tac_ir.specs.declared.code.TacInstr.{TacInstr}
use Rattle.tac_ir.specs.declared.code.TacInstr.TheVariants as instr
use Rattle.tac_ir.specs.declared.code.TacKind.{TacKind}
use Rattle.lower_runs.specs.States.{Scene}
use Rattle.lower_runs.specs.Operating.{Code}
use Rattle.lower_runs.specs.Expressions.{Mark, Signature, within, within_mark, within_temp}
use Rattle.lower_runs.specs.Statements.{Exits, IsTest, IsStep, IsStatement, IsStatements, IsBody, count_labels}
use Rattle.lower_runs.specs.Statements as code
use Rattle.lower_runs.proofs.Labels.{nothing_own, then_own}
use Rattle.lower_writes.specs.Naming.{Says, AllSay, NamesTested, NamesIfAny, within_block}
use Rattle.lower_writes.proofs.Waiting.{Only, joined, joined_has, step_jump, step_return}
use Rattle.lower_writes.proofs.Straight.{first, done, follow, from_more, reaches_within}
use Rattle.lower_writes.proofs.Pieces.{Passes, Branches, no_code, ends, unneeded, asked}
use Rattle.lower_writes.proofs.Expressions.{operand, value, effect, condition, copy}
use Rattle.lower_writes.proofs.Parts.{Part, Leads, of_expression, sequence, part_choice, part_guarded}
use Rattle.lower_writes.proofs.Loops.{part_loop, part_repeat}
use Rattle.lower_writes.proofs.Blocks.{part_block}
use Rattle.lower_writes.proofs.Switches.{BodyPart, body_end, body_more, part_switch}

within_low : (offset : ℕ) (n : Mark) →
    (n.temps ≤ (within_mark offset n).temps) × (n.labels ≡ (within_mark offset n).labels)
within_low zero n = (omega arith, refl)
within_low (suc k) n = (omega arith, refl)

module _ (params : ℕ) (whole : List TacInstr) where
  part_jump : (g : Scene) (ds : List Declared) (x : Exits) (m : Mark) (l : ℕ)
      → ((often : ℕ) (ws : List ℕ) (r : List TacInstr) →
      Leads params whole often ws x m r →
      Only params whole often ws (behind l r)) →
      Part params whole g ds x m m (λ r. instr.Jump l ∷ r)
  part_jump g ds x m l leads = record {
    piece = record { temps = omega arith; labels = omega arith; own = λ q r h. refl };
    only = λ often ws r k st out next. step_jump params whole often ws l r (leads often ws r out);
  }

  part_return : (g : Scene) (ds : List Declared) (x : Exits) (m n : Mark) (c : Code) (v : Option ℕ) →
      ((often : ℕ) → Passes params whole often g ds [] (in_option v) m n c) →
      Part params whole g ds x m n (λ r. c (instr.Return v ∷ r))
  part_return g ds x m n c v a = record {
    piece = then_own m n n c (λ r. instr.Return v ∷ r) (omega arith) refl (λ l r. refl) (a 0).piece;
    only = λ often ws r k st out next. (a often).only ws (instr.Return v ∷ r) k tt
        (step_return params whole often (joined params
        (in_option v) ws) v r
        (joined_has params (in_option v) ws));
  }

  module _ (p : Typed) (signs : ℕ → Signature) (kinds : List TacKind) (result : Option TacKind) where
    test : {g : Scene} {t : Option (Pos × Kind × Ex)} {label : ℕ} {m n : Mark} {c : Code} (ds : List Declared) →
        IsTest p signs kinds result g t label m n c → NamesTested ds t → label < m.labels → (often : ℕ) →
        Branches params whole often g ds label m n c
    test ds (code.untested {label = label} {m = m}) names below often =
        record { piece = nothing_own m; only = λ ws r k next over. next }
    test {g = g} ds (code.tested h) names below often = condition params whole often g ds p signs kinds h names below

    loop_step : {g : Scene} {e : Option Ex} {m n : Mark} {c : Code} (ds : List Declared) →
        IsStep p signs kinds result g e m n c → NamesIfAny ds e → (often : ℕ) →
        Passes params whole often g ds [] [] m n c
    loop_step ds (code.unstepped {m = m}) names often = no_code [] m (λ ws k. tt)
    loop_step {g = g} ds (code.stepped h) names often = effect params whole often g ds p signs kinds h names

    mutual
      pub statement : {g : Scene} {x : Exits} {a : St} {m n : Mark} {c : Code} (ds : List Declared) →
          IsStatement p signs kinds result g x a m n c → Says ds a → Part params whole g ds x m n c
      statement {g = g} ds (code.evaluated {x = x} {m = m} {n = n} {c = c} h) names =
          of_expression params whole g ds x m n c (λ often. effect params whole often g ds p signs kinds h names)
      statement {g = g} ds (code.variable {x = x} {m = m} {n = n} {c = c} e h) names =
          of_expression params whole g ds x m n c
          (λ often. unneeded (value params whole often g ds p signs kinds h names))
      statement {g = g} ds (code.object {x = x} {o = o} {base = base} {v = v} {offset = offset} {k = k} {q = q} {m = m}
          {n = n} {c = c} e h) names =
          of_expression params whole g ds x m (within_mark offset n)
          (λ r. c (within base offset n (instr.Store (within_temp base offset n) v k q ∷ r)))
          (λ often. let low = within_low offset n in
          ends {all = base ∷ v ∷ []} (within_mark offset n) low.0 low.1
          (operand params whole often g ds p signs kinds h names.1)
          (follow (from_more (reaches_within base offset n) (λ ws h. (h.0, tt)))
          (first (instr.Store (within_temp base offset n) v k q) tt tt (λ ws h. (h.0, (h.1.1.0, tt)))
          (done (λ ws h. tt)))) (λ ws k h. (inr (k.spot o base names.0 e), (inl refl, tt))))
      statement {g = g} ds (code.struct {x = x} {o = o} {base = base} {m = m} {n = n} {c = c} e h) names =
          of_expression params whole g ds x m n c
          (λ often. asked (copy params whole often g ds p signs kinds h names.1)
          (λ ws k. (k.spot o base names.0 e, tt)))
      statement {g = g} ds (code.block {h = h} {x = x} {ds = es} {m = m} {n = n} {c = c} {d = d} e a) names =
          part_block params whole g h ds es x m n c d e (statements (within_block es ds) a names)
      statement {g = g} ds (code.choice {x = x} {l = l} {m = m} {n = n} {o = o} {c = c} {d = d} {f = f} h a b) names =
          part_choice params whole g ds x l m n o c d f
          (λ often. condition params whole often g ds p signs kinds h names.0 (omega arith))
          (statement ds a names.1) (statement ds b names.2)
      statement {g = g} ds (code.guarded {x = x} {l = l} {m = m} {n = n} {c = c} {d = d} h a) names =
          part_guarded params whole g ds x l m n c d
          (λ often. condition params whole often g ds p signs kinds h names.0 (omega arith)) (statement ds a names.1)
      statement {g = g} ds (code.looped {x = x} {l = l} {m = m} {n = n} {c = c} {d = d} h a) names =
          part_loop params whole g ds x l m n n c d (λ r. r) (test ds h names.0 (omega arith)) (statement ds a names.1)
          (λ often. no_code [] n (λ ws k. tt))
      statement {g = g} ds (code.repeated {x = x} {l = l} {m = m} {n = n} {c = c} {d = d} a h) names =
          let body = statement ds a names.0 in
          part_repeat params whole g ds x l m n c d body
          (λ often. condition params whole often g ds p signs kinds h names.1
          (let le = body.piece.labels in omega arith))
      statement {g = g} ds (code.counted {h = h} {x = x} {ds = es} {k = k} {l = l} {m = m} {n = n} {o = o} {a = a}
          {c = c} {d = d} {f = f} {i = i} e start t b s) names =
          part_block params whole g h ds es x k o a (λ r. i (code.loop_code l.labels c d f r)) e
          (sequence params whole h (within_block es ds) x k l o i (code.loop_code l.labels c d f)
          (statements (within_block es ds) start names.0)
          (part_loop params whole h (within_block es ds) x l m n o c d f
          (test (within_block es ds) t names.1 (omega arith)) (statement (within_block es ds) b names.3)
          (loop_step (within_block es ds) s names.2)))
      statement {g = g} ds (code.switched {h = h} {x = x} {j = j} {ds = es} {ls = ls} {v = v} {l = l} {m = m} {n = n}
          {a = a} {c = c} {d = d} o e beside kind once among b) names =
          part_switch params whole g h ds es x j v ls l m n c a d
          (λ often. operand params whole often g ds p signs kinds o names.0) e
          (body (within_block es ds) b names.1 (omega arith))
      statement {g = g} ds (code.leaves {x = x} {l = l} {m = m} e) names =
          part_jump g ds x m l (λ often ws r out. (out.breaks l e).1)
      statement {g = g} ds (code.continues {x = x} {l = l} {m = m} e) names =
          part_jump g ds x m l (λ often ws r out. (out.continues l e).1)
      statement {g = g} ds (code.returns {x = x} {m = m} e) names =
          part_return g ds x m m (λ r. r) None (λ often. no_code [] m (λ ws k. tt))
      statement {g = g} ds (code.returns_nothing {x = x} {m = m} {n = n} {c = c} e h) names =
          part_return g ds x m n c None (λ often. effect params whole often g ds p signs kinds h names)
      statement {g = g} ds (code.returns_value {x = x} {v = v} {m = m} {n = n} {c = c} e h) names =
          part_return g ds x m n c (Some v) (λ often. operand params whole often g ds p signs kinds h names)
      statement {g = g} ds (code.empty {x = x} {m = m}) names =
          of_expression params whole g ds x m m (λ r. r) (λ often. no_code [] m (λ ws k. tt))

      statements : {g : Scene} {x : Exits} {ss : Sts} {m n : Mark} {c : Code} (ds : List Declared) →
          IsStatements p signs kinds result g x ss m n c → AllSay ds ss → Part params whole g ds x m n c
      statements {g = g} ds (code.end {x = x} {m = m}) names =
          of_expression params whole g ds x m m (λ r. r) (λ often. no_code [] m (λ ws k. tt))
      statements {g = g} ds (code.seq {x = x} {l = l} {m = m} {n = n} {c = c} {d = d} a b) names =
          sequence params whole g ds x l m n c d (statement ds a names.0) (statements ds b names.1)

      body : {g : Scene} {x : Exits} {label number : ℕ} {ls : List Label} {ss : Sts} {m n : Mark} {c : Code}
          (ds : List Declared) → IsBody p signs kinds result g x label ls number ss m n c → AllSay ds ss →
          label + count_labels ls ≤ m.labels → BodyPart params whole g ds x label (count_labels ls) m n c
      body {g = g} ds (code.behind {x = x} {label = label} {number = number} {ls = ls} {m = m}) names room =
          body_end params whole g ds x label ls number m
      body {g = g} ds (code.among {x = x} {label = label} {number = number} {ls = ls} {l = l} {m = m} {n = n} {c = c}
          {d = d} a b) names room =
          let front = statement ds a names.0 in
          body_more params whole g ds x label ls number l m n c d room front
          (body ds b names.1 (let le = front.piece.labels in omega arith))
